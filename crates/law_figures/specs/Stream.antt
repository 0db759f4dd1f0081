-- A recording in pieces, from C-15: the worked example of docs/FORMAT.md, and a second one whose details wrap. Samples are 8 bits wide.
use Rattle.std.specs.Prelude.{Err, List, [], ◌∷◌, ◌≡◌, ℕ}
use Rattle.base_answers.specs.declared.err.Answer.{Answer}
use Rattle.base_answers.specs.declared.err.Refusal.TheVariants.{MinFilterSize, TooLong, NoRoom, BadCount}
use Rattle.base_answers.specs.Answers.{told, say}
use Rattle.base_answers.specs.Checks.{in_front}
use Rattle.filter_cdf53i.specs.Bands.{low, high}
use Rattle.stream_calls.specs.Calls.{say_piece, Piece, fresh, say_finish, Finish}
use Rattle.law_figures.specs.Worked.{five}

-- ---- a table of calls

-- what is lent for each band: two 9s, so that what is written is seen, a 0 too
abbrev pub nines : List ℕ
nines = 9 ∷ 9 ∷ []

-- the piece y at the state b is done: it leaves the state `new`, and `lows` and `highs` in front of the 9s
pub record Takes (b y new lows highs : List ℕ) : Type 0 where
  pub call : {r : Answer} {b' a' d' : List ℕ} → Piece 1 b y nines nines r b' a' d' → (r ≡ say 0 0 0) × (b' ≡ new) × (a' ≡ in_front lows nines) × (d' ≡ in_front highs nines)

-- and the end
pub record Ends (b new lows highs : List ℕ) : Type 0 where
  pub call : {r : Answer} {b' a' d' : List ℕ} → Finish 1 b nines nines r b' a' d' → (r ≡ say 0 0 0) × (b' ≡ new) × (a' ≡ in_front lows nines) × (d' ≡ in_front highs nines)

-- a row: a piece, the state after it, the approximations and the details that it fixes
abbrev pub Row : Type 0
Row = List ℕ × List ℕ × List ℕ × List ℕ

-- the calls of the rows, each at the state that the one before it left
unfoldable pub Table : List ℕ → List Row → Type 0
Table b [] = Unit {0}
Table b (row ∷ rows) = Takes b row.0 row.1 row.2 row.3 × Table row.1 rows

-- ---- "8-bit 0, 3, -4, 1, 7, each a piece of its own", and an empty piece before the first and after the third

abbrev pub none : List ℕ
none = 0 ∷ 0 ∷ 0 ∷ 0 ∷ 0 ∷ 0 ∷ 0 ∷ 0 ∷ 0 ∷ 0 ∷ 0 ∷ 0 ∷ 0 ∷ 0 ∷ 0 ∷ 0 ∷ []

abbrev pub two : List ℕ
two = 0x02 ∷ 0 ∷ 0 ∷ 0 ∷ 0 ∷ 0 ∷ 0 ∷ 0 ∷ 0x03 ∷ 0 ∷ 0 ∷ 0 ∷ 0 ∷ 0 ∷ 0 ∷ 0 ∷ []

abbrev pub three : List ℕ
three = 0x03 ∷ 0 ∷ 0 ∷ 0 ∷ 0xFC ∷ 0 ∷ 0 ∷ 0 ∷ 0 ∷ 0 ∷ 0 ∷ 0 ∷ 0x05 ∷ 0 ∷ 0 ∷ 0 ∷ []

abbrev pub four : List ℕ
four = 0x04 ∷ 0 ∷ 0 ∷ 0 ∷ 0xFC ∷ 0 ∷ 0 ∷ 0 ∷ 0x01 ∷ 0 ∷ 0 ∷ 0 ∷ 0x05 ∷ 0 ∷ 0 ∷ 0 ∷ []

abbrev pub last : List ℕ
last = 0x05 ∷ 0 ∷ 0 ∷ 0 ∷ 0x07 ∷ 0 ∷ 0 ∷ 0 ∷ 0 ∷ 0 ∷ 0 ∷ 0 ∷ 0 ∷ 0 ∷ 0 ∷ 0 ∷ []

-- Shut out: a mirrored end at a border (of the first two pieces the detail would be 3, and it is 5); counts by t / 2 (the first of each band would be written with the
-- second sample); a detail that is forgotten, the new one in its place (with 7 the approximation would be -4 + floor((0 + 0 + 2) / 4), 252, and it is 253); an empty piece
-- taken for the end; areas written past what is new
abbrev pub each : List Row
each =
    ([], none, [], [])
    ∷ (0 ∷ [], 0x01 ∷ 0 ∷ 0 ∷ 0 ∷ 0 ∷ 0 ∷ 0 ∷ 0 ∷ 0 ∷ 0 ∷ 0 ∷ 0 ∷ 0 ∷ 0 ∷ 0 ∷ 0 ∷ [], [], [])
    ∷ (3 ∷ [], two, [], [])
    ∷ (252 ∷ [], three, 3 ∷ [], 5 ∷ [])
    ∷ ([], three, [], [])
    ∷ (1 ∷ [], four, [], [])
    ∷ (7 ∷ [], last, 253 ∷ [], 0 ∷ [])
    ∷ []

-- ---- 127, -128, 127 and then 0, 127, an empty piece between: the first detail is -255, kept as 1

abbrev pub loud : List ℕ
loud = 0x05 ∷ 0 ∷ 0 ∷ 0 ∷ 0x7F ∷ 0 ∷ 0 ∷ 0 ∷ 0 ∷ 0 ∷ 0 ∷ 0 ∷ 0x81 ∷ 0 ∷ 0 ∷ 0 ∷ []

-- Shut out: a detail that is carried and not wrapped (the second approximation would be 127 + floor((-255 - 127 + 2) / 4), 32); one that is forgotten, the new one in its
-- place (127 + floor((-127 - 127 + 2) / 4), 64). It is 127 + floor((1 - 127 + 2) / 4), 96
abbrev pub wrapping : List Row
wrapping =
    (127 ∷ 128 ∷ 127 ∷ [], 0x03 ∷ 0 ∷ 0 ∷ 0 ∷ 0x7F ∷ 0 ∷ 0 ∷ 0 ∷ 0 ∷ 0 ∷ 0 ∷ 0 ∷ 0x01 ∷ 0 ∷ 0 ∷ 0 ∷ [], 128 ∷ [], 1 ∷ [])
    ∷ ([], 0x03 ∷ 0 ∷ 0 ∷ 0 ∷ 0x7F ∷ 0 ∷ 0 ∷ 0 ∷ 0 ∷ 0 ∷ 0 ∷ 0 ∷ 0x01 ∷ 0 ∷ 0 ∷ 0 ∷ [], [], [])
    ∷ (0 ∷ 127 ∷ [], loud, 96 ∷ [], 129 ∷ [])
    ∷ []

-- ---- states that no calls leave, and beside them some that calls do leave

-- at k bytes a sample these are refused, 9 (0, 0), by either call
pub record NoState (k : ℕ) (b : List ℕ) : Type 0 where
  pub piece : say_piece k b k k k ≡ Err (BadCount 0 0)
  pub finish : say_finish k b k k ≡ Err (BadCount 0 0)

-- two samples, of which the first is 256
abbrev pub wide : List ℕ
wide = 0x02 ∷ 0 ∷ 0 ∷ 0 ∷ 0 ∷ 0x01 ∷ 0 ∷ 0 ∷ 0x01 ∷ 0 ∷ 0 ∷ 0 ∷ 0 ∷ 0 ∷ 0 ∷ 0 ∷ []

-- as many samples as there may be
abbrev pub full : List ℕ
full = 0 ∷ 0 ∷ 0 ∷ 0x01 ∷ 0 ∷ 0 ∷ 0 ∷ 0 ∷ 0 ∷ 0 ∷ 0 ∷ 0 ∷ 0 ∷ 0 ∷ 0 ∷ 0 ∷ []

pub record Damaged : Type 0 where
  -- an odd sample waits after three samples
  pub odd : NoState 1 (0x03 ∷ 0 ∷ 0 ∷ 0 ∷ 0xFC ∷ 0 ∷ 0 ∷ 0 ∷ 0x01 ∷ 0 ∷ 0 ∷ 0 ∷ 0x05 ∷ 0 ∷ 0 ∷ 0 ∷ [])
  -- a detail is kept after two
  pub detail : NoState 1 (0x02 ∷ 0 ∷ 0 ∷ 0 ∷ 0 ∷ 0 ∷ 0 ∷ 0 ∷ 0x03 ∷ 0 ∷ 0 ∷ 0 ∷ 0x05 ∷ 0 ∷ 0 ∷ 0 ∷ [])
  -- something is kept of no samples
  pub even : NoState 1 (0 ∷ 0 ∷ 0 ∷ 0 ∷ 0x07 ∷ 0 ∷ 0 ∷ 0 ∷ 0 ∷ 0 ∷ 0 ∷ 0 ∷ 0 ∷ 0 ∷ 0 ∷ 0 ∷ [])
  -- the width is not stored: no state of 8-bit samples, and one of 16-bit samples
  pub narrow : NoState 1 wide
  pub wider : say_piece 2 wide 2 2 2 ≡ told 0 0
  -- one sample over the limit; and at the limit an empty piece is taken, and one sample is 6
  pub over : NoState 1 (0x01 ∷ 0 ∷ 0 ∷ 0x01 ∷ 0 ∷ 0 ∷ 0 ∷ 0 ∷ 0 ∷ 0 ∷ 0 ∷ 0 ∷ 0 ∷ 0 ∷ 0 ∷ 0 ∷ [])
  pub at-limit : say_piece 1 full 0 0 0 ≡ told 0 0
  pub past-limit : say_piece 1 full 1 1 1 ≡ Err TooLong
  -- a byte is missing
  pub byte-missing : NoState 1 (0 ∷ 0 ∷ 0 ∷ 0 ∷ 0 ∷ 0 ∷ 0 ∷ 0 ∷ 0 ∷ 0 ∷ 0 ∷ 0 ∷ 0 ∷ 0 ∷ 0 ∷ [])

pub record InPieces : Type 0 where
  pub zeros : fresh ≡ none
  pub example : Table none each
  -- "the end": after five samples, and had it come after four
  pub example-end : Ends last none (7 ∷ []) []
  pub even-end : Ends four none (255 ∷ []) (5 ∷ [])
  -- the joined bands are those of one level
  pub joined : (low 1 five ≡ 3 ∷ 253 ∷ 7 ∷ []) × (high 1 five ≡ 5 ∷ 0 ∷ [])
  pub wrapped : Table none wrapping
  pub wrapped-end : Ends loud none (64 ∷ []) []
  -- after two samples: no end yet; and the third needs room in both areas
  pub early : say_finish 1 two 2 2 ≡ Err (MinFilterSize 2 3)
  pub no_room : say_piece 1 two 1 1 0 ≡ Err (NoRoom 0 1)
  pub damaged : Damaged
