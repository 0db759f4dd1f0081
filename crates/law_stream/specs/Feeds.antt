-- Calls on one recording, from C-15: "however the input is cut, the bands equal those of the whole", and which states calls leave. Over k bytes a sample.
use mathlib.Core.List.{List, [], ◌∷◌, ◌++◌, flatten}
use Rattle.std.specs.Prelude.{◌≡◌, ℕ, Err, ◌-◌, ◌*◌, ◌/◌, ◌%◌, ◌≤◌, length, take}
use Rattle.base_answers.specs.declared.err.Answer.{Answer}
use Rattle.base_answers.specs.declared.err.Refusal.TheVariants.{BadCount}
use Rattle.base_answers.specs.Answers.{Outcome, told, say}
use Rattle.base_lengths.specs.Lengths.{most_samples, approx_length, details_length}
use Rattle.base_samples.specs.Le.{Bytes}
use Rattle.filter_cdf53i.specs.Bands.{low, high, EnoughWords}
use Rattle.stream_pieces.specs.States.{fixed, state_of}
use Rattle.stream_calls.specs.StateBytes.{state_bytes}
use Rattle.stream_calls.specs.Calls.{Piece, fresh, Finish}

-- how many bytes of each band the piece y adds, after the samples x
abbrev pub added : ℕ → List ℕ → List ℕ → ℕ
added k x y = k * (fixed (length (x ++ y) / k) - fixed (length x / k))

-- the calls so far, from a fresh state: x is what the done pieces since the last done end held, joined; `lows` and `highs` are the first `added` bytes of each area
-- that they left, joined: all that they wrote (`piece-spares`); b is the state now. A refused call is one of them, and adds nothing. Each call may lend other areas
pub data Fed (k : ℕ) : List ℕ → List ℕ → List ℕ → List ℕ → Type 0 where
  begun : Fed k [] [] [] fresh
  taken : {x lows highs b y a d b' a' d' : List ℕ} {r : Answer} → Fed k x lows highs b → Bytes y → Piece k b y a d r b' a' d' → r.number ≡ 0
      → Fed k (x ++ y) (lows ++ take (added k x y) a') (highs ++ take (added k x y) d') b'
  refused : {x lows highs b a d b' a' d' : List ℕ} {r : Answer} → Fed k x lows highs b → (y : List ℕ) → Piece k b y a d r b' a' d' → (r.number ≡ 0 → ⊥)
      → Fed k x lows highs b'
  unfinished : {x lows highs b a d b' a' d' : List ℕ} {r : Answer} → Fed k x lows highs b → Finish k b a d r b' a' d' → (r.number ≡ 0 → ⊥) → Fed k x lows highs b'
  finished : {x lows highs b a d b' a' d' : List ℕ} {r : Answer} → Fed k x lows highs b → Finish k b a d r b' a' d' → r.number ≡ 0 → Fed k [] [] [] b'

-- what is so after such calls: b is the state that x leaves, and of each band its first `fixed` coefficients have been written
pub record After (k : ℕ) (x lows highs b : List ℕ) : Type 0 where
  pub bytes : Bytes x
  pub whole : length x ≡ k * (length x / k)
  pub few : length x / k ≤ most_samples
  pub state : b ≡ state_bytes (state_of k x)
  pub approx : lows ≡ take (k * fixed (length x / k)) (low k x)
  pub details : highs ≡ take (k * fixed (length x / k)) (high k x)

-- the approximations that the pieces wrote, and after them those that the end left in the area a'; and the details
abbrev pub all_lows : ℕ → List ℕ → List ℕ → List ℕ → List ℕ
all_lows k x lows a' = let t = length x / k in lows ++ take (k * (approx_length t - fixed t)) a'

abbrev pub all_highs : ℕ → List ℕ → List ℕ → List ℕ → List ℕ
all_highs k x highs d' = let t = length x / k in highs ++ take (k * (details_length t - fixed t)) d'

-- ---- "a state no calls could have left"

-- some calls left b
pub record LeftBy (k : ℕ) (b : List ℕ) : Type 0 where
  pub x : List ℕ
  pub lows : List ℕ
  pub highs : List ℕ
  pub calls : Fed k x lows highs b

-- s, said of b and of lengths in bytes, is 9 (0, 0) for no state that calls left, and for every other where the lengths are whole
pub record Nine (k : ℕ) (b : List ℕ) (y a d : ℕ) (s : Outcome) : Type 0 where
  pub only : s ≡ Err (BadCount 0 0) → LeftBy k b → ⊥
  pub every : y % k ≡ 0 → a % k ≡ 0 → d % k ≡ 0 → (LeftBy k b → ⊥) → s ≡ Err (BadCount 0 0)

-- ---- every list of pieces

-- each of them is bytes, of whole samples
unfoldable pub EachWhole : ℕ → List (List ℕ) → Type 0
EachWhole k [] = Unit {0}
EachWhole k (y ∷ ys) = Bytes y × (length y ≡ k * (length y / k)) × EachWhole k ys

-- a call for each, in order and all done, after the samples x and from the state b on: `lows` and `highs` are what they write, joined, and the state after them is last
pub data AllDone (k : ℕ) : List ℕ → List ℕ → List (List ℕ) → List ℕ → List ℕ → List ℕ → Type 0 where
  no_more : {x b : List ℕ} → AllDone k x b [] [] [] b
  one_more : {x b y a d b' a' d' lows highs last : List ℕ} {ys : List (List ℕ)} {r : Answer} → Bytes y → Piece k b y a d r b' a' d' → r.number ≡ 0
      → AllDone k (x ++ y) b' ys lows highs last → AllDone k x b (y ∷ ys) (take (added k x y) a' ++ lows) (take (added k x y) d' ++ highs) last

-- C-15 of the pieces ys in one sentence: calls from a fresh state on, one for each and all done; where they are 3 samples or more, any end with room for a coefficient
-- of each band is done too, and all that was written, joined, is the two bands of one level of the whole, and the state is fresh again
pub record Served (k : ℕ) (ys : List (List ℕ)) : Type 0 where
  pub lows : List ℕ
  pub highs : List ℕ
  pub state : List ℕ
  pub calls : AllDone k [] fresh ys lows highs state
  pub fed : Fed k (flatten ys) lows highs state
  pub ends : {a d : List ℕ} {r : Answer} {b' a' d' : List ℕ} → 3 ≤ length (flatten ys) / k → EnoughWords k 1 a → EnoughWords k 1 d → Finish k state a d r b' a' d'
      → (r ≡ say 0 0 0) × (all_lows k (flatten ys) lows a' ≡ low k (flatten ys)) × (all_highs k (flatten ys) highs d' ≡ high k (flatten ys)) × (b' ≡ fresh)
