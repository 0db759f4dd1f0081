-- A piece of a recording, and its end, from C-15: the checks of the two calls in order, and what each leaves. Over k bytes a sample.
use Rattle.std.specs.Prelude.{not, List, [], ◌∷◌, ◌++◌, ◌≡◌, ℕ, ◌+◌, ◌-◌, ◌/◌, ltb, length, replicate}
use Rattle.base_answers.specs.declared.err.Answer.{Answer}
use Rattle.base_answers.specs.declared.err.Refusal.TheVariants.{MinFilterSize, TooLong, BadCount}
use Rattle.base_answers.specs.Answers.{Outcome, told, answer_of}
use Rattle.base_answers.specs.Checks.{Check, first_refusal, ragged, tight, left, in_front}
use Rattle.base_lengths.specs.declared.Wavelet.TheVariants.{Cdf53}
use Rattle.base_lengths.specs.Lengths.{most_samples, approx_length, details_length, smallest_of}
use Rattle.filter_cdf53i.specs.Bands.{low, high}
use Rattle.stream_pieces.specs.States.{fixed, state_of, stand_in, fixed_by, rest_of}
use Rattle.stream_calls.specs.StateBytes.{state_size, state_bytes, state_in, could_be}

-- the answer r of a call that says this, and the state and the two areas that it leaves: the state `new`, and `lows` and `highs` at the front of the areas, where it is done
pub record Streams (says : Outcome) (new lows highs b a d : List ℕ) (r : Answer) (b' a' d' : List ℕ) : Type 0 where
  pub answer : r ≡ answer_of says
  pub state : b' ≡ left says new b
  pub approx : a' ≡ left says (in_front lows a) a
  pub details : d' ≡ left says (in_front highs d) d

-- "9 (0, 0) a state no calls could have left"
abbrev pub state_check : ℕ → List ℕ → Check
state_check k b = (not (could_be k b), BadCount 0 0)

-- what both calls ask: byte lengths of whole samples, of the piece and of the areas, and then the state. An end has a piece of 0 bytes, which are whole
abbrev pub lent_checks : ℕ → List ℕ → ℕ → ℕ → ℕ → List Check
lent_checks k b y a d = ragged k y ∷ ragged k a ∷ ragged k d ∷ state_check k b ∷ []

-- "7 approximations, 7 details", in samples: p and q are lent for those after the first m of each band, up to i and up to j
abbrev pub band_checks : ℕ → ℕ → ℕ → ℕ → ℕ → List Check
band_checks p q m i j = tight p (i - m) ∷ tight q (j - m) ∷ []

-- ---- a piece

-- "6 total over the limit, 7 approximations, 7 details", after t samples
abbrev pub piece_checks : ℕ → ℕ → ℕ → ℕ → ℕ → List Check
piece_checks k t y a d = let n = t + y / k in (ltb most_samples n, TooLong) ∷ band_checks (a / k) (d / k) (fixed t) (fixed n) (fixed n)

unfoldable pub say_piece : ℕ → List ℕ → ℕ → ℕ → ℕ → Outcome
say_piece k b y a d = first_refusal (lent_checks k b y a d ++ piece_checks k (state_in b).total y a d) (told 0 0)

abbrev pub Piece : ℕ → List ℕ → List ℕ → List ℕ → List ℕ → Answer → List ℕ → List ℕ → List ℕ → Type 0
Piece k b y a d =
    let s = state_in b in
    Streams (say_piece k b (length y) (length a) (length d)) (state_bytes (state_of k (stand_in k s ++ y))) (fixed_by low k s y) (fixed_by high k s y) b a d

-- ---- the end: "finishing writes the rest and returns a fresh state"

-- 16 zeros
unfoldable pub fresh : List ℕ
fresh = replicate state_size 0

-- "1 when t is under 3, then the two 7s"
abbrev pub finish_checks : ℕ → ℕ → ℕ → ℕ → List Check
finish_checks k t a d =
    (ltb t (smallest_of Cdf53), MinFilterSize t (smallest_of Cdf53)) ∷ band_checks (a / k) (d / k) (fixed t) (approx_length t) (details_length t)

unfoldable pub say_finish : ℕ → List ℕ → ℕ → ℕ → Outcome
say_finish k b a d = first_refusal (lent_checks k b 0 a d ++ finish_checks k (state_in b).total a d) (told 0 0)

abbrev pub Finish : ℕ → List ℕ → List ℕ → List ℕ → Answer → List ℕ → List ℕ → List ℕ → Type 0
Finish k b a d =
    let s = state_in b in
    Streams (say_finish k b (length a) (length d)) fresh (rest_of low approx_length k s) (rest_of high details_length k s) b a d
