-- What the calls promise, over the filter: one level, and the drivers with their checks, each a list in document 01's order.
use Rattle.std.specs.Prelude.{cond, not, List, [], ◌∷◌, ◌++◌, ◌≡◌, ℕ, ◌+◌, ◌-◌, ◌*◌, ◌/◌, ◌≤◌, ◌<◌, ltb, leb, eqb, length}
use Rattle.base_answers.specs.declared.err.Answer.{Answer}
use Rattle.base_answers.specs.declared.err.Refusal.{Refusal}
use Rattle.base_answers.specs.declared.err.Refusal.TheVariants.{MinFilterSize, OutputSizeIsNotValid, BufferWasTooSmallForLevel, TooLong}
use Rattle.base_answers.specs.Answers.{Outcome, told, answer_of}
use Rattle.base_answers.specs.Checks.{Check, first_refusal, ragged, two_areas, left, Spared, Call}
use Rattle.base_lengths.specs.Lengths.{most_samples, approx_length, details_length}
use Rattle.base_lengths.specs.Calls.{Level, Forward, Inverse, forward_bands}
use Rattle.base_lengths.specs.Levels.{count_at, depth_of, levels_of}
use Rattle.levels_filter.specs.declared.filter.Filter.{Filter}
use Rattle.levels_filter.specs.declared.filter.Filter.TheVariants.{Cdf53I8, Cdf53I16, Cdf53I32, Cdf53F32, Cdf53F64, Cdf97F32, Cdf97F64}
use Rattle.levels_filter.specs.Filters.{width_of, wavelet_of, low_of, high_of, back_of}
use Rattle.levels_filter.specs.Pyramids.{approx_at, pyramid}

-- x bytes of samples, and bands of a and d bytes, are a level of f
abbrev pub LevelOf : Filter → ℕ → ℕ → ℕ → Type 0
LevelOf f x a d = Level (wavelet_of f) (width_of f) (x / width_of f) x a d

-- the same of the approximations alone
abbrev pub LowOf : Filter → ℕ → ℕ → Type 0
LowOf f x a = LevelOf f x a (width_of f * details_length (x / width_of f))

-- bands of a and d bytes are those of n samples
abbrev pub BandsOf : Filter → ℕ → ℕ → ℕ → Type 0
BandsOf f n a d = (a ≡ width_of f * approx_length n) × (d ≡ width_of f * details_length n)

-- a and d are the bands of x
abbrev pub Parted : Filter → List ℕ → List ℕ → List ℕ → Type 0
Parted f x a d = (a ≡ low_of f x) × (d ≡ high_of f x)

-- one level of a filter, forward and back
abbrev pub OneForward : Filter → List ℕ → List ℕ → List ℕ → Answer → List ℕ → List ℕ → Type 0
OneForward f = Forward (wavelet_of f) (width_of f) (low_of f) (high_of f)

abbrev pub OneInverse : Filter → List ℕ → List ℕ → List ℕ → Answer → List ℕ → Type 0
OneInverse f = Inverse (wavelet_of f) (width_of f) (back_of f)

-- "for 0 or 1 levels and n too short, 1 in integer 5/3 and 4 in the float filters"
abbrev pub too_short : Filter → ℕ → Refusal
too_short Cdf53I8 n = MinFilterSize n 3
too_short Cdf53I16 n = MinFilterSize n 3
too_short Cdf53I32 n = MinFilterSize n 3
too_short Cdf53F32 n = BufferWasTooSmallForLevel
too_short Cdf53F64 n = BufferWasTooSmallForLevel
too_short Cdf97F32 n = BufferWasTooSmallForLevel
too_short Cdf97F64 n = BufferWasTooSmallForLevel

-- "6; for 0 or 1 levels and n too short ..; for more levels 4", also of writing a file
abbrev pub depth_checks : Filter → ℕ → ℕ → List Check
depth_checks f l n =
    (ltb most_samples n, TooLong) ∷ (ltb (depth_of (wavelet_of f) n) (levels_of l), cond (leb l 1) (too_short f n) BufferWasTooSmallForLevel) ∷ []

-- "3, 7, 7", also of `multi_idwt`: n samples are to be put out; m of the output, u and v of the work areas
abbrev pub room_checks : ℕ → ℕ → ℕ → ℕ → List Check
room_checks n m u v = (not (eqb m n), OutputSizeIsNotValid m n) ∷ two_areas u v n

-- "`multi_dwt`: 6; ..; 3; 7, 7", by samples: n of the signal
abbrev pub multi_checks : Filter → ℕ → ℕ → ℕ → ℕ → ℕ → List Check
multi_checks f l n m u v = depth_checks f l n ++ room_checks n m u v

-- the same by byte lengths
unfoldable pub say_multi : Filter → ℕ → ℕ → ℕ → ℕ → ℕ → Outcome
say_multi f l n m u v =
    first_refusal (ragged (width_of f) n ∷ ragged (width_of f) m ∷ ragged (width_of f) u ∷ ragged (width_of f) v
    ∷ multi_checks f l (n / width_of f) (m / width_of f) (u / width_of f) (v / width_of f))
    (told 0 0)

-- the answer r, and the output and the work areas that `multi_dwt` leaves
abbrev pub Multi : Filter → ℕ → List ℕ → List ℕ → List ℕ → List ℕ → Answer → List ℕ → List ℕ → List ℕ → Type 0
Multi f l x o u v = Call (say_multi f l (length x) (length o) (length u) (length v)) (length x) (pyramid f (levels_of l) x) o u v

-- "6, 4 (n too short, or depth below the levels)", then the bands "as forward with the last level's input length", "7, 7"
abbrev pub dwt_checks : Filter → ℕ → ℕ → ℕ → ℕ → ℕ → ℕ → List Check
dwt_checks f l n a d u v =
    let m = count_at (levels_of l - 1) n in
    (ltb most_samples n, TooLong)
    ∷ (ltb (depth_of (wavelet_of f) n) (levels_of l), BufferWasTooSmallForLevel)
    ∷ (forward_bands m a d ++ two_areas u v n)

unfoldable pub say_dwt : Filter → ℕ → ℕ → ℕ → ℕ → ℕ → ℕ → Outcome
say_dwt f l n a d u v =
    first_refusal (ragged (width_of f) n ∷ ragged (width_of f) a ∷ ragged (width_of f) d ∷ ragged (width_of f) u ∷ ragged (width_of f) v
    ∷ dwt_checks f l (n / width_of f) (a / width_of f) (d / width_of f) (u / width_of f) (v / width_of f))
    (told 0 0)

-- the answer r, and the bands of the last level and the work areas that `dwt` leaves
pub record Dwt (f : Filter) (l : ℕ) (x a d u v : List ℕ) (r : Answer) (a' d' u' v' : List ℕ) : Type 0 where
  pub answer : r ≡ answer_of (say_dwt f l (length x) (length a) (length d) (length u) (length v))
  pub approx : a' ≡ left (say_dwt f l (length x) (length a) (length d) (length u) (length v)) (low_of f (approx_at f (levels_of l - 1) x)) a
  pub details : d' ≡ left (say_dwt f l (length x) (length a) (length d) (length u) (length v)) (high_of f (approx_at f (levels_of l - 1) x)) d
  pub first : Spared (say_dwt f l (length x) (length a) (length d) (length u) (length v)) (length x) u u'
  pub second : Spared (say_dwt f l (length x) (length a) (length d) (length u) (length v)) (length x) v v'

-- two areas of u and v bytes have room for n samples, of which l levels run
pub record Room (f : Filter) (l n u v : ℕ) : Type 0 where
  pub deep : l ≤ depth_of (wavelet_of f) n
  pub short : n ≤ most_samples
  pub first : width_of f * n ≤ u
  pub second : width_of f * n ≤ v

-- what the checks leave for the levels: n samples, l levels within the depth, and byte lengths of the signal and of two work areas
pub record Ready (f : Filter) (l n x u v : ℕ) : Type 0 where
  pub some : 0 < l
  pub deep : l ≤ depth_of (wavelet_of f) n
  pub short : n ≤ most_samples
  pub whole : x ≡ width_of f * n
  pub first : width_of f * n ≤ u
  pub second : width_of f * n ≤ v

-- r is the byte at which the details of n samples start
pub record Cut (f : Filter) (n r : ℕ) : Type 0 where
  pub place : r ≡ width_of f * approx_length n
  pub within : r ≤ width_of f * n
  pub rest : width_of f * n ≡ r + width_of f * details_length n
