-- How many bytes one level of each filter gives, forward and back: the seven filters, and then, by nothing but that, what many levels give.
use mathlib.Core.List.{List, [], ◌∷◌, ◌++◌}
use mathlib.Core.Path.{◌≡◌, refl, sym, ap, ◌∙◌}
use Prim.Native.Nat.{ℕ, zero, suc, ◌+◌, ◌*◌, ◌/◌, ◌≤◌}
use native.Mathlib.Nat.{mul-add, mul-zero}
use native.Mathlib.Omega.{arith}
use lib.Ieee.{binary32, binary64}
use lib.ListN.{length, get_or, length-append}
use Rattle.base_lengths.specs.declared.Wavelet.TheVariants.{Cdf53, Cdf97}
use Rattle.base_lengths.specs.Lengths.{approx_length, details_length}
use Rattle.base_lengths.specs.Levels.{after_levels, there_and_back, count_at}
use Rattle.base_lengths.proofs.Counts.{length-after}
use Rattle.base_samples.proofs.Words.{holds}
use Rattle.filter_cdf53i.proofs.Lengths as integer
use Rattle.filter_floats.proofs.Lengths as float
use Rattle.levels_filter.specs.declared.filter.Filter.{Filter}
use Rattle.levels_filter.specs.declared.filter.Filter.TheVariants.{Cdf53I8, Cdf53I16, Cdf53I32, Cdf53F32, Cdf53F64, Cdf97F32, Cdf97F64}
use Rattle.levels_filter.specs.Filters.{width_of, low_of, high_of, back_of}
use Rattle.levels_filter.specs.Pyramids.{approx_at, details_at, lengths_of, round_trip}
use Rattle.levels_filter.specs.Backward.{total}
use Rattle.levels_filter.proofs.Cuts.{width-pos, split-width}

-- ---- one level, by the seven filters

low-size : (f : Filter) (x : List ℕ) → length (low_of f x) ≡ width_of f * approx_length (length x / width_of f)
low-size Cdf53I8 x = integer.length-low 1 x
low-size Cdf53I16 x = integer.length-low 2 x
low-size Cdf53I32 x = integer.length-low 4 x
low-size Cdf53F32 x = float.length-low binary32 Cdf53 x
low-size Cdf53F64 x = float.length-low binary64 Cdf53 x
low-size Cdf97F32 x = float.length-low binary32 Cdf97 x
low-size Cdf97F64 x = float.length-low binary64 Cdf97 x

high-size : (f : Filter) (x : List ℕ) → length (high_of f x) ≡ width_of f * details_length (length x / width_of f)
high-size Cdf53I8 x = integer.length_high 1 x
high-size Cdf53I16 x = integer.length_high 2 x
high-size Cdf53I32 x = integer.length_high 4 x
high-size Cdf53F32 x = float.length_high binary32 Cdf53 x
high-size Cdf53F64 x = float.length_high binary64 Cdf53 x
high-size Cdf97F32 x = float.length_high binary32 Cdf97 x
high-size Cdf97F64 x = float.length_high binary64 Cdf97 x

back-size : (f : Filter) (a d : List ℕ) → length (back_of f a d) ≡ width_of f * (length a / width_of f) + width_of f * (length d / width_of f)
back-size Cdf53I8 a d = integer.length_back 1 a d
back-size Cdf53I16 a d = integer.length_back 2 a d
back-size Cdf53I32 a d = integer.length_back 4 a d
back-size Cdf53F32 a d = float.length_back binary32 Cdf53 a d
back-size Cdf53F64 a d = float.length_back binary64 Cdf53 a d
back-size Cdf97F32 a d = float.length_back binary32 Cdf97 a d
back-size Cdf97F64 a d = float.length_back binary64 Cdf97 a d

-- how many samples whole bytes are
counted : (f : Filter) (s : List ℕ) (n : ℕ) → length s ≡ width_of f * n → length s / width_of f ≡ n
counted f s n e = (holds (width-pos f) s n e).count

module _ (f : Filter) where
  -- the approximations of n samples
  pub length-low : (x : List ℕ) (n : ℕ) → length x ≡ width_of f * n → length (low_of f x) ≡ width_of f * approx_length n
  length-low x n e = low-size f x ∙ ap (λ m. width_of f * approx_length m) (counted f x n e)

  -- their details
  pub length_high : (x : List ℕ) (n : ℕ) → length x ≡ width_of f * n → length (high_of f x) ≡ width_of f * details_length n
  length_high x n e = high-size f x ∙ ap (λ m. width_of f * details_length m) (counted f x n e)

  -- the samples of two bands
  pub length_back : (a d : List ℕ) (n m : ℕ) → length a ≡ width_of f * n → length d ≡ width_of f * m → length (back_of f a d) ≡ length a + length d
  length_back a d n m ea ed =
      back-size f a d
      ∙ rw (counted f a n ea, counted f d m ed) (omega arith)

  -- ---- many levels

  -- the approximations after l levels
  pub length-approx : (l : ℕ) (x : List ℕ) (n : ℕ) → length x ≡ width_of f * n → length (approx_at f l x) ≡ width_of f * count_at l n
  length-approx = length-after (low_of f) (width_of f) length-low

  -- the samples after l levels and back
  pub length-trip : (l : ℕ) (x : List ℕ) (n : ℕ) → length x ≡ width_of f * n → length (round_trip f l x) ≡ length x
  unfolding there_and_back
  length-trip zero x n e = refl
  length-trip (suc l) x n e =
      let a = length-low x n e in
      let d = length_high x n e in
      let t = length-trip l (low_of f x) (approx_length n) a in
      length_back (round_trip f l (low_of f x)) (high_of f x) (approx_length n) (details_length n) (t ∙ a) d ∙ omega (arith, t, a, d, split-width (width_of f) n)

-- ---- lengths of levels

-- of two lists joined
pub total-append : (ms ns : List ℕ) → total (ms ++ ns) ≡ total ms + total ns
unfolding total
total-append [] ns = omega arith
total-append (m ∷ ms) ns = omega (arith, total-append ms ns)

-- none of them is more than all
pub at-most-total : (ms : List ℕ) (i : ℕ) → get_or ms i 0 ≤ total ms
unfolding total
at-most-total [] i = omega arith
at-most-total (m ∷ ms) zero = omega arith
at-most-total (m ∷ ms) (suc i) = omega (arith, at-most-total ms i)

-- l levels have l lengths
pub length-lengths : (l n : ℕ) → length (lengths_of l n) ≡ l
unfolding lengths_of
length-lengths zero n = refl
length-lengths (suc l) n = length-append (lengths_of l (approx_length n)) (details_length n ∷ []) ∙ omega (arith, length-lengths l (approx_length n))

-- the details of all levels and the last approximations are as many as the samples
pub count-at-total : (l n : ℕ) → count_at l n + total (lengths_of l n) ≡ n
unfolding after_levels lengths_of total
count-at-total zero n = omega arith
count-at-total (suc l) n = omega (arith, total-append (lengths_of l (approx_length n)) (details_length n ∷ []), count-at-total l (approx_length n))

-- the details of l levels
pub length-details : (f : Filter) (l : ℕ) (x : List ℕ) (n : ℕ) → length x ≡ width_of f * n → length (details_at f l x) ≡ width_of f * total (lengths_of l n)
unfolding details_at lengths_of total
length-details f zero x n e = sym (mul-zero (width_of f))
length-details f (suc l) x n e =
    let ms = lengths_of l (approx_length n) in
    let t : total (ms ++ (details_length n ∷ [])) ≡ total ms + details_length n = total-append ms (details_length n ∷ []) ∙ omega arith in
    length-append (details_at f l (low_of f x)) (high_of f x)
    ∙ rw (length-details f l (low_of f x) (approx_length n) (length-low f x n e), length_high f x n e, t) (sym (mul-add (width_of f) (total ms) (details_length n)))
