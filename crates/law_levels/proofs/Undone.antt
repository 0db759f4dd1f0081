-- Many levels of a filter whose level undoes itself: the samples come back from their pyramid, and bands from their samples. The three integer filters are
-- such, for samples of every value, also where coefficients wrap.
use mathlib.Core.List.{List, [], ◌∷◌, ◌++◌}
use mathlib.Core.Logic.{⊎_elim}
use mathlib.Core.Path.{◌≡◌, refl, ap, ap₂, ◌∙◌}
use Prim.Native.Nat.{ℕ, zero, suc, ◌+◌, ◌-◌, ◌*◌, ◌≤◌, ◌<◌}
use native.Mathlib.Nat.{mul-add, mul-zero}
use native.Mathlib.Omega.{arith}
use lib.ListN.{length, get_or, take, drop, length-take, length-drop, take-append-drop, get_or-eq_default}
use lib.Seq.{length-take-le, get_or-take, get_or-drop}
use Rattle.base_order.proofs.Order.{lt-or-le}
use Rattle.base_lengths.specs.Lengths.{approx_length, details_length, smallest_of}
use Rattle.base_lengths.specs.Levels.{after_levels, there_and_back, depth_of}
use Rattle.base_lengths.proofs.Depths.{step, two-below}
use Rattle.base_samples.specs.Le.{Bytes}
use Rattle.base_samples.specs.Integers.{Width}
use Rattle.base_samples.proofs.Words.{holds}
use Rattle.filter_cdf53i.specs.Bands as integer
use Rattle.filter_cdf53i.proofs.Round.{back-low-high, back-and-low, back-and-high}
use Rattle.filter_cdf53i.proofs.Lengths.{bytes_low, bytes_back}
use Rattle.levels_filter.proofs.Integers.{each_width}
use Rattle.levels_filter.specs.declared.filter.Filter.{Filter}
use Rattle.levels_filter.specs.Filters.{width_of, wavelet_of, low_of, high_of, back_of, Integers}
use Rattle.levels_filter.specs.Pyramids.{approx_at, pyramid, samples_of, details_at, round_trip}
use Rattle.levels_filter.specs.Backward.{total, Fits}
use Rattle.base_lengths.proofs.Counts.{after_last}
use Rattle.law_levels.proofs.Lengths.{length-low, length_back}
use Rattle.law_levels.proofs.Trips.{pyramid-parts, details-deeper}

-- a level of k bytes a sample undoes itself: on bytes of 2 samples or more, and on bands of them
pub record Undoing (k : ℕ) (low high : List ℕ → List ℕ) (back : List ℕ → List ℕ → List ℕ) : Type 0 where
  -- the samples of the bands of samples are the samples
  pub there : (x : List ℕ) (n : ℕ) → Bytes x → length x ≡ k * n → 2 ≤ n → back (low x) (high x) ≡ x
  -- the bands of the samples of bands are the bands
  pub again-low : (a d : List ℕ) (n : ℕ) → Bytes a → Bytes d → length a ≡ k * approx_length n → length d ≡ k * details_length n → 2 ≤ n → low (back a d) ≡ a
  pub again-high : (a d : List ℕ) (n : ℕ) → Bytes a → Bytes d → length a ≡ k * approx_length n → length d ≡ k * details_length n → 2 ≤ n → high (back a d) ≡ d
  -- and what goes to the next level is bytes
  pub low-bytes : (x : List ℕ) → Bytes (low x)
  pub back-bytes : (a d : List ℕ) → Bytes (back a d)

-- of a filter
abbrev pub Undoes : Filter → Type 0
Undoes f = Undoing (width_of f) (low_of f) (high_of f) (back_of f)

-- ---- the integer filters

undoes-width : (k : ℕ) → Width k → Undoing k (integer.low k) (integer.high k) (integer.back k)
undoes-width k w = record {
  there = λ x n b e two. back-low-high w x b n (holds w.some x n e) two;
  again-low = λ a d n p q ea ed two. back-and-low w a d p q n (holds w.some a (approx_length n) ea) (holds w.some d (details_length n) ed) two;
  again-high = λ a d n p q ea ed two. back-and-high w a d p q n (holds w.some a (approx_length n) ea) (holds w.some d (details_length n) ed) two;
  low-bytes = bytes_low k;
  back-bytes = bytes_back k;
}

-- each of them undoes itself
pub undoes : (f : Filter) → Integers f → Undoes f
undoes = each_width Undoing undoes-width

-- ---- parts of bytes are bytes

pub bytes_take : (n : ℕ) (s : List ℕ) → Bytes s → Bytes (take n s)
bytes_take n s b = record { byte = λ i. ⊎_elim (within i) (past i) (lt-or-le i n) }
  where
    within : (i : ℕ) → i < n → get_or (take n s) i 0 < 256
    within i h = rw (get_or-take n s i 0 h) (b.byte i)

    past : (i : ℕ) → n ≤ i → get_or (take n s) i 0 < 256
    past i h = let e : length (take n s) ≤ i = rw (length-take n s) (omega arith) in rw (get_or-eq_default (take n s) 0 e) (omega arith)

pub bytes_drop : (n : ℕ) (s : List ℕ) → Bytes s → Bytes (drop n s)
bytes_drop n s b = record { byte = λ i. rw (get_or-drop n s i 0) (b.byte (n + i)) }

-- ---- many levels

module _ (f : Filter) (u : Undoes f) where
  -- levels and back give the samples, of every value
  pub trip-is : (l : ℕ) (x : List ℕ) (n : ℕ) → Bytes x → length x ≡ width_of f * n → l ≤ depth_of (wavelet_of f) n → round_trip f l x ≡ x
  unfolding there_and_back
  trip-is zero x n b e h = refl
  trip-is (suc l) x n b e h =
      let w = wavelet_of f in
      let s = step (smallest_of w) (two-below w) l n h in
      ap (λ (a : List ℕ). back_of f a (high_of f x)) (trip-is l (low_of f x) (approx_length n) (u.low-bytes x) (length-low f x n e) s.1)
      ∙ u.there x n b e (omega (arith, s.0, two-below w))

  -- back and levels give the bands, of every value
  again : (ms : List ℕ) (a d : List ℕ) (n : ℕ) → Bytes a → Bytes d → length a ≡ width_of f * n → length d ≡ width_of f * total ms → Fits (wavelet_of f) n ms
      → (approx_at f (length ms) (samples_of f a d ms) ≡ a) × (details_at f (length ms) (samples_of f a d ms) ≡ d)
  unfolding after_levels details_at samples_of total Fits
  again [] a [] n p q ea ed h = (refl, refl)
  again [] a (b ∷ d) n p q ea ed h = absurd (omega (arith, mul-zero (width_of f)))
  again (m ∷ ms) a d n p q ea ed h =
      let k = width_of f * m in
      let s = mul-add (width_of f) m (total ms) in
      let t = take k d in
      let c = drop k d in
      let b = back_of f a t in
      let x = samples_of f b c ms in
      let j = length ms in
      let et : length t ≡ k = length-take-le k d (omega arith) in
      let eb : length b ≡ width_of f * (n + m) = length_back f a t n m ea et ∙ omega (arith, ea, et, mul-add (width_of f) n m) in
      let ec : length c ≡ width_of f * total ms = length-drop k d ∙ omega arith in
      let ih = again ms b c (n + m) (u.back-bytes a t) (bytes_drop k d q) eb ec h.3 in
      let fa : length a ≡ width_of f * approx_length (n + m) = ea ∙ ap (λ (i : ℕ). width_of f * i) h.1 in
      let ft : length t ≡ width_of f * details_length (n + m) = et ∙ ap (λ (i : ℕ). width_of f * i) h.2 in
      let two : 2 ≤ n + m = omega (arith, h.0, two-below (wavelet_of f)) in (
        after_last (low_of f) j x ∙ ap (low_of f) ih.0 ∙ u.again-low a t (n + m) p (bytes_take k d q) fa ft two,
        details-deeper f j x
            ∙ ap₂ (λ (y z : List ℕ). y ++ z) (ap (high_of f) ih.0 ∙ u.again-high a t (n + m) p (bytes_take k d q) fa ft two) ih.1
            ∙ take-append-drop k d,
      )

  -- bands a and d of n approximations and of details of the lengths ms
  module _ (ms : List ℕ) (a d : List ℕ) (n : ℕ) (p : Bytes a) (q : Bytes d) (ea : length a ≡ width_of f * n) (ed : length d ≡ width_of f * total ms) (h : Fits (wavelet_of f) n ms) where
    -- the approximations of their samples are a
    pub approx-again : approx_at f (length ms) (samples_of f a d ms) ≡ a
    approx-again = (again ms a d n p q ea ed h).0

    -- the details are d
    pub details-again : details_at f (length ms) (samples_of f a d ms) ≡ d
    details-again = (again ms a d n p q ea ed h).1

    -- the pyramid is both
    pub pyramid-again : pyramid f (length ms) (samples_of f a d ms) ≡ a ++ d
    pyramid-again = pyramid-parts f (length ms) (samples_of f a d ms) ∙ ap₂ (λ (y z : List ℕ). y ++ z) approx-again details-again
