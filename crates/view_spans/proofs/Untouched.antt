-- No sample outside a span can change its coefficient, however it wraps and where an end is mirrored: two recordings of one length that agree on the span have
-- the same word there. Once over the width, the levels and the band.
use mathlib.Core.List.{List}
use mathlib.Core.Path.{◌≡◌, sym, ap, ◌∙◌}
use Prim.Native.Nat.{ℕ, zero, suc, ◌+◌, ◌-◌, ◌*◌, ◌/◌, ◌^◌, ◌≤◌, ◌<◌, min}
use native.Mathlib.Nat.{mul-one, mul_left_comm, mul_assoc, pow-succ'}
use native.Mathlib.Numerals.{add-one}
use native.Mathlib.Omega.{arith}
use lib.ListN.{length}
use lib.Pow.{pow_pos}
use Rattle.base_lengths.specs.declared.Wavelet.TheVariants.{Cdf53}
use Rattle.base_lengths.specs.Lengths.{approx_length, details_length}
use Rattle.base_lengths.specs.Levels.{after_levels, count_at, depth_of}
use Rattle.base_lengths.proofs.Counts.{length-after}
use Rattle.base_lengths.proofs.Depths.{step, long-enough}
use Rattle.base_samples.specs.Words.{word_at}
use Rattle.base_samples.specs.Integers.{Width}
use Rattle.base_samples.proofs.Words.{holds}
use Rattle.filter_cdf53i.specs.Bands.{low, high}
use Rattle.filter_cdf53i.proofs.Lengths.{length-low}
use Rattle.filter_cdf53i.proofs.Near.{low_near, high-near}
use Rattle.view_spans.specs.declared.Band.TheVariants.{Approx, Details}
use Rattle.view_spans.specs.Spans.{reach_of, span_of, SpanDecides}

-- ---- a level more reads twice as far, and two samples further

reach-more : (l : ℕ) → reach_of (suc l) ≡ 2 * reach_of l + 2
reach-more l = omega (arith, ap (λ (n : ℕ). 2 ^ n) (add-one (suc l)), ap (λ (n : ℕ). 2 ^ n) (add-one l), pow-succ' 2 (suc l), pow-succ' 2 l, pow_pos l)

-- where place p of a level more stands
twice : (p l : ℕ) → p * 2 ^ suc l ≡ 2 * (p * 2 ^ l)
twice p l = ap (λ (n : ℕ). p * n) (pow-succ' 2 l) ∙ mul_left_comm p 2 (2 ^ l)

-- place p of a level is place 2p of the one before
pub doubled : (p l : ℕ) → 1 ≤ l → 2 * p * 2 ^ (l - 1) ≡ p * 2 ^ l
doubled p l o = let e : suc (l - 1) ≡ l = omega arith in mul_assoc 2 p (2 ^ (l - 1)) ∙ sym (twice p (l - 1)) ∙ ap (λ (m : ℕ). p * 2 ^ m) e

-- ---- many levels

module _ {k : ℕ} (w : Width k) where
  -- the bytes of the approximations of n samples
  low-length : (x : List ℕ) (n : ℕ) → length x ≡ k * n → length (low k x) ≡ k * approx_length n
  low-length x n e = length-low k x ∙ ap (λ (m : ℕ). k * approx_length m) (holds w.some x n e).count

  -- recordings that agree from i·2^l - r(l) to j·2^l + r(l) have the same approximations of level l from i to j
  pub approxs-agree : (l n i j : ℕ) (x y : List ℕ) → length x ≡ k * n → length y ≡ k * n → l ≤ depth_of Cdf53 n
      → ((m : ℕ) → i * 2 ^ l - reach_of l ≤ m → m ≤ j * 2 ^ l + reach_of l → m < n → word_at k x m ≡ word_at k y m)
      → (m : ℕ) → i ≤ m → m ≤ j → m < count_at l n → word_at k (after_levels (low k) l x) m ≡ word_at k (after_levels (low k) l y) m
  unfolding after_levels
  approxs-agree zero n i j x y hx hy d s m a b c = s m (omega (arith, mul-one i)) (omega (arith, mul-one j)) c
  approxs-agree (suc l) n i j x y hx hy d s m a b c =
      let t = step 3 (omega arith) l n d in
      approxs-agree l (approx_length n) i j (low k x) (low k y) (low-length x n hx) (low-length y n hy) t.1
      (λ p e f g. low_near w x y n hx hy (omega (arith, t.0)) p g (λ q u v. s q (omega (arith, twice i l, reach-more l)) (omega (arith, twice j l, reach-more l))))
      m a b c

  -- the theorem
  pub untouched : SpanDecides k (low k) (high k)
  unfolding span_of
  untouched Approx l n p x y hx hy o d h s = approxs-agree l n p p x y hx hy d (λ m e f g. s m (omega arith) (omega arith)) p (omega arith) (omega arith) h
  untouched Details l n p x y hx hy o d h s =
      let j = l - 1 in
      let e = doubled p l o in
      let f : (2 * p + 2) * 2 ^ j ≡ (p + 1) * 2 ^ l = ap (λ (q : ℕ). q * 2 ^ j) (omega arith) ∙ doubled (p + 1) l o in
      high-near w (after_levels (low k) j x) (after_levels (low k) j y) (count_at j n) (length-after (low k) k low-length j x n hx) (length-after (low k) k low-length j y n hy)
      (omega (arith, long-enough 3 (omega arith) l j n d (omega arith))) p h
      (approxs-agree j n (2 * p) (2 * p + 2) x y hx hy (omega arith) (λ q u v g. s q (omega arith) (omega arith)))
