-- Bytes of n samples and of their two bands, and that levels and bytes are few.
use mathlib.Core.Path.{◌≡◌, ap, ◌∙◌}
use Prim.Native.Nat.{ℕ, ◌+◌, ◌*◌, ◌≤◌, ◌<◌}
use native.Mathlib.Nat.{mul-add}
use native.Mathlib.Omega.{arith}
use Rattle.base_lengths.specs.declared.Wavelet.{Wavelet}
use Rattle.base_lengths.specs.Lengths.{most_samples, approx_length, details_length}
use Rattle.base_lengths.specs.Levels.{depth_of}
use Rattle.base_lengths.proofs.Depths.{depth-at-most}
use Rattle.levels_filter.specs.declared.filter.Filter.{Filter}
use Rattle.levels_filter.specs.declared.filter.Filter.TheVariants.{Cdf53I8, Cdf53I16, Cdf53I32, Cdf53F32, Cdf53F64, Cdf97F32, Cdf97F64}
use Rattle.levels_filter.specs.Filters.{width_of}

pub width-pos : (f : Filter) → 0 < width_of f
width-pos Cdf53I8 = omega arith
width-pos Cdf53I16 = omega arith
width-pos Cdf53I32 = omega arith
width-pos Cdf53F32 = omega arith
width-pos Cdf53F64 = omega arith
width-pos Cdf97F32 = omega arith
width-pos Cdf97F64 = omega arith

-- levels within the depth fit a byte
pub few-levels : (w : Wavelet) (l n : ℕ) → l ≤ depth_of w n → n ≤ most_samples → l < 256
few-levels w l n h s = omega (arith, h, depth-at-most w 23 n s)

pub split-width : (k n : ℕ) → k * n ≡ k * approx_length n + k * details_length n
split-width k n = let e : n ≡ approx_length n + details_length n = omega arith in ap (λ m. k * m) e ∙ mul-add k (approx_length n) (details_length n)

pub half-within : (k n : ℕ) → k * approx_length n ≤ k * n
half-within k n = omega (arith, split-width k n)
