-- Document 01's figures of the depth, and where floor(log2 n) would be wrong. Computed.
use mathlib.Core.Bool.{cond}
use mathlib.Core.Path.{◌≡◌, refl}
use Prim.Native.Nat.{ℕ, zero, suc, ◌/◌}
use lib.Dec.{ltb}
use Rattle.base_lengths.specs.declared.Wavelet.TheVariants.{Cdf53, Cdf97}
use Rattle.base_lengths.specs.Levels.{depth_within, depth_from, depth_of}
use Rattle.base_lengths.proofs.Depths.{depth-power}

pub record Depths53 : Type 0 where
  pub at-2 : depth_of Cdf53 2 ≡ 0
  pub at-3 : depth_of Cdf53 3 ≡ 1
  pub at-4 : depth_of Cdf53 4 ≡ 1
  pub at_5 : depth_of Cdf53 5 ≡ 2
  pub at_8 : depth_of Cdf53 8 ≡ 2
  pub at_9 : depth_of Cdf53 9 ≡ 3
  pub at_most : depth_of Cdf53 16777216 ≡ 23

pub depths53 : Depths53
unfolding depth_within depth_from
depths53 = record { at-2 = refl; at-3 = refl; at-4 = refl; at_5 = refl; at_8 = refl; at_9 = refl; at_most = depth-power 23 }

pub record Depths97 : Type 0 where
  pub at-3 : depth_of Cdf97 3 ≡ 0
  pub at-4 : depth_of Cdf97 4 ≡ 1
  pub at-6 : depth_of Cdf97 6 ≡ 1
  pub at_7 : depth_of Cdf97 7 ≡ 2
  pub at-12 : depth_of Cdf97 12 ≡ 2
  pub at-13 : depth_of Cdf97 13 ≡ 3

pub depths97 : Depths97
unfolding depth_within depth_from
depths97 = record { at-3 = refl; at-4 = refl; at-6 = refl; at_7 = refl; at-12 = refl; at-13 = refl }

-- floor(log2 n) of n, 1 or more, counted up to k: how often n halves, rounded down, before it is 1
unfoldable pub floor_log2 : ℕ → ℕ → ℕ
floor_log2 zero n = 0
floor_log2 (suc k) n = cond (ltb n 2) 0 (suc (floor_log2 k (n / 2)))

-- a depth of floor(log2 n) would gain a level at 4 and at 8
pub log-gains : (floor_log2 4 4 ≡ suc (depth_of Cdf53 4)) × (floor_log2 8 8 ≡ suc (depth_of Cdf53 8))
unfolding depth_within depth_from floor_log2
log-gains = (refl, refl)
