-- Room for levels: what one level of it is lent, and what it leaves for the levels below. Looks into no filter.
use mathlib.Core.List.{List}
use mathlib.Core.Path.{◌≡◌, ap}
use Prim.Native.Nat.{ℕ, suc, ◌*◌, ◌≤◌, ◌<◌}
use native.Mathlib.Omega.{arith}
use lib.ListN.{drop}
use Rattle.base_lengths.specs.Lengths.{approx_length, details_length, smallest_of}
use Rattle.base_lengths.specs.Levels.{after_levels, count_at, depth_of}
use Rattle.base_lengths.proofs.Depths.{step, two-below}
use Rattle.base_lengths.proofs.OneLevel.{count-is}
use Rattle.levels_filter.specs.declared.filter.Filter.{Filter}
use Rattle.levels_filter.specs.Filters.{width_of, wavelet_of}
use Rattle.levels_filter.specs.Calls.{LevelOf, LowOf, BandsOf, Room, Ready}
use Rattle.levels_filter.proofs.Cuts.{width-pos, half-within}
use Rattle.levels_filter.proofs.Lists.{later}

pub ready-room : (f : Filter) {l n x u v : ℕ} → Ready f l n x u v → Room f l n u v
ready-room f r = record { deep = r.deep; short = r.short; first = r.first; second = r.second }

module _ (f : Filter) {l n u v : ℕ} (r : Room f l n u v) where
  stepped : (m : ℕ) → m < l → (smallest_of (wavelet_of f) ≤ n) × (m ≤ depth_of (wavelet_of f) (approx_length n))
  stepped m h = step (smallest_of (wavelet_of f)) (two-below (wavelet_of f)) m n (omega (arith, r.deep))

  -- for m levels of the approximations, in areas that have room for the samples
  pub room-below : {t w : ℕ} (m : ℕ) → m < l → width_of f * n ≤ t → width_of f * n ≤ w → Room f m (approx_length n) t w
  room-below m h p q = let s = half-within (width_of f) n in record { deep = (stepped m h).1; short = omega (arith, r.short); first = omega arith; second = omega arith }

  -- the lengths of one level
  pub level-at : {x a d : ℕ} → 0 < l → x ≡ width_of f * n → BandsOf f n a d → LevelOf f x a d
  level-at {x} p e b =
      rw (count-is (width_of f) n x (width-pos f) e) (record { long = (stepped 0 p).0; short = r.short; samples = e; approx = b.0; details = b.1 })

  pub low-at : {x a : ℕ} → 0 < l → x ≡ width_of f * n → a ≡ width_of f * approx_length n → LowOf f x a
  low-at {x} p e b = level-at p e (b, ap (λ (j : ℕ). width_of f * details_length j) (count-is (width_of f) n x (width-pos f) e))

-- what the levels below one leave behind the bytes of its approximations, they leave behind those of its samples
pub kept-behind : (f : Filter) (n : ℕ) {half : ℕ} (a b : List ℕ) → half ≡ approx_length n → drop (width_of f * half) a ≡ drop (width_of f * half) b → drop (width_of f * n) a ≡ drop (width_of f * n) b
kept-behind f n a b e h = later _ _ a b (half-within (width_of f) n) (rw e at h)

-- the bands after no level, and after one more
pub bands-none : (f : Filter) {l a d : ℕ} (n : ℕ) → l ≡ 0 → BandsOf f (count_at l n) a d → BandsOf f n a d
unfolding after_levels
bands-none f n e b = rw e at b

pub bands-more : (f : Filter) {l m a d : ℕ} (n : ℕ) → l ≡ suc m → BandsOf f (count_at l n) a d → BandsOf f (count_at m (approx_length n)) a d
unfolding after_levels
bands-more f n e b = rw e at b
