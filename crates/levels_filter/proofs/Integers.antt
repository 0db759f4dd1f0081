-- The three integer filters: what is true of integer 5/3 of every width is true of each, and what they have in common.
use mathlib.Core.Bool.{true}
use mathlib.Core.List.{List}
use mathlib.Core.Path.{◌≡◌, refl, sym, subst}
use Prim.Native.Nat.{ℕ, ◌*◌, ◌≤◌}
use native.Mathlib.Omega.{arith}
use lib.ListN.{length}
use Rattle.base_lengths.specs.declared.Wavelet.{Wavelet}
use Rattle.base_lengths.specs.declared.Wavelet.TheVariants.{Cdf53}
use Rattle.base_lengths.specs.Lengths.{most_samples}
use Rattle.base_lengths.specs.Levels.{depth_of, levels_of}
use Rattle.base_samples.specs.Integers.{Width, is_width}
use Rattle.base_samples.proofs.IntegerLaws.{width-1, width-2, width-4}
use Rattle.filter_cdf53i.specs.Bands as integer
use Rattle.levels_filter.specs.declared.filter.Filter.{Filter}
use Rattle.levels_filter.specs.declared.filter.Filter.TheVariants.{Cdf53I8, Cdf53I16, Cdf53I32, Cdf53F32, Cdf53F64, Cdf97F32, Cdf97F64}
use Rattle.levels_filter.specs.Filters.{width_of, wavelet_of, low_of, high_of, back_of, Integers}
use Rattle.levels_filter.specs.Calls.{Ready}
use Rattle.levels_filter.specs.Backward.{Area}
use Rattle.levels_filter.proofs.Multi.{levels-pos}

-- what the integer 5/3 of every width is, each of the three is
pub each_width : (P : ℕ → (List ℕ → List ℕ) → (List ℕ → List ℕ) → (List ℕ → List ℕ → List ℕ) → Type 0) → ((k : ℕ) → Width k → P k (integer.low k) (integer.high k) (integer.back k))
    → (f : Filter) → Integers f → P (width_of f) (low_of f) (high_of f) (back_of f)
each_width P h Cdf53I8 i = h 1 width-1
each_width P h Cdf53I16 i = h 2 width-2
each_width P h Cdf53I32 i = h 4 width-4
each_width P h Cdf53F32 i = absurd i
each_width P h Cdf53F64 i = absurd i
each_width P h Cdf97F32 i = absurd i
each_width P h Cdf97F64 i = absurd i

-- their lengths are those of the 5/3
pub wavelet-is : (f : Filter) → Integers f → wavelet_of f ≡ Cdf53
wavelet-is Cdf53I8 i = refl
wavelet-is Cdf53I16 i = refl
wavelet-is Cdf53I32 i = refl
wavelet-is Cdf53F32 i = absurd i
wavelet-is Cdf53F64 i = absurd i
wavelet-is Cdf97F32 i = absurd i
wavelet-is Cdf97F64 i = absurd i

pub own-depth : (f : Filter) → Integers f → (l n : ℕ) → l ≤ depth_of Cdf53 n → l ≤ depth_of (wavelet_of f) n
own-depth f i l n h = subst (λ (w : Wavelet). l ≤ depth_of w n) (sym (wavelet-is f i)) h

-- n samples, levels within the depth, 0 as 1, and two work areas with room
pub lent-ready : (f : Filter) → Integers f → (l n : ℕ) → levels_of l ≤ depth_of Cdf53 n → n ≤ most_samples → (x u v : List ℕ) → length x ≡ width_of f * n
    → Area (width_of f) (length x) u → Area (width_of f) (length x) v → Ready f (levels_of l) n (length x) (length u) (length v)
lent-ready f i l n deep most x u v size first second = record {
  some = levels-pos l;
  deep = own-depth f i (levels_of l) n deep;
  short = most;
  whole = size;
  first = omega (arith, size, first.room);
  second = omega (arith, size, second.room);
}

-- what the integer filters have in common
pub record Common (f : Filter) : Type 0 where
  pub width : is_width (width_of f) ≡ true
  pub narrow : width_of f ≤ 4

-- each of them has it
pub common : (f : Filter) → Integers f → Common f
common Cdf53I8 i = record { width = refl; narrow = omega arith }
common Cdf53I16 i = record { width = refl; narrow = omega arith }
common Cdf53I32 i = record { width = refl; narrow = omega arith }
common Cdf53F32 i = absurd i
common Cdf53F64 i = absurd i
common Cdf97F32 i = absurd i
common Cdf97F64 i = absurd i
