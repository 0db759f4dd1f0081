-- Floats that are no NaN and far from the largest, over the format. A unit is the format's smallest value.
use Rattle.std.specs.Prelude.{Bool, true, List, ◌≡◌, ℕ, ◌*◌, ◌/◌, ◌%◌, ◌^◌, ◌≤◌, ◌<◌, length, Float}
use Rattle.std.specs.Float.{nan, inf, fin, Format, binary32, binary64}
use Rattle.std.specs.Float.Ieee.{low, top, up, down}
use Rattle.base_samples.specs.Words.{word_at}
use Rattle.base_samples.specs.Floats.{width}

-- finite, and of at most 2 ^ j units in size
abbrev pub Small : Format → ℕ → Float → Type 0
Small f j nan = ⊥
Small f j (inf s) = ⊥
Small f j (fin s m e) = m * up e * 2 ^ low f ≤ 2 ^ j * down e

-- a factor of at most 2 in size
abbrev pub Factor : Float → Type 0
Factor nan = ⊥
Factor (inf s) = ⊥
Factor (fin s m e) = m * up e ≤ 2 * down e

-- the pattern of 2 ^ 65, and of 2 ^ 769
abbrev pub edge : Format → ℕ
edge binary32 = 0x6000_0000
edge binary64 = 0x7000_0000_0000_0000

-- the floats of s from place i to before place j, as far as it has them, are below that in size
pub record SmallFrom (f : Format) (s : List ℕ) (i j : ℕ) : Type 0 where
  pub each : (p : ℕ) → i ≤ p → p < j → p < length s / width f → word_at (width f) s p % top f < edge f

-- where b is true they are
abbrev pub SmallIf : Bool → Format → List ℕ → ℕ → ℕ → Type 0
SmallIf b f s i j = b ≡ true → SmallFrom f s i j

-- of two bands
abbrev pub BothSmallIf : Bool → Format → List ℕ → List ℕ → ℕ → ℕ → Type 0
BothSmallIf b f a d i j = SmallIf b f a i j × SmallIf b f d i j
