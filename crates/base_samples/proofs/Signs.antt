-- The number of a word is its bits, read as a signed number of as many.
use mathlib.Core.Bool.{Bool, true, false, cond}
use mathlib.Core.Path.{◌≡◌, refl, ◌∙◌}
use Prim.Native.Nat.{ℕ, suc, ◌-◌, ◌/◌, ◌^◌}
use lib.IntN.{ℤ, pos, negsuc}
use mir.Syntax.{Width, w64}
use mir.Val.{to_z, of_z, bits, hbits, sel, SFits, Fits}
use mir.Facts.{to_z-of_z}
use mir.ValLaws.{to_z-Fits}
use Rattle.base_samples.specs.Integers.{val}

either : (b : Bool) (x y : ℤ) → sel b x y ≡ cond b x y
either true x y = refl
either false x y = refl

-- the word u of w bits as a signed number s of so many, and that as a number r of 64 bits
pub widened : (w : Width) (k u : ℕ) (s r : ℤ) → 256 ^ k ≡ 2 ^ bits w → 2 ^ bits w / 2 ≡ 2 ^ hbits w → Fits w u → s ≡ to_z w u → r ≡ to_z w (of_z w s) → SFits w64 r
    → to_z w64 (of_z w64 r) ≡ val (256 ^ k) u
unfolding val
widened w k u s r e h f is from fits =
    let g : SFits w s = rw is (to_z-Fits w u f) in
    to_z-of_z fits
    ∙ (from ∙ (to_z-of_z g ∙ (is ∙ (either _ (pos u) (negsuc (2 ^ bits w - suc u)) ∙ rw (e, h) refl))))
