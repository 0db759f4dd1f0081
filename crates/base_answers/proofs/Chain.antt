-- A call that makes its checks in a row says `first_refusal` of their list: one link for each check that passes, and one for the check that refuses.
use mathlib.Core.Bool.{Bool, true, false, cond, not}
use mathlib.Core.Path.{◌≡◌, sym, ap, ◌∙◌}
use Prim.Native.Nat.{ℕ}
use borrow.Author.Tests.{eq-eqb, ne_eqb}
use lib.Dec.{eqb}

-- the check passes
pub by : {A : Type 0} {b : Bool} (x : A) {y z : A} → b ≡ false → z ≡ y → z ≡ cond b x y
by x {y} e q = q ∙ sym (ap (λ t. cond t x y) e)

-- the check refuses
pub stop : {A : Type 0} {b : Bool} {x z : A} (y : A) → b ≡ true → z ≡ x → z ≡ cond b x y
stop {x = x} y e q = q ∙ sym (ap (λ t. cond t x y) e)

-- the tests `x != y`
pub same : (x y : ℕ) → x ≡ y → not (eqb x y) ≡ false
same x y e = ap not (eq-eqb x y e)

pub other : (x y : ℕ) → (x ≡ y → ⊥) → not (eqb x y) ≡ true
other x y e = ap not (ne_eqb x y e)
