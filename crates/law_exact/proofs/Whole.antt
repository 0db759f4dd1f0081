-- The laws of floats that are whole numbers over a power of two, over ℤ: sums, products with 2 ^ -j and -2 ^ -j, other scales, numerical equality. And
-- ℤ by its two parts, with which `omega` proves what is linear over ℤ. Over the format.
use mathlib.Core.Bool.{Bool, true, false, not, cond}
use mathlib.Core.Path.{◌≡◌, refl, sym, ◌∙◌}
use Prim.Native.Nat.{ℕ, zero, suc, ◌+◌, ◌-◌, ◌*◌, ◌^◌, ◌≤◌, ◌<◌}
use native.Mathlib.Nat.{add-zero, zero-mul}
use native.Mathlib.Omega.{arith}
use lib.Dec.{T, ltb, ltb→lt, nltb→le}
use lib.Ieee.{Float, Format, prec, low, add, mul, eq}
use lib.IntN.{ℤ, pos, negsuc, neg_ℤ, nat_abs, sub_ℕ, ◌+ℤ◌, ◌*ℤ◌}
use Rattle.law_exact.specs.Exact.{Worth, plus, minus, Is}
use Rattle.law_exact.proofs.Worth.{Within, add-worth, mul-worth, same-worth, scale-worth, unscale-worth, eq-worth}

-- ---- ℤ by its two parts

-- a difference of naturals: its parts and its size
sub_read : (a b : ℕ) → (plus (sub_ℕ a b) + b ≡ minus (sub_ℕ a b) + a) × (nat_abs (sub_ℕ a b) ≤ a + b)
sub_read a b = go (ltb a b) (ltb→lt a b) (nltb→le a b)
  where
    at : Bool → ℤ
    at x = cond x (negsuc (b - suc a)) (pos (a - b))

    go : (x : Bool) → (T x → a < b) → (T (not x) → b ≤ a) → (plus (at x) + b ≡ minus (at x) + a) × (nat_abs (at x) ≤ a + b)
    go true l r = let h = l tt in (omega arith, omega arith)
    go false l r = let h = r tt in (omega arith, omega arith)

add_read : (y z : ℤ) → plus (y +ℤ z) + (minus y + minus z) ≡ minus (y +ℤ z) + (plus y + plus z)
add_read (pos a) (pos b) = omega arith
add_read (pos a) (negsuc b) = omega (arith, sub_read a (suc b))
add_read (negsuc a) (pos b) = omega (arith, sub_read b (suc a))
add_read (negsuc a) (negsuc b) = omega arith

pub neg-read : (z : ℤ) → (plus (neg_ℤ z) ≡ minus z) × (minus (neg_ℤ z) ≡ plus z)
neg-read (pos zero) = (refl, refl)
neg-read (pos (suc a)) = (refl, refl)
neg-read (negsuc a) = (refl, refl)

mul-read : (z : ℤ) (c : ℕ) → (plus (z *ℤ pos c) ≡ plus z * c) × (minus (z *ℤ pos c) ≡ minus z * c)
mul-read (pos a) c = (refl, sym (zero-mul c))
mul-read (negsuc a) c = ((neg-read (pos (suc a * c))).0 ∙ sym (zero-mul c), (neg-read (pos (suc a * c))).1)

abs-read : (z : ℤ) → nat_abs z ≡ plus z + minus z
abs-read (pos a) = sym (add-zero a)
abs-read (negsuc a) = omega arith

within : (z : ℤ) (b : ℕ) → nat_abs z ≤ b → Within (plus z) (minus z) b
within z b h = omega (arith, abs-read z)

pub abs-add : (y z : ℤ) → nat_abs (y +ℤ z) ≤ nat_abs y + nat_abs z
abs-add (pos a) (pos b) = omega arith
abs-add (pos a) (negsuc b) = (sub_read a (suc b)).1
abs-add (negsuc a) (pos b) = omega (arith, (sub_read b (suc a)).1)
abs-add (negsuc a) (negsuc b) = omega arith

pub abs_neg : (z : ℤ) → nat_abs (neg_ℤ z) ≡ nat_abs z
abs_neg (pos zero) = refl
abs_neg (pos (suc a)) = refl
abs_neg (negsuc a) = refl

pub abs-mul : (z : ℤ) (c : ℕ) → nat_abs (z *ℤ pos c) ≡ nat_abs z * c
abs-mul (pos a) c = refl
abs-mul (negsuc a) c = abs_neg (pos (suc a * c))

-- ---- the laws of floats

pub is-add : (f : Format) (x y : Float) (z w : ℤ) (k : ℕ) → k ≤ low f → Is x z k → Is y w k → nat_abs (z +ℤ w) ≤ 2 ^ prec f → Is (add f x y) (z +ℤ w) k
is-add f x y z w k K h g b =
    let r = add_read z w in
    let i = within (z +ℤ w) (2 ^ prec f) b in
    same-worth (add f x y) (plus z + plus w) (minus z + minus w) (plus (z +ℤ w)) (minus (z +ℤ w)) k (omega arith)
    (add-worth f x y (plus z) (minus z) (plus w) (minus w) k K h g (omega arith))

-- the factors 2 ^ -j and -2 ^ -j
module _ (f : Format) (x c : Float) (z : ℤ) (k j : ℕ) (K : k + j ≤ low f) (h : Is x z k) where
  pub is-shrunk : Worth c 1 0 j → nat_abs z ≤ 2 ^ prec f → Is (mul f x c) z (k + j)
  is-shrunk g b =
      let i = within z (2 ^ prec f) b in
      same-worth (mul f x c) (plus z * 1 + minus z * 0) (plus z * 0 + minus z * 1) (plus z) (minus z) (k + j) (omega arith)
      (mul-worth f x c (plus z) (minus z) 1 0 k j K h g (omega arith))

  pub is_turned : Worth c 0 1 j → nat_abs z ≤ 2 ^ prec f → Is (mul f x c) (neg_ℤ z) (k + j)
  is_turned g b =
      let i = within z (2 ^ prec f) b in
      let r = neg-read z in
      same-worth (mul f x c) (plus z * 0 + minus z * 1) (plus z * 1 + minus z * 0) (plus (neg_ℤ z)) (minus (neg_ℤ z)) (k + j) (omega arith)
      (mul-worth f x c (plus z) (minus z) 0 1 k j K h g (omega arith))

-- a finer scale, and back
pub is-scaled : (x : Float) (z : ℤ) (k j : ℕ) → Is x z k → Is x (z *ℤ pos (2 ^ j)) (k + j)
is-scaled x z k j h =
    let r = mul-read z (2 ^ j) in
    same-worth x (plus z * 2 ^ j) (minus z * 2 ^ j) (plus (z *ℤ pos (2 ^ j))) (minus (z *ℤ pos (2 ^ j))) (k + j) (omega arith) (scale-worth x (plus z) (minus z) k j h)

pub is-unscaled : (x : Float) (z : ℤ) (k j : ℕ) → Is x (z *ℤ pos (2 ^ j)) (k + j) → Is x z k
is-unscaled x z k j h =
    let r = mul-read z (2 ^ j) in
    unscale-worth x (plus z) (minus z) k j
    (same-worth x (plus (z *ℤ pos (2 ^ j))) (minus (z *ℤ pos (2 ^ j))) (plus z * 2 ^ j) (minus z * 2 ^ j) (k + j) (omega arith) h)

pub is_eq : (x y : Float) (z : ℤ) (k : ℕ) → Is x z k → Is y z k → T (eq x y)
is_eq x y z k h g = eq-worth x y (plus z) (minus z) k h g
