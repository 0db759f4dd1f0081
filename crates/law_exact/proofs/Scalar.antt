-- The float 5/3 steps are exact at one entry. An input is z / 2 ^ k with z at most b in size; a detail is over 2 ^ (k + 1) and at most 4 b, an approximation
-- over 2 ^ (k + 3) and at most 16 b; and back. Over the format, where there is room.
use mathlib.Core.Bool.{true, false}
use mathlib.Core.Path.{◌≡◌, refl}
use Prim.Native.Nat.{ℕ, ◌+◌, ◌*◌, ◌^◌, ◌≤◌}
use native.Mathlib.Omega.{arith}
use lib.Ieee.{Float, Format, binary32, binary64, prec, low, add, mul, round}
use lib.IntN.{ℤ, pos, neg_ℤ, nat_abs, ◌+ℤ◌, ◌-ℤ◌, ◌*ℤ◌, +ℤ_comm, +ℤ-neg_ℤ_cancel, -ℤ-+ℤ_cancel}
use Rattle.filter_floats.specs.Steps.{lift}
use Rattle.filter_floats.specs.Filters.{decimal}
use Rattle.law_exact.specs.Exact.{Worth, Is, Whole, FormatHolds, detail, approx}
use Rattle.law_exact.proofs.Whole.{is-add, is-shrunk, is_turned, is-scaled, is-unscaled, abs-add, abs_neg, abs-mul}

-- (l + r) * c + x for a factor c that is 2 ^ -j or -2 ^ -j, where m is k + j
module _ (f : Format) (k j m : ℕ) (e : k + j ≡ m) (K : m ≤ low f) (c l r x : Float) (z w y : ℤ) (hl : Is l z k) (hr : Is r w k) (hx : Is x y m)
    (s : nat_abs (z +ℤ w) ≤ 2 ^ prec f) where
  lift-is : (v : ℤ) → Is (mul f (add f l r) c) v (k + j) → nat_abs (y +ℤ v) ≤ 2 ^ prec f → Is (lift f c l r x) (y +ℤ v) m
  unfolding lift
  lift-is v h b = rw (+ℤ_comm y v) (is-add f (mul f (add f l r) c) x v y m K (rw e at h) hx (rw (+ℤ_comm v y) b))

  sum_is : Is (add f l r) (z +ℤ w) k
  sum_is = is-add f l r z w k (omega arith) hl hr s

  lift-adds : Worth c 1 0 j → nat_abs (y +ℤ (z +ℤ w)) ≤ 2 ^ prec f → Is (lift f c l r x) (y +ℤ (z +ℤ w)) m
  lift-adds g b = lift-is (z +ℤ w) (is-shrunk f (add f l r) c (z +ℤ w) k j (omega arith) sum_is g s) b

  lift-takes : Worth c 0 1 j → nat_abs (y -ℤ (z +ℤ w)) ≤ 2 ^ prec f → Is (lift f c l r x) (y -ℤ (z +ℤ w)) m
  lift-takes g b = lift-is (neg_ℤ (z +ℤ w)) (is_turned f (add f l r) c (z +ℤ w) k j (omega arith) sum_is g s) b

module _ (f : Format) (k b : ℕ) (room : FormatHolds f k b) (c l r x : Float) (z w y : ℤ) where
  pub detail-exact : Worth c 0 1 1 → Whole k b l z → Whole k b r w → Whole k b x y → Whole (k + 1) (4 * b) (lift f c l r x) (detail z w y)
  detail-exact g hl hr hx =
      let n : nat_abs (detail z w y) ≤ 4 * b = omega (arith, abs-add (y *ℤ pos 2) (neg_ℤ (z +ℤ w)), abs-mul y 2, abs_neg (z +ℤ w), abs-add z w) in
      record { is = lift-takes f k 1 (k + 1) refl (omega arith) c l r x z w (y *ℤ pos 2) hl.is hr.is (is-scaled x y k 1 hx.is) (omega (arith, abs-add z w)) g (omega arith); size = n }

  pub approx-exact : Worth c 1 0 2 → Whole (k + 1) (4 * b) l z → Whole (k + 1) (4 * b) r w → Whole k b x y → Whole (k + 3) (16 * b) (lift f c l r x) (approx z w y)
  approx-exact g hl hr hx =
      let n : nat_abs (approx z w y) ≤ 16 * b = omega (arith, abs-add (y *ℤ pos 8) (z +ℤ w), abs-mul y 8, abs-add z w) in
      record { is = lift-adds f (k + 1) 2 (k + 3) (omega arith) (omega arith) c l r x z w (y *ℤ pos 8) hl.is hr.is (is-scaled x y k 3 hx.is) (omega (arith, abs-add z w)) g (omega arith); size = n }

  -- back: what the inverse makes of an approximation is the even input, and of a detail the odd one
  pub even-back : Worth c 0 1 2 → Whole (k + 1) (4 * b) l z → Whole (k + 1) (4 * b) r w → Is x (approx z w y) (k + 3) → nat_abs y ≤ b → Whole k b (lift f c l r x) y
  even-back g hl hr hx hy =
      let e : approx z w y -ℤ (z +ℤ w) ≡ y *ℤ pos 8 = +ℤ-neg_ℤ_cancel (y *ℤ pos 8) (z +ℤ w) in
      let n : nat_abs (approx z w y -ℤ (z +ℤ w)) ≤ 2 ^ prec f = rw e (omega (arith, abs-mul y 8)) in
      let v : Is (lift f c l r x) (approx z w y -ℤ (z +ℤ w)) (k + 3) = lift-takes f (k + 1) 2 (k + 3) (omega arith) (omega arith) c l r x z w (approx z w y) hl.is hr.is hx (omega (arith, abs-add z w)) g n in
      record { is = is-unscaled (lift f c l r x) y k 3 (rw e at v); size = hy }

  pub odd-back : Worth c 1 0 1 → Whole k b l z → Whole k b r w → Is x (detail z w y) (k + 1) → nat_abs y ≤ b → Whole k b (lift f c l r x) y
  odd-back g hl hr hx hy =
      let e : detail z w y +ℤ (z +ℤ w) ≡ y *ℤ pos 2 = -ℤ-+ℤ_cancel (y *ℤ pos 2) (z +ℤ w) in
      let n : nat_abs (detail z w y +ℤ (z +ℤ w)) ≤ 2 ^ prec f = rw e (omega (arith, abs-mul y 2)) in
      let v : Is (lift f c l r x) (detail z w y +ℤ (z +ℤ w)) (k + 1) = lift-adds f k 1 (k + 1) refl (omega arith) c l r x z w (detail z w y) hl.is hr.is hx (omega (arith, abs-add z w)) g n in
      record { is = is-unscaled (lift f c l r x) y k 1 (rw e at v); size = hy }

-- the four factors: -0.5, 0.25, -0.25, 0.5
pub minus-half : (f : Format) → Worth (decimal f true 5 1) 0 1 1
unfolding decimal round
minus-half binary32 = refl
minus-half binary64 = refl

pub quarter : (f : Format) → Worth (decimal f false 25 2) 1 0 2
unfolding decimal round
quarter binary32 = refl
quarter binary64 = refl

pub minus-quarter : (f : Format) → Worth (decimal f true 25 2) 0 1 2
unfolding decimal round
minus-quarter binary32 = refl
minus-quarter binary64 = refl

pub half : (f : Format) → Worth (decimal f false 5 1) 1 0 1
unfolding decimal round
half binary32 = refl
half binary64 = refl
