-- Whole numbers as differences a - b of naturals, `sub_ℕ a b`: sums, floors and residues of them, each as a fact of naturals, which `omega` reads.
use mathlib.Core.Path.{◌≡◌, refl, sym, ap, ◌∙◌}
use mathlib.Core.Logic.{⊎_elim}
use Prim.Native.Nat.{ℕ, zero, suc, ◌+◌, ◌-◌, ◌*◌, ◌/◌, ◌%◌, ◌≤◌, ◌<◌}
use native.Mathlib.Nat.{mod-lt, mod-eq_of_lt, mod-eq-sub-mod, mod-add-mod, add-mod-mod, zero-mod, add-mod_right, add-mul-mod_self_left, div-add-mod}
use native.Mathlib.Omega.{arith}
use borrow.Author.Tests.{lt-ltb, le-ltb}
use lib.IntN.{pos, negsuc, sub_ℕ, neg_ℤ, ◌+ℤ◌, ◌-ℤ◌}
use lib.Signed.{shr_z}
use Rattle.base_order.proofs.Order.{lt-or-le}
use Rattle.base_samples.specs.Integers.{residue}

pub sub-ge : (a b : ℕ) → b ≤ a → sub_ℕ a b ≡ pos (a - b)
sub-ge a b h = rw (le-ltb a b h)

pub sub-lt : (a b : ℕ) → a < b → sub_ℕ a b ≡ negsuc (b - suc a)
sub-lt a b h = rw (lt-ltb a b h)

pub sub_same : (a b c d : ℕ) → a + d ≡ c + b → sub_ℕ a b ≡ sub_ℕ c d
sub_same a b c d e =
    ⊎_elim
    (λ h. sub-lt a b h ∙ ap negsuc (omega arith) ∙ sym (sub-lt c d (omega arith)))
    (λ h. sub-ge a b h ∙ ap pos (omega arith) ∙ sym (sub-ge c d (omega arith)))
    (lt-or-le a b)

pub pos-sub : (n : ℕ) → pos n ≡ sub_ℕ n 0
pos-sub n = ap pos (omega arith) ∙ sym (sub-ge n 0 (omega arith))

pub sub-add : (a b c d : ℕ) → sub_ℕ a b +ℤ sub_ℕ c d ≡ sub_ℕ (a + c) (b + d)
sub-add a b c d =
    ⊎_elim
    (λ h.
    ⊎_elim
    (λ k. rw (sub-lt a b h, sub-lt c d k) (ap negsuc (omega arith) ∙ sym (sub-lt (a + c) (b + d) (omega arith))))
    (λ k. rw (sub-lt a b h, sub-ge c d k) (sub_same (c - d) (suc (b - suc a)) (a + c) (b + d) (omega arith)))
    (lt-or-le c d))
    (λ h.
    ⊎_elim
    (λ k. rw (sub-ge a b h, sub-lt c d k) (sub_same (a - b) (suc (d - suc c)) (a + c) (b + d) (omega arith)))
    (λ k. rw (sub-ge a b h, sub-ge c d k) (ap pos (omega arith) ∙ sym (sub-ge (a + c) (b + d) (omega arith))))
    (lt-or-le c d))
    (lt-or-le a b)

neg-pos : (n : ℕ) → neg_ℤ (pos n) ≡ sub_ℕ 0 n
neg-pos zero = refl
neg-pos (suc n) = ap negsuc (omega arith) ∙ sym (sub-lt 0 (suc n) (omega arith))

pub sub-neg : (a b : ℕ) → neg_ℤ (sub_ℕ a b) ≡ sub_ℕ b a
sub-neg a b =
    ⊎_elim
    (λ h. rw (sub-lt a b h) (ap pos (omega arith) ∙ sym (sub-ge b a (omega arith))))
    (λ h. rw (sub-ge a b h) (neg-pos (a - b) ∙ sub_same 0 (a - b) b a (omega arith)))
    (lt-or-le a b)

pub sub-sub : (a b c d : ℕ) → sub_ℕ a b -ℤ sub_ℕ c d ≡ sub_ℕ (a + d) (b + c)
sub-sub a b c d = rw (sub-neg c d) (sub-add a b d c)

-- halves and quarters, rounded down
pub floor-half : (a h : ℕ) → shr_z (sub_ℕ a (2 * h)) 2 ≡ sub_ℕ (a / 2) h
floor-half a h =
    ⊎_elim
    (λ k. rw (sub-lt a (2 * h) k) (ap negsuc (omega arith) ∙ sym (sub-lt (a / 2) h (omega arith))))
    (λ k. rw (sub-ge a (2 * h) k) (ap pos (omega arith) ∙ sym (sub-ge (a / 2) h (omega arith))))
    (lt-or-le a (2 * h))

pub floor-quarter : (a q : ℕ) → shr_z (sub_ℕ a (4 * q)) 4 ≡ sub_ℕ (a / 4) q
floor-quarter a q =
    ⊎_elim
    (λ k. rw (sub-lt a (4 * q) k) (ap negsuc (omega arith) ∙ sym (sub-lt (a / 4) q (omega arith))))
    (λ k. rw (sub-ge a (4 * q) k) (ap pos (omega arith) ∙ sym (sub-ge (a / 4) q (omega arith))))
    (lt-or-le a (4 * q))

-- ---- modulo M

-- b and what b lacks to a multiple of M
around : (M b x : ℕ) → 0 < M → (x + b + (M - b % M)) % M ≡ x % M
around M b x h =
    ap (λ (n : ℕ). n % M) (omega (arith, div-add-mod b M, mod-lt b h))
    ∙ add-mod_right (x + M * (b / M)) M
    ∙ add-mul-mod_self_left x M (b / M)

-- what is added on both sides may go
pub mod-cancel : (M x y b : ℕ) → 0 < M → (x + b) % M ≡ (y + b) % M → x % M ≡ y % M
mod-cancel M x y b h e =
    sym (around M b x h)
    ∙ sym (mod-add-mod (x + b) M (M - b % M))
    ∙ ap (λ (n : ℕ). (n + (M - b % M)) % M) e
    ∙ mod-add-mod (y + b) M (M - b % M)
    ∙ around M b y h

-- a number below 2 M that is 0 modulo M is 0 or M
mod-turn : (M k : ℕ) → 0 < k → k < M + M → k % M ≡ 0 → k ≡ M
mod-turn M k p q e =
    ⊎_elim
    (λ h. absurd (omega (arith, mod-eq_of_lt h)))
    (λ h. omega (arith, mod-eq-sub-mod h, mod-eq_of_lt {n = k - M} {m = M} (omega arith)))
    (lt-or-le k M)

-- a word r is the residue of a - b where r + b is a modulo M
pub residue-sub : (M a b r : ℕ) → r < M → (r + b) % M ≡ a % M → residue M (sub_ℕ a b) ≡ r
unfolding residue
residue-sub M a b r h e =
    let p : 0 < M = omega arith in
    ⊎_elim
    (λ k.
    let n = b - suc a in
    let z : (r + suc n) % M ≡ 0 % M = mod-cancel M (r + suc n) 0 a p (ap (λ (m : ℕ). m % M) (omega arith) ∙ e ∙ ap (λ (m : ℕ). m % M) (omega arith)) in
    let t : suc r + n % M ≡ M =
    mod-turn M (suc r + n % M) (omega arith) (omega (arith, mod-lt n p))
    (add-mod-mod (suc r) n M ∙ ap (λ (m : ℕ). m % M) (omega arith) ∙ z ∙ zero-mod M) in
    rw (sub-lt a b k) (omega arith))
    (λ k.
    rw (sub-ge a b k)
    (mod-cancel M (a - b) r b p (ap (λ (m : ℕ). m % M) (omega arith) ∙ sym e) ∙ mod-eq_of_lt h))
    (lt-or-le a b)
