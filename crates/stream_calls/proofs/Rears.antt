-- All behind the first word of an area is lent and comes back. Over the width.
use mathlib.Core.List.{List, ◌++◌, append-nil}
use mathlib.Core.Path.{◌≡◌, sym, ap, ap₂, ◌∙◌}
use Prim.Native.Nat.{ℕ, ◌-◌, ◌*◌, ◌≤◌, ◌<◌}
use native.Mathlib.Nat.{mul-one, mul-sub, mul-le-mul_left}
use native.Mathlib.Omega.{arith}
use lib.ListN.{length, take, drop, length-append, length-drop, drop_of_length-le}
use lib.Seq.{take_all, length-take-le}
use Rattle.base_samples.specs.Words.{Holds}
use Rattle.base_samples.proofs.Words.{holds, holds_on}

-- the bytes that are lent of the area d
abbrev pub rear_of : ℕ → List ℕ → List ℕ
rear_of k d = take (length d - k) (drop k d)

-- which is all of them
pub rear-is : (k : ℕ) (d : List ℕ) → rear_of k d ≡ drop k d
rear-is k d = take_all (length d - k) (drop k d) (omega (arith, length-drop k d))

-- of an area of c words, one at least
pub record Behind (k c : ℕ) (d : List ℕ) : Type 0 where
  pub within : k ≤ length d
  pub words : Holds k (c - 1) (rear_of k d)

pub behind : {k c : ℕ} {d : List ℕ} → 0 < k → Holds k c d → 0 < c → Behind k c d
behind {k} {c} {d} p h some =
    let rear : k * (c - 1) ≡ k * c - k = mul-sub k c 1 ∙ ap (λ (n : ℕ). k * c - n) (mul-one k) in
    let one : k ≤ k * c = rw (mul-one k) at (mul-le-mul_left k some) in
    let within : k ≤ length d = omega (arith, h.size) in
    record {
      within = within;
      words = holds p (rear_of k d) (c - 1) (length-take-le (length d - k) (drop k d) (omega (arith, length-drop k d)) ∙ ap (λ (n : ℕ). n - k) h.size ∙ sym rear);
    }

-- the area with `part` in their place
abbrev pub with_rear : ℕ → List ℕ → List ℕ → List ℕ
with_rear k d part = take k d ++ (part ++ drop (length d - k) (drop k d))

pub behind-back : (k : ℕ) (d : List ℕ) {part new : List ℕ} → part ≡ new → with_rear k d part ≡ take k d ++ new
behind-back k d {new = new} same =
    ap (λ (r : List ℕ). take k d ++ r) (ap₂ ◌++◌ same (drop_of_length-le (drop k d) {i = length d - k} (omega (arith, length-drop k d))) ∙ append-nil new)

-- an area as long holds as many words
pub behind-holds : {k c : ℕ} {d : List ℕ} (part : List ℕ) → Holds k c d → Behind k c d → length part ≡ length (rear_of k d) → Holds k c (with_rear k d part)
behind-holds {k} {c} {d} part h b same =
    let rear = drop k d in
    let l = length d - k in
    holds_on (with_rear k d part) h
    (length-append (take k d) (part ++ drop l rear)
    ∙ omega (arith, b.within, length-take-le k d b.within, length-append part (drop l rear), length-take-le l rear (omega (arith, length-drop k d)), length-drop l rear, length-drop k d))
