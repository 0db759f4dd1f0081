-- The lifting steps on words, once over the width: 4 Q words stand for the numbers from -2 Q to 2 Q - 1. The code adds 2 Q to a word modulo 4 Q:
-- its bias, which is its number plus 2 Q. So floor((x + z) / 2) + 2 Q is half the sum of two biases, a division of naturals.
use Rattle.std.proofs.Common.{◌≡◌, ℕ, ◌+◌, ◌*◌, ◌/◌, ◌%◌, ◌^◌, ◌<◌, pos, ◌+ℤ◌, ◌-ℤ◌, sym, refl, ap, ◌∙◌, mod-lt, arith}
use native.Mathlib.Nat.{mod-add-mod}
use lib.Signed.{shr_z}
use Rattle.base_samples.specs.Integers.{Width, quarter, val, residue}
use Rattle.base_samples.proofs.Diff.{sub_same, pos-sub, sub-add, sub-sub, floor-half, floor-quarter, residue-sub}
use Rattle.base_samples.proofs.IntegerLaws.{bias, val-sub}

-- b and c are the biases of u and z; t is v less their mean, and the bias of t is the detail
pub detail-word : (Q u v z b c t : ℕ) → u < 4 * Q → v < 4 * Q → z < 4 * Q → b ≡ bias Q u → c ≡ bias Q z → (t + (b + c) / 2) % (4 * Q) ≡ v
    → bias Q t ≡ residue (4 * Q) (val (4 * Q) v -ℤ shr_z (val (4 * Q) u +ℤ val (4 * Q) z) 2)
detail-word Q u v z b c t hu hv hz eb ec e =
    rw (val-sub Q u hu, val-sub Q v hv, val-sub Q z hz, ← eb, ← ec, sub-add, sub_same (b + c) (2 * Q + 2 * Q) (b + c) (2 * (2 * Q)) (omega arith), floor-half, sub-sub)
    (sym (residue-sub (4 * Q) (bias Q v + 2 * Q) (2 * Q + (b + c) / 2) (bias Q t) (mod-lt (t + 2 * Q) (omega arith))
    (rw (← e) (simp mod-add-mod (ap (λ (n : ℕ). n % (4 * Q)) (omega arith))))))

-- b and c are the biases of the details d and e; t is x less Q, to which a quarter of the biased sum is added
pub approx-word : (Q x d e b c t : ℕ) → x < 4 * Q → d < 4 * Q → e < 4 * Q → b ≡ bias Q d → c ≡ bias Q e → (t + Q) % (4 * Q) ≡ x
    → (t + (b + c + 2) / 4) % (4 * Q) ≡ residue (4 * Q) (val (4 * Q) x +ℤ shr_z (val (4 * Q) d +ℤ val (4 * Q) e +ℤ pos 2) 4)
approx-word Q x d e b c t hx hd he eb ec p =
    let m = (b + c + 2) / 4 in
    rw (val-sub Q x hx, val-sub Q d hd, val-sub Q e he, ← eb, ← ec, pos-sub 2, sub-add, sub-add, sub_same (b + c + 2) (2 * Q + 2 * Q + 0) (b + c + 2) (4 * Q) (omega arith), floor-quarter, sub-add)
    (sym (residue-sub (4 * Q) (bias Q x + m) (2 * Q + Q) ((t + m) % (4 * Q)) (mod-lt (t + m) (omega arith))
    (rw (← p) (simp mod-add-mod (ap (λ (n : ℕ). n % (4 * Q)) (omega arith))))))

-- ---- backwards: t is v less 2 Q, to which the mean is added
pub undetail-word : (Q u v z b c t : ℕ) → u < 4 * Q → v < 4 * Q → z < 4 * Q → b ≡ bias Q u → c ≡ bias Q z → (t + 2 * Q) % (4 * Q) ≡ v
    → (t + (b + c) / 2) % (4 * Q) ≡ residue (4 * Q) (val (4 * Q) v +ℤ shr_z (val (4 * Q) u +ℤ val (4 * Q) z) 2)
undetail-word Q u v z b c t hu hv hz eb ec e =
    let m = (b + c) / 2 in
    rw (val-sub Q u hu, val-sub Q v hv, val-sub Q z hz, ← eb, ← ec, sub-add, sub_same (b + c) (2 * Q + 2 * Q) (b + c) (2 * (2 * Q)) (omega arith), floor-half, sub-add)
    (sym (residue-sub (4 * Q) (bias Q v + m) (2 * Q + 2 * Q) ((t + m) % (4 * Q)) (mod-lt (t + m) (omega arith))
    (rw (← e) (simp mod-add-mod (ap (λ (n : ℕ). n % (4 * Q)) (omega arith))))))

-- t is x less a quarter of the biased sum, to which Q is added
pub unapprox-word : (Q x d e b c t : ℕ) → x < 4 * Q → d < 4 * Q → e < 4 * Q → b ≡ bias Q d → c ≡ bias Q e → (t + (b + c + 2) / 4) % (4 * Q) ≡ x
    → (t + Q) % (4 * Q) ≡ residue (4 * Q) (val (4 * Q) x -ℤ shr_z (val (4 * Q) d +ℤ val (4 * Q) e +ℤ pos 2) 4)
unapprox-word Q x d e b c t hx hd he eb ec p =
    let m = (b + c + 2) / 4 in
    rw (val-sub Q x hx, val-sub Q d hd, val-sub Q e he, ← eb, ← ec, pos-sub 2, sub-add, sub-add, sub_same (b + c + 2) (2 * Q + 2 * Q + 0) (b + c + 2) (4 * Q) (omega arith), floor-quarter, sub-sub)
    (sym (residue-sub (4 * Q) (bias Q x + Q) (2 * Q + m) ((t + Q) % (4 * Q)) (mod-lt (t + Q) (omega arith))
    (rw (← p) (simp mod-add-mod (ap (λ (n : ℕ). n % (4 * Q)) (omega arith))))))

-- ---- the steps as the code takes them: q is a quarter of the words, h half of them, and m a mean that is added or taken away
module _ {k : ℕ} (w : Width k) where
  pub detail-step : {u v z m h r : ℕ} (t : ℕ) → u < 256 ^ k → v < 256 ^ k → z < 256 ^ k → m ≡ (bias (quarter k) u + bias (quarter k) z) / 2 → (t + m) % 256 ^ k ≡ v → h ≡ 2 * quarter k → r ≡ (t + h) % 256 ^ k
      → r ≡ residue (256 ^ k) (val (256 ^ k) v -ℤ shr_z (val (256 ^ k) u +ℤ val (256 ^ k) z) 2)
  detail-step {u} {v} {z} {m} {h} {r} t hu hv hz em et eh er =
      let e = w.words in
      er ∙ rw (eh, e) (detail-word (quarter k) u v z (bias (quarter k) u) (bias (quarter k) z) t (rw e at hu) (rw e at hv) (rw e at hz) refl refl (rw (em, e) at et))

  pub approx-step : {x d g m q r : ℕ} (t : ℕ) → x < 256 ^ k → d < 256 ^ k → g < 256 ^ k → m ≡ (bias (quarter k) d + bias (quarter k) g + 2) / 4 → q ≡ quarter k → (t + q) % 256 ^ k ≡ x → r ≡ (t + m) % 256 ^ k
      → r ≡ residue (256 ^ k) (val (256 ^ k) x +ℤ shr_z (val (256 ^ k) d +ℤ val (256 ^ k) g +ℤ pos 2) 4)
  approx-step {x} {d} {g} {m} {q} {r} t hx hd hg em eq et er =
      let e = w.words in
      er ∙ rw (em, e) (approx-word (quarter k) x d g (bias (quarter k) d) (bias (quarter k) g) t (rw e at hx) (rw e at hd) (rw e at hg) refl refl (rw (eq, e) at et))

  pub odd_step : {u v z m h r : ℕ} (t : ℕ) → u < 256 ^ k → v < 256 ^ k → z < 256 ^ k → m ≡ (bias (quarter k) u + bias (quarter k) z) / 2 → h ≡ 2 * quarter k → (t + h) % 256 ^ k ≡ v → r ≡ (t + m) % 256 ^ k
      → r ≡ residue (256 ^ k) (val (256 ^ k) v +ℤ shr_z (val (256 ^ k) u +ℤ val (256 ^ k) z) 2)
  odd_step {u} {v} {z} {m} {h} {r} t hu hv hz em eh et er =
      let e = w.words in
      er ∙ rw (em, e) (undetail-word (quarter k) u v z (bias (quarter k) u) (bias (quarter k) z) t (rw e at hu) (rw e at hv) (rw e at hz) refl refl (rw (eh, e) at et))

  pub even_step : {x d g m q r : ℕ} (t : ℕ) → x < 256 ^ k → d < 256 ^ k → g < 256 ^ k → m ≡ (bias (quarter k) d + bias (quarter k) g + 2) / 4 → (t + m) % 256 ^ k ≡ x → q ≡ quarter k → r ≡ (t + q) % 256 ^ k
      → r ≡ residue (256 ^ k) (val (256 ^ k) x -ℤ shr_z (val (256 ^ k) d +ℤ val (256 ^ k) g +ℤ pos 2) 4)
  even_step {x} {d} {g} {m} {q} {r} t hx hd hg em et eq er =
      let e = w.words in
      er ∙ rw (eq, e) (unapprox-word (quarter k) x d g (bias (quarter k) d) (bias (quarter k) g) t (rw e at hx) (rw e at hd) (rw e at hg) refl refl (rw (em, e) at et))
