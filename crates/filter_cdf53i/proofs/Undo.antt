-- The inverse undoes the transform, and the transform the inverse, once over what is kept of a coefficient: for every width, also after wraps, and for
-- T.800's whole numbers.
use Rattle.std.proofs.Common.{◌≡◌, ℕ, suc, ◌+◌, ◌-◌, ◌*◌, ◌/◌, ◌%◌, ◌^◌, ◌<◌, ◌≤◌, min, List, length, ℤ, pos, negsuc, ◌+ℤ◌, ◌-ℤ◌, neg_ℤ, sym, ap, ◌∙◌, ⊎_elim, mod-lt, arith, ext_get_or, eq-eqb, ne_eqb}
use native.Mathlib.Nat.{mod-add-mod, add-mod_right, add-mul-mod_self_left, div-add-mod}
use lib.IntN.{sub_ℕ, +ℤ-neg_ℤ_cancel, -ℤ-+ℤ_cancel}
use Rattle.base_order.proofs.Order.{lt-or-le}
use Rattle.base_samples.specs.Words.{tabulate}
use Rattle.base_samples.specs.Integers.{val, residue, wrap, Width}
use Rattle.base_samples.proofs.LeLaws.{top_pos}
use Rattle.base_samples.proofs.Words.{length-tabulate, get_or-tabulate}
use Rattle.base_samples.proofs.Diff.{pos-sub, sub-lt, sub-ge, sub-add, mod-cancel, residue-sub}
use Rattle.base_samples.proofs.IntegerLaws.{residue-lt, word-wrap}
use Rattle.filter_cdf53i.specs.Lift.{at, floor_div, even_count, odd_count, detail, details, approx, approxs, even, odd, sample, restored}
use Rattle.filter_cdf53i.proofs.Lengths.{length-approxs, length-details, length-restored}

-- t added and taken away again, or the other way round, with each result kept, leaves what is kept of z
pub record Undoes (keep : ℤ → ℤ) : Type 0 where
  pub add : (z t : ℤ) → keep (keep (z +ℤ t) -ℤ t) ≡ keep z
  pub sub : (z t : ℤ) → keep (keep (z -ℤ t) +ℤ t) ≡ keep z

pub undoes-whole : Undoes (λ z. z)
undoes-whole = record { add = +ℤ-neg_ℤ_cancel; sub = -ℤ-+ℤ_cancel }

-- every whole number is a difference of naturals
whole : (z : ℤ) → (a : ℕ) × (b : ℕ) × (z ≡ sub_ℕ a b)
whole (pos n) = (n, 0, pos-sub n)
whole (negsuc n) = (0, suc n, ap negsuc (omega arith) ∙ sym (sub-lt 0 (suc n) (omega arith)))

mod-both : (M x y c : ℕ) → x % M ≡ y % M → (x + c) % M ≡ (y + c) % M
mod-both M x y c e = sym (mod-add-mod x M c) ∙ ap (λ (n : ℕ). (n + c) % M) e ∙ mod-add-mod y M c

module _ (M : ℕ) (p : 0 < M) where
  -- the residue of a - b, plus b, is a modulo M
  residue-is : (a b : ℕ) → (residue M (sub_ℕ a b) + b) % M ≡ a % M
  unfolding residue
  residue-is a b =
      ⊎_elim
      (λ k.
      let n = b - suc a in
      rw (sub-lt a b k)
      (ap (λ (m : ℕ). m % M) (omega (arith, div-add-mod n M, mod-lt n p))
      ∙ add-mod_right (a + M * (n / M)) M
      ∙ add-mul-mod_self_left a M (n / M)))
      (λ k. rw (sub-ge a b k, mod-add-mod) (ap (λ (m : ℕ). m % M) (omega arith)))
      (lt-or-le a b)

  residue-sums : (a b a' b' c d : ℕ) → residue M (sub_ℕ a b) ≡ residue M (sub_ℕ a' b') → residue M (sub_ℕ (a + c) (b + d)) ≡ residue M (sub_ℕ (a' + c) (b' + d))
  residue-sums a b a' b' c d e =
      let r = residue M (sub_ℕ a b) in
      let R = residue M (sub_ℕ (a' + c) (b' + d)) in
      residue-sub M (a + c) (b + d) R (residue-lt M (sub_ℕ (a' + c) (b' + d)) p)
      (mod-cancel M (R + (b + d)) (a + c) b' p
      (ap (λ (m : ℕ). m % M) (omega arith)
      ∙ mod-both M (R + (b' + d)) (a' + c) b (residue-is (a' + c) (b' + d))
      ∙ ap (λ (m : ℕ). m % M) (omega arith)
      ∙ sym (mod-both M (r + b') a' (c + b) (rw e (residue-is a' b')))
      ∙ ap (λ (m : ℕ). m % M) (omega arith)
      ∙ mod-both M (r + b) a (c + b') (residue-is a b)
      ∙ ap (λ (m : ℕ). m % M) (omega arith)))

  pub residue-add : (z w t : ℤ) → residue M z ≡ residue M w → residue M (z +ℤ t) ≡ residue M (w +ℤ t)
  residue-add z w t e =
      let (a, b, ez) = whole z in
      let (a', b', ew) = whole w in
      let (c, d, et) = whole t in
      let e' : residue M (sub_ℕ a b) ≡ residue M (sub_ℕ a' b') = sym (ap (residue M) ez) ∙ e ∙ ap (residue M) ew in
      rw (ez, ew, et, sub-add, sub-add) (residue-sums a b a' b' c d e')

-- what is kept modulo the width
module _ {k : ℕ} (w : Width k) where
  kept : (z t : ℤ) → residue (256 ^ k) (wrap k z +ℤ t) ≡ residue (256 ^ k) (z +ℤ t)
  kept z t = residue-add (256 ^ k) (top_pos k) (wrap k z) z t (word-wrap w z)

  pub undoes-wrap : Undoes (wrap k)
  unfolding wrap
  undoes-wrap = record {
    add = λ z t. ap (val (256 ^ k)) (kept (z +ℤ t) (neg_ℤ t) ∙ ap (residue (256 ^ k)) (+ℤ-neg_ℤ_cancel z t));
    sub = λ z t. ap (val (256 ^ k)) (kept (z -ℤ t) t ∙ ap (residue (256 ^ k)) (-ℤ-+ℤ_cancel z t));
  }

module _ (keep : ℤ → ℤ) (x : List ℤ) where
  pub at-details : (i : ℕ) → i < odd_count x → at (details keep x) i ≡ detail keep x i
  unfolding details
  at-details i h = get_or-tabulate (odd_count x) (detail keep x) i (pos 0) h

-- ---- the inverse of the transform of x is x, where x is of numbers that are kept as they are
module _ (keep : ℤ → ℤ) (u : Undoes keep) (x : List ℤ) (long : 2 ≤ length x) (fits : (i : ℕ) → i < length x → keep (at x i) ≡ at x i) where
  even-back : (i : ℕ) → i < even_count x → even keep (approxs keep x) (details keep x) i ≡ at x (2 * i)
  unfolding even approxs approx
  even-back i h =
      rw (get_or-tabulate (even_count x) (approx keep x (details keep x)) i (pos 0) h)
      (u.add (at x (2 * i)) _ ∙ fits (2 * i) (omega arith))

  odd-back : (i : ℕ) → i < odd_count x → odd keep (even keep (approxs keep x) (details keep x)) (length (approxs keep x)) (details keep x) i ≡ at x (2 * i + 1)
  unfolding odd detail
  odd-back i h =
      rw (length-approxs keep x, at-details keep x i h, even-back i (omega arith), even-back (min (i + 1) (even_count x - 1)) (omega arith))
      (u.sub (at x (2 * i + 1)) (floor_div (at x (2 * i) +ℤ at x (2 * min (i + 1) (even_count x - 1))) 2) ∙ fits (2 * i + 1) (omega arith))

  sample-back : (j : ℕ) → j < length x → sample keep (approxs keep x) (details keep x) j ≡ at x j
  unfolding sample
  sample-back j h =
      ⊎_elim
      (λ k. rw (eq-eqb (j % 2) 0 (omega arith)) (even-back (j / 2) (omega arith) ∙ ap (at x) (omega arith)))
      (λ k. rw (ne_eqb (j % 2) 0 (omega arith)) (odd-back (j / 2) (omega arith) ∙ ap (at x) (omega arith)))
      (lt-or-le (j % 2) 1)

  restored-length : length (approxs keep x) + length (details keep x) ≡ length x
  restored-length = omega (arith, length-approxs keep x, length-details keep x)

  pub undone : restored keep (approxs keep x) (details keep x) ≡ x
  unfolding restored
  undone =
      let n = length (approxs keep x) + length (details keep x) in
      let len : length (tabulate n (sample keep (approxs keep x) (details keep x))) ≡ length x = length-tabulate n (sample keep (approxs keep x) (details keep x)) ∙ restored-length in
      ext_get_or (pos 0) (tabulate n (sample keep (approxs keep x) (details keep x))) x len
      (λ j h.
      get_or-tabulate n (sample keep (approxs keep x) (details keep x)) j (pos 0) (omega (arith, restored-length))
      ∙ sample-back j (omega arith))

-- ---- and the transform undoes the inverse
module _ (keep : ℤ → ℤ) (u : Undoes keep) (a d : List ℤ) (more : length d ≤ length a) (less : length a ≤ length d + 1) (one : 1 ≤ length d)
    (fit-a : (i : ℕ) → i < length a → keep (at a i) ≡ at a i) (fit-d : (i : ℕ) → i < length d → keep (at d i) ≡ at d i) where
  at-restored : (j : ℕ) → j < length a + length d → at (restored keep a d) j ≡ sample keep a d j
  unfolding restored
  at-restored j h = get_or-tabulate (length a + length d) (sample keep a d) j (pos 0) h

  at-even : (i : ℕ) → i < length a → at (restored keep a d) (2 * i) ≡ even keep a d i
  unfolding sample
  at-even i h = at-restored (2 * i) (omega arith) ∙ rw (eq-eqb ((2 * i) % 2) 0 (omega arith)) (ap (even keep a d) (omega arith))

  at-odd : (i : ℕ) → i < length d → at (restored keep a d) (2 * i + 1) ≡ odd keep (even keep a d) (length a) d i
  unfolding sample
  at-odd i h = at-restored (2 * i + 1) (omega arith) ∙ rw (ne_eqb ((2 * i + 1) % 2) 0 (omega arith)) (ap (odd keep (even keep a d) (length a) d) (omega arith))

  detail-again : (i : ℕ) → i < length d → detail keep (restored keep a d) i ≡ at d i
  unfolding detail odd
  detail-again i h =
      let n : even_count (restored keep a d) ≡ length a = omega (arith, length-restored keep a d) in
      let p = floor_div (even keep a d i +ℤ even keep a d (min (i + 1) (length a - 1))) 2 in
      rw (n, at-odd i h, at-even i (omega arith), at-even (min (i + 1) (length a - 1)) (omega arith)) (u.add (at d i) p ∙ fit-d i h)

  pub details-again : details keep (restored keep a d) ≡ d
  unfolding details
  details-again =
      let x = restored keep a d in
      let n : odd_count x ≡ length d = omega (arith, length-restored keep a d) in
      let len : length (tabulate (odd_count x) (detail keep x)) ≡ length d = length-tabulate (odd_count x) (detail keep x) ∙ n in
      ext_get_or (pos 0) (tabulate (odd_count x) (detail keep x)) d len
      (λ i h. get_or-tabulate (odd_count x) (detail keep x) i (pos 0) (omega arith) ∙ detail-again i (omega arith))

  approx-again : (i : ℕ) → i < length a → approx keep (restored keep a d) d i ≡ at a i
  unfolding approx even
  approx-again i h = rw (at-even i h) (u.sub (at a i) (floor_div (at d (i - 1) +ℤ at d (min i (length d - 1)) +ℤ pos 2) 4) ∙ fit-a i h)

  pub approxs-again : approxs keep (restored keep a d) ≡ a
  unfolding approxs
  approxs-again =
      let x = restored keep a d in
      let n : even_count x ≡ length a = omega (arith, length-restored keep a d) in
      let len : length (tabulate (even_count x) (approx keep x d)) ≡ length a = length-tabulate (even_count x) (approx keep x d) ∙ n in
      rw details-again
      (ext_get_or (pos 0) (tabulate (even_count x) (approx keep x d)) a len
      (λ i h. get_or-tabulate (even_count x) (approx keep x d) i (pos 0) (omega arith) ∙ approx-again i (omega arith)))
