-- One sample of what sections restore: an even one by the level below, an odd one by the even ones beside it. Once over the width.
use mathlib.Core.List.{List}
use mathlib.Core.Logic.{⊎_elim}
use mathlib.Core.Path.{◌≡◌, refl, sym, ap, ◌∙◌}
use Prim.Native.Nat.{ℕ, zero, suc, ◌+◌, ◌-◌, ◌*◌, ◌/◌, ◌%◌, ◌^◌, ◌≤◌, ◌<◌, min}
use native.Mathlib.Omega.{arith}
use borrow.Author.Tests.{eq-eqb, ne_eqb, lt-ltb, le-ltb}
use lib.IntN.{pos, ◌+ℤ◌, ◌-ℤ◌}
use lib.ListN.{length}
use lib.Signed.{shr_z}
use Rattle.base_lengths.specs.Lengths.{approx_length, details_length}
use Rattle.base_lengths.proofs.Depths.{step}
use Rattle.base_order.proofs.Order.{lt-or-le}
use Rattle.base_samples.specs.Words.{word_at}
use Rattle.base_samples.specs.Integers.{val, residue, wrap, decode}
use Rattle.base_samples.proofs.Words.{holds}
use Rattle.filter_cdf53i.specs.Lift.{even, sample}
use Rattle.filter_cdf53i.specs.Bands.{sample_word}
use Rattle.filter_cdf53i.proofs.Lengths.{length_back}
use Rattle.filter_cdf53i.proofs.Words.{back-word}
use Rattle.filter_cdf53i.proofs.WordTurns.{sample_at, even-at, sample-even, sample-odd}
use Rattle.levels_filter.proofs.Cuts.{split-width}
use Rattle.file_open.specs.Files.{body_size}
use Rattle.file_open.specs.Walks.{bytes_at, restored_at}
use Rattle.file_open.proofs.Parts.{piece-length}
use Rattle.file_sample.specs.Neighbours.{word_in, even_by, Stands, AroundOf, Chosen}

-- a section that stands in s has its samples
pub section-bytes : (k : ℕ) (s : List ℕ) (c p : ℕ) → p + (4 + k * c) ≤ length s → length (bytes_at k s c p) ≡ k * c
section-bytes k s c p h = piece-length s (p + 4) (k * c) (omega arith)

-- one level less stands too
pub below : {k l n p b : ℕ} → Stands k (suc l) n p b → (3 ≤ n) × Stands k l (approx_length n) p b
below {k} {l} {n} {p} {b} st =
    let s = step 3 (omega arith) l n st.deep in
    (s.0, record { width = st.width; deep = s.1; short = omega (arith, st.short); held = omega (arith, st.held, split-width k n) })

pub restored-length : {k : ℕ} (l n p : ℕ) (s : List ℕ) → Stands k l n p (length s) → length (restored_at k s l n p) ≡ k * n
unfolding restored_at
restored-length {k} zero n p s st = section-bytes k s n p (omega (arith, st.held))
restored-length {k} (suc l) n p s st =
    let w = st.width.some in
    let z = p + body_size k l (approx_length n) in
    let a = restored-length l (approx_length n) p s (below st).1 in
    let d = section-bytes k s (details_length n) z (omega (arith, st.held, split-width k n)) in
    length_back k (restored_at k s l (approx_length n) p) (bytes_at k s (details_length n) z)
    ∙ rw ((holds w (restored_at k s l (approx_length n) p) (approx_length n) a).count, (holds w (bytes_at k s (details_length n) z) (details_length n) d).count) (sym (split-width k n))

-- the sections of one level more: approximations a, details d
module _ {k : ℕ} (l n p : ℕ) (s : List ℕ) (st : Stands k (suc l) n p (length s)) where
  abbrev pub approx_in : List ℕ
  approx_in = restored_at k s l (approx_length n) p

  abbrev pub details_in : List ℕ
  details_in = bytes_at k s (details_length n) (p + body_size k l (approx_length n))

  ca : length approx_in / k ≡ approx_length n
  ca = (holds st.width.some approx_in (approx_length n) (restored-length l (approx_length n) p s (below st).1)).count

  cd : length details_in / k ≡ details_length n
  cd = (holds st.width.some details_in (details_length n) (section-bytes k s (details_length n) (p + body_size k l (approx_length n)) (omega (arith, st.held, split-width k n)))).count

  word-is : (j : ℕ) → j < n → word_in k s (suc l) n p j ≡ sample_word k approx_in details_in j
  unfolding restored_at
  word-is j h = back-word k approx_in details_in j (omega (arith, ca, cd))

  -- an even sample, from its approximation and two details
  pub even-word : (i : ℕ) → i < approx_length n
      → residue (256 ^ k) (sample_at k approx_in i -ℤ shr_z (sample_at k details_in (i - 1) +ℤ sample_at k details_in (min i (details_length n - 1)) +ℤ pos 2) 4)
      ≡ word_in k s (suc l) n p (2 * i)
  unfolding sample_word
  even-word i h =
      let three = (below st).0 in
      let lo : i - 1 < details_length n = omega arith in
      let hi : min i (details_length n - 1) < details_length n = omega arith in
      let e = even-at st.width approx_in details_in i (i - 1) (min i (details_length n - 1)) (rw ca h) refl (rw cd refl) (rw cd lo) (rw cd hi) in
      sample-even st.width (decode k approx_in) (decode k details_in) i _ e ∙ sym (word-is (2 * i) (omega arith))

  -- an odd sample, from its detail and the even samples beside it
  pub odd-word : (i u z : ℕ) → 2 * i + 1 < n → u ≡ word_in k s (suc l) n p (2 * i) → z ≡ word_in k s (suc l) n p (2 * min (i + 1) (approx_length n - 1))
      → residue (256 ^ k) (sample_at k details_in i +ℤ shr_z (val (256 ^ k) u +ℤ val (256 ^ k) z) 2) ≡ word_in k s (suc l) n p (2 * i + 1)
  unfolding sample_word
  odd-word i u z h eu ez =
      let j = min (i + 1) (approx_length n - 1) in
      let w = st.width in
      let back-even : (r : ℕ) → residue (256 ^ k) (even (wrap k) (decode k approx_in) (decode k details_in) r) ≡ residue (256 ^ k) (sample (wrap k) (decode k approx_in) (decode k details_in) (2 * r)) =
      λ r. sample-even w (decode k approx_in) (decode k details_in) r _ refl in
      let hi : i < details_length n = omega arith in
      let hj : 2 * j < n = omega arith in
      sample-odd w approx_in details_in i j u z (rw cd hi) (rw ca refl)
      (eu ∙ word-is (2 * i) (omega arith) ∙ sym (back-even i))
      (ez ∙ word-is (2 * j) hj ∙ sym (back-even j))
      ∙ sym (word-is (2 * i + 1) h)

-- three samples of the level below, of which r is one of the first two: sample r, and the one after it, j, or r itself
pub chosen_are : {k : ℕ} {s : List ℕ} {l m p a o b x y j : ℕ} (r : ℕ) → j ≡ min (r + 1) (m - 1) → r < m → AroundOf k s l m p (r / 2) a o b → Chosen a o b r j x y
    → (x ≡ word_in k s l m p r) × (y ≡ word_in k s l m p j)
chosen_are {k} {s} {l} {m} {p} {a} {o} {b} {x} {y} {j} r ej h t q =
    let g = word_in k s l m p in
    let e = t.evens in
    ⊎_elim
    (λ (z : r % 2 < 1).
    let ev : r % 2 ≡ 0 = omega arith in
    let here : x ≡ a = q.here ∙ simp (eq-eqb _ _ ev) in
    let after : y ≡ o = q.after ∙ simp (eq-eqb _ _ ev) in
    let i : 2 * (r / 2) ≡ r = omega arith in
    let f : min (2 * (r / 2) + 1) (m - 1) ≡ j = omega arith in
    (here ∙ e.here ∙ ap g i, after ∙ t.between ∙ ap g f))
    (λ (z : 1 ≤ r % 2).
    let od : r % 2 ≡ 0 → ⊥ = λ u. omega arith in
    let here : x ≡ o = q.here ∙ simp (ne_eqb _ _ od) in
    let i : min (2 * (r / 2) + 1) (m - 1) ≡ r = omega arith in
    ⊎_elim
    (λ (f : r < j).
    let after : y ≡ b = q.after ∙ simp (ne_eqb _ _ od, lt-ltb _ _ f) in
    let n : 2 * min (r / 2 + 1) (approx_length m - 1) ≡ j = omega arith in
    (here ∙ t.between ∙ ap g i, after ∙ e.after ∙ ap g n))
    (λ (f : j ≤ r).
    let after : y ≡ o = q.after ∙ simp (ne_eqb _ _ od, le-ltb _ _ f) in
    let n : r ≡ j = omega arith in
    (here ∙ t.between ∙ ap g i, after ∙ t.between ∙ ap g i ∙ ap g n))
    (lt-or-le r j))
    (lt-or-le (r % 2) 1)

-- ---- as the code has it: levels that are not 0

pub less : {k n p b : ℕ} (l : ℕ) → 1 ≤ l → Stands k l n p b → (3 ≤ n) × Stands k (l - 1) (approx_length n) p b
less zero h st = absurd (omega arith)
less (suc l) h st = let e : suc l - 1 ≡ l = omega arith in rw e (below st)

-- the last section stands behind those of one level less
pub last_fits : {k n p b : ℕ} (l : ℕ) → 1 ≤ l → Stands k l n p b → p + body_size k (l - 1) (approx_length n) + (4 + k * details_length n) ≤ b
last_fits {k} {n} l h st = omega (arith, st.held, split-width k n)

module _ {k : ℕ} (n p : ℕ) (s : List ℕ) where
  pub even_lifted : (l : ℕ) (i x place : ℕ) → 1 ≤ l → Stands k l n p (length s) → i < approx_length n → x ≡ word_in k s (l - 1) (approx_length n) p i → place ≡ p + body_size k (l - 1) (approx_length n)
      → even_by k s (details_length n) place x i ≡ word_in k s l n p (2 * i)
  even_lifted zero i x place h st hi ex ep = absurd (omega arith)
  even_lifted (suc l) i x place h st hi ex ep =
      let e : suc l - 1 ≡ l = omega arith in
      rw (rw e at ex, rw e at ep) (even-word l n p s st i hi)

  pub odd_lifted : (l : ℕ) (i u z d place : ℕ) → 1 ≤ l → Stands k l n p (length s) → 2 * i + 1 < n
      → u ≡ word_in k s l n p (2 * i) → z ≡ word_in k s l n p (2 * min (i + 1) (approx_length n - 1)) → d ≡ word_at k (bytes_at k s (details_length n) place) i → place ≡ p + body_size k (l - 1) (approx_length n)
      → residue (256 ^ k) (val (256 ^ k) d +ℤ shr_z (val (256 ^ k) u +ℤ val (256 ^ k) z) 2) ≡ word_in k s l n p (2 * i + 1)
  odd_lifted zero i u z d place h st hi eu ez ed ep = absurd (omega arith)
  odd_lifted (suc l) i u z d place h st hi eu ez ed ep =
      let e : suc l - 1 ≡ l = omega arith in
      rw (rw (rw e at ep) at ed) (odd-word l n p s st i u z hi eu ez)
