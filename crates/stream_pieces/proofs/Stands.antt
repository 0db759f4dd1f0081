-- The recording that a possible state stands for: how long it is, and that it leaves the state. Over the width.
use mathlib.Core.List.{List}
use mathlib.Core.Logic.{⊎_elim}
use mathlib.Core.Path.{◌≡◌, refl, sym, ap, ◌∙◌}
use Prim.Native.Nat.{ℕ, ◌+◌, ◌-◌, ◌*◌, ◌/◌, ◌^◌, ◌<◌}
use native.Mathlib.Nat.{mul-le-mul_left}
use native.Mathlib.Omega.{arith}
use borrow.Author.Tests.{eq-eqb, ne_eqb}
use lib.Dec.{ltb}
use lib.IntN.{ℤ, ◌+ℤ◌, ◌-ℤ◌}
use lib.ListN.{length, take}
use Rattle.base_samples.specs.Le.{Bytes}
use Rattle.base_samples.specs.Words.{tabulate, word_at}
use Rattle.base_samples.specs.Integers.{Width, val, residue, wrap}
use Rattle.base_samples.proofs.LeLaws.{top_pos}
use Rattle.base_samples.proofs.Words.{holds, length-tabulate, length-bytes, word-take, word-table}
use Rattle.base_samples.proofs.IntegerLaws.{residue-lt, word-val, word-wrap}
use Rattle.filter_cdf53i.specs.Lift.{floor_div}
use Rattle.filter_cdf53i.specs.Bands.{high, detail_word}
use Rattle.filter_cdf53i.proofs.Words.{high_word}
use Rattle.filter_cdf53i.proofs.WordTurns.{detail-at}
use Rattle.filter_cdf53i.proofs.Undo.{undoes-wrap}
use Rattle.filter_cdf53i.proofs.Lengths.{bytes-of}
use Rattle.stream_pieces.specs.declared.recorder.Recorder.{Recorder}
use Rattle.stream_pieces.specs.States.{fixed, waiting, state_of, bound, Possible, stand_word, stand_in}
use Rattle.stream_pieces.proofs.Kept.{word-past, word_none, kept-or, kept_small}

-- what is kept of a sum with t, less t, is the word that t was added to
sum_back : {k : ℕ} → Width k → (u : ℕ) (t : ℤ) → u < 256 ^ k
    → residue (256 ^ k) (val (256 ^ k) (residue (256 ^ k) (val (256 ^ k) u +ℤ t)) -ℤ t) ≡ u
unfolding wrap
sum_back {k} w u t h =
    let z = val (256 ^ k) u in
    sym (word-wrap w (wrap k (z +ℤ t) -ℤ t)) ∙ ap (residue (256 ^ k)) ((undoes-wrap w).add z t) ∙ word-wrap w z ∙ word-val w u h

module _ {k : ℕ} (w : Width k) (s : Recorder) (p : Possible k s) where
  abbrev x : List ℕ
  x = stand_in k s

  abbrev m : ℕ
  m = fixed s.total

  pub length-stand : length (stand_in k s) ≡ k * s.total
  unfolding stand_in
  length-stand = length-bytes k (tabulate s.total (stand_word k s)) ∙ ap (λ (n : ℕ). k * n) (length-tabulate s.total (stand_word k s))

  pub count-stand : length (stand_in k s) / k ≡ s.total
  count-stand = (holds w.some (stand_in k s) s.total length-stand).count

  pub bytes-stand : Bytes (stand_in k s)
  unfolding stand_in
  bytes-stand = bytes-of k _

  -- a word of the table
  stand-word : (j u : ℕ) → j < s.total → stand_word k s j ≡ u → u < 256 ^ k → word_at k x j ≡ u
  unfolding stand_in
  stand-word j u h e l = word-table k s.total (stand_word k s) j h (rw e l) ∙ e

  -- ---- what waits: the words from 2 * m on

  stand-kept : (a j u : ℕ) → j ≡ 2 * m + a → stand_word k s j ≡ u → u < bound k (ltb a (waiting s.total)) → word_at k x j ≡ u
  stand-kept a j u ej e l =
      ⊎_elim
      (λ h. stand-word j u (omega (arith, h.0)) e h.1)
      (λ h. word-past k x j (rw length-stand (mul-le-mul_left k (omega (arith, h.0)))) ∙ sym h.1)
      (kept-or k a (waiting s.total) u l)

  pub even_is : word_at k x (2 * m) ≡ s.even
  unfolding stand_word
  even_is = stand-kept 0 (2 * m) s.even (omega arith) (rw (ne_eqb (2 * m + 1) (2 * m) (λ e. omega arith), eq-eqb (2 * m) (2 * m) refl)) p.even

  pub odd_is : word_at k x (2 * m + 1) ≡ s.odd
  unfolding stand_word
  odd_is =
      let j = 2 * m + 1 in
      stand-kept 1 j s.odd refl (rw (ne_eqb (j + 1) (2 * m) (λ e. omega arith), ne_eqb j (2 * m) (λ e. omega arith), eq-eqb j j refl)) p.odd

  -- ---- the detail between a 0, the made-up sample and the even one that waits

  -- what half of the two even samples beside the made-up one comes to
  unfoldable half : ℤ
  half = floor_div (val (256 ^ k) 0 +ℤ val (256 ^ k) s.even) 2

  zero_is : 0 < m → word_at k x (2 * (m - 1)) ≡ 0
  unfolding stand_word
  zero_is h =
      let j = 2 * (m - 1) in
      stand-word j 0 (omega arith)
      (rw (ne_eqb (j + 1) (2 * m) (λ e. omega arith), ne_eqb j (2 * m) (λ e. omega arith), ne_eqb j (2 * m + 1) (λ e. omega arith)))
      (top_pos k)

  made-is : 0 < m → word_at k x (2 * (m - 1) + 1) ≡ residue (256 ^ k) (val (256 ^ k) s.detail +ℤ half)
  unfolding stand_word half
  made-is h =
      let j = 2 * (m - 1) + 1 in
      stand-word j _ (omega arith) (rw (eq-eqb (j + 1) (2 * m) (omega arith))) (residue-lt (256 ^ k) _ (top_pos k))

  pub detail-kept : 0 < m → s.detail ≡ detail_word k x (m - 1)
  unfolding detail_word half
  detail-kept h =
      sym
      (sym (detail-at w x (m - 1) m (omega (arith, count-stand)) (omega (arith, count-stand)))
      ∙ rw (zero_is h, made-is h, even_is) (sum_back w s.detail half (kept_small k 0 m s.detail p.detail h)))

  detail-is : word_at k (take (k * m) (high k x)) (m - 1) ≡ s.detail
  detail-is =
      ⊎_elim
      (λ h. word-take k (high k x) m (m - 1) (omega (arith, h.0)) ∙ high_word k x (m - 1) (omega (arith, h.0, count-stand)) ∙ sym (detail-kept h.0))
      (λ h. word_none k (high k x) m (m - 1) (omega (arith, h.0)) ∙ sym h.1)
      (kept-or k 0 m s.detail p.detail)

  -- it leaves the state
  pub stands : state_of k (stand_in k s) ≡ s
  unfolding state_of
  stands = rw count-stand (λ i. record { total = s.total; even = even_is i; odd = odd_is i; detail = detail-is i })
