-- What the code reads and stores, of the state s and the piece y: words of the recording that goes on. Over the width.
use mathlib.Core.Bool.{Bool, true, false, cond}
use mathlib.Core.List.{List, ◌++◌}
use mathlib.Core.Path.{◌≡◌, refl, sym, ap, ◌∙◌}
use Prim.Native.Nat.{ℕ, ◌+◌, ◌-◌, ◌*◌, ◌/◌, ◌^◌, ◌≤◌, ◌<◌}
use native.Mathlib.Nat.{mul-le-mul_left}
use native.Mathlib.Omega.{arith}
use borrow.Author.Tests.{ltb-true, ltb-false}
use lib.Dec.{ltb}
use lib.IntN.{pos, ◌+ℤ◌, ◌-ℤ◌}
use lib.ListN.{length}
use lib.Signed.{shr_z}
use Rattle.base_samples.specs.Words.{word_at}
use Rattle.base_samples.specs.Integers.{Width, val, residue}
use Rattle.filter_cdf53i.specs.Bands.{detail_word}
use Rattle.filter_cdf53i.proofs.WordTurns.{sample_at, detail-at, approx-from}
use Rattle.stream_pieces.specs.declared.recorder.Recorder.{Recorder}
use Rattle.stream_pieces.specs.States.{fixed, waiting, stand_in}
use Rattle.stream_pieces.specs.Steps.{next_word, next_detail, next_approx, Taking}
use Rattle.stream_pieces.proofs.Kept.{word-past, kept_small}
use Rattle.stream_pieces.proofs.Joins.{joined, earlier, later}
use Rattle.stream_pieces.proofs.Stands.{length-stand, count-stand, even_is, odd_is, detail-kept}

-- a detail that mirrors nothing, from the words that it reads
pub detail-in : {k : ℕ} → Width k → (z : List ℕ) (i : ℕ) → 2 * i + 2 < length z / k
    → residue (256 ^ k) (sample_at k z (2 * i + 1) -ℤ shr_z (sample_at k z (2 * i) +ℤ sample_at k z (2 * (i + 1))) 2) ≡ detail_word k z i
unfolding detail_word
detail-in w z i h = detail-at w z i (i + 1) (omega arith) (omega arith)

module _ {k : ℕ} {s : Recorder} {y : List ℕ} (g : Taking k s y) where
  abbrev x : List ℕ
  x = stand_in k s

  abbrev m : ℕ
  m = fixed s.total

  abbrev w : ℕ
  w = waiting s.total

  abbrev n : ℕ
  n = length y / k

  before : length x ≡ k * s.total
  before = length-stand g.width s g.state

  pub count : length (x ++ y) / k ≡ s.total + n
  count = (joined g.width x y s.total n before g.piece.size).count

  -- ---- words of the recording

  word_in : (j : ℕ) → j < s.total → word_at k (x ++ y) j ≡ word_at k x j
  word_in = earlier g.width x y s.total n before g.piece.size

  -- those that wait
  pub next-even : 0 < w → s.even ≡ next_word k s y 0
  next-even h = sym (ap (word_at k (x ++ y)) (omega arith) ∙ word_in (2 * m) (omega arith) ∙ even_is g.width s g.state)

  pub next-odd : 1 < w → s.odd ≡ next_word k s y 1
  next-odd h = sym (word_in (2 * m + 1) (omega arith) ∙ odd_is g.width s g.state)

  -- those of the piece, and past its end
  pub next-piece : (j : ℕ) → w ≤ j → word_at k y (j - w) ≡ next_word k s y j
  next-piece j h = sym (later g.width x y s.total n before g.piece.size (2 * m + j) (omega arith) ∙ ap (word_at k y) (omega arith))

  pub next-none : (j : ℕ) → w ≤ j → n ≤ j - w → 0 ≡ next_word k s y j
  next-none j h l = sym (word-past k y (j - w) (rw g.piece.size (mul-le-mul_left k l))) ∙ next-piece j h

  -- ---- coefficients

  -- the detail before the first new one
  pub detail-before : 0 < m → s.detail ≡ detail_word k (x ++ y) (m - 1)
  detail-before h =
      let i = m - 1 in
      detail-kept g.width s g.state h
      ∙ sym (detail-in g.width x i (omega (arith, count-stand g.width s g.state)))
      ∙ rw (← word_in (2 * i + 1) (omega arith), ← word_in (2 * i) (omega arith), ← word_in (2 * (i + 1)) (omega arith)) (detail-in g.width (x ++ y) i (omega (arith, count)))

  -- and as the code picks it, where u is the first new one
  pub before-is : (u : ℕ) → u ≡ next_detail k s y 0 → u < 256 ^ k
      → (cond (ltb s.total 3) u s.detail ≡ detail_word k (x ++ y) (m + 0 - 1)) × (cond (ltb s.total 3) u s.detail < 256 ^ k)
  before-is u e l = pick (ltb s.total 3) refl
    where
      pick : (t : Bool) → ltb s.total 3 ≡ t → (cond t u s.detail ≡ detail_word k (x ++ y) (m + 0 - 1)) × (cond t u s.detail < 256 ^ k)
      pick true h = let few = ltb-true s.total 3 h in (e ∙ ap (detail_word k (x ++ y)) (omega arith), l)
      pick false h =
          let some : 0 < m = omega (arith, ltb-false s.total 3 h) in
          (detail-before some ∙ ap (detail_word k (x ++ y)) (omega arith), kept_small k 0 m s.detail g.state.detail some)

  pub next-detail : (j : ℕ) {u v z : ℕ} → 2 * j + 2 < w + n → u ≡ next_word k s y (2 * j) → v ≡ next_word k s y (2 * j + 1) → z ≡ next_word k s y (2 * j + 2)
      → residue (256 ^ k) (val (256 ^ k) v -ℤ shr_z (val (256 ^ k) u +ℤ val (256 ^ k) z) 2) ≡ next_detail k s y j
  next-detail j {u} {v} {z} h eu ev ez =
      let a : u ≡ word_at k (x ++ y) (2 * (m + j)) = eu ∙ ap (word_at k (x ++ y)) (omega arith) in
      let b : v ≡ word_at k (x ++ y) (2 * (m + j) + 1) = ev ∙ ap (word_at k (x ++ y)) (omega arith) in
      let c : z ≡ word_at k (x ++ y) (2 * (m + j + 1)) = ez ∙ ap (word_at k (x ++ y)) (omega arith) in
      rw (a, b, c) (detail-in g.width (x ++ y) (m + j) (omega (arith, count)))

  pub next-approx : (j : ℕ) {u v z : ℕ} → 2 * j + 2 < w + n → u ≡ next_word k s y (2 * j) → v ≡ detail_word k (x ++ y) (m + j - 1) → z ≡ next_detail k s y j
      → residue (256 ^ k) (val (256 ^ k) u +ℤ shr_z (val (256 ^ k) v +ℤ val (256 ^ k) z +ℤ pos 2) 4) ≡ next_approx k s y j
  next-approx j h eu ev ez =
      approx-from g.width (x ++ y) (m + j) (m + j) (omega (arith, count)) (omega (arith, count)) (omega (arith, count)) (eu ∙ ap (word_at k (x ++ y)) (omega arith)) ev ez
