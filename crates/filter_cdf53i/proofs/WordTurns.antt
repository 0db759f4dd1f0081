-- What a turn of each loop stores, once over the width: the word of a coefficient from the words that the code reads.
use Rattle.std.proofs.Common.{◌≡◌, ℕ, ◌+◌, ◌-◌, ◌*◌, ◌/◌, ◌%◌, ◌^◌, ◌<◌, ◌≤◌, min, List, length, ℤ, pos, ◌+ℤ◌, ◌-ℤ◌, sym, refl, ap, ◌∙◌, arith, eq-eqb, ne_eqb}
use lib.Signed.{shr_z}
use Rattle.base_lengths.specs.Lengths.{approx_length, details_length}
use Rattle.base_samples.specs.Words.{word_at, put_at, Front}
use Rattle.base_samples.specs.Integers.{val, residue, wrap, decode, Width}
use Rattle.base_samples.proofs.LeLaws.{top_pos}
use Rattle.base_samples.proofs.Words.{word-take, word-table, length-tabulate, get_or-tabulate, holds}
use Rattle.base_samples.proofs.Fronts.{front-more, front-all}
use Rattle.base_samples.proofs.IntegerLaws.{length-decode, at-decode, encode-tabulate, word-wrap, residue-lt}
use Rattle.filter_cdf53i.specs.Lift.{detail, details, approx, approxs, even, odd, sample, restored}
use Rattle.filter_cdf53i.specs.Bands.{low, back, detail_word, approx_word, sample_word, even_word, details_from, evens_from, odds_from, EnoughWords}

-- a word of the front is read
pub front_read : {k n i : ℕ} {g : ℕ → ℕ} {s : List ℕ} (j : ℕ) → Front k n i g s → j < i → g j < 256 ^ k → word_at k s j ≡ g j
front_read {k} {n} {i} {g} {s} j h l b =
    sym (word-take k s i j l)
    ∙ ap (λ (w : List ℕ). word_at k w j) h.front
    ∙ word-table k i g j l b

-- the number that sample i of s stands for
abbrev pub sample_at : ℕ → List ℕ → ℕ → ℤ
sample_at k s i = val (256 ^ k) (word_at k s i)

module _ {k : ℕ} (w : Width k) where
  pub detail-at : (s : List ℕ) (i j : ℕ) → 2 * i + 1 < length s / k → j ≡ min (i + 1) ((length s / k + 1) / 2 - 1)
      → residue (256 ^ k) (sample_at k s (2 * i + 1) -ℤ shr_z (sample_at k s (2 * i) +ℤ sample_at k s (2 * j)) 2) ≡ residue (256 ^ k) (detail (wrap k) (decode k s) i)
  unfolding detail
  detail-at s i j h ej =
      rw (word-wrap w, length-decode, ← ej, at-decode k s (2 * i + 1) h, at-decode k s (2 * i) (omega arith), at-decode k s (2 * j) (omega arith))

  pub approx-at : (s d : List ℕ) (i l r : ℕ) → 2 * i < length s / k → l ≡ i - 1 → r ≡ min i (length d / k - 1) → l < length d / k → r < length d / k
      → residue (256 ^ k) (sample_at k s (2 * i) +ℤ shr_z (sample_at k d l +ℤ sample_at k d r +ℤ pos 2) 4) ≡ residue (256 ^ k) (approx (wrap k) (decode k s) (decode k d) i)
  unfolding approx
  approx-at s d i l r h el er hl hr =
      rw (word-wrap w, length-decode, ← el, ← er, at-decode k s (2 * i) h, at-decode k d l hl, at-decode k d r hr)

  pub even-at : (a d : List ℕ) (i l r : ℕ) → i < length a / k → l ≡ i - 1 → r ≡ min i (length d / k - 1) → l < length d / k → r < length d / k
      → residue (256 ^ k) (sample_at k a i -ℤ shr_z (sample_at k d l +ℤ sample_at k d r +ℤ pos 2) 4) ≡ residue (256 ^ k) (even (wrap k) (decode k a) (decode k d) i)
  unfolding even
  even-at a d i l r h el er hl hr =
      rw (word-wrap w, length-decode, ← el, ← er, at-decode k a i h, at-decode k d l hl, at-decode k d r hr)

  -- the same from the words that the code read
  pub detail-made : (s : List ℕ) (i j : ℕ) {u v z g : ℕ} → 2 * i + 1 < length s / k → j ≡ min (i + 1) ((length s / k + 1) / 2 - 1)
      → u ≡ word_at k s (2 * i) → v ≡ word_at k s (2 * i + 1) → z ≡ word_at k s (2 * j)
      → g ≡ residue (256 ^ k) (val (256 ^ k) v -ℤ shr_z (val (256 ^ k) u +ℤ val (256 ^ k) z) 2) → g ≡ residue (256 ^ k) (detail (wrap k) (decode k s) i)
  detail-made s i j h ej eu ev ez eg = eg ∙ rw (eu, ev, ez) (detail-at s i j h ej)

  pub approx-made : (s d : List ℕ) (i l r : ℕ) {u v z g : ℕ} → 2 * i < length s / k → l ≡ i - 1 → r ≡ min i (length d / k - 1) → l < length d / k → r < length d / k
      → u ≡ word_at k s (2 * i) → v ≡ word_at k d l → z ≡ word_at k d r
      → g ≡ residue (256 ^ k) (val (256 ^ k) u +ℤ shr_z (val (256 ^ k) v +ℤ val (256 ^ k) z +ℤ pos 2) 4) → g ≡ residue (256 ^ k) (approx (wrap k) (decode k s) (decode k d) i)
  approx-made s d i l r h el er hl hr eu ev ez eg = eg ∙ rw (eu, ev, ez) (approx-at s d i l r h el er hl hr)

  pub even-made : (a d : List ℕ) (i l r : ℕ) {u v z g : ℕ} → i < length a / k → l ≡ i - 1 → r ≡ min i (length d / k - 1) → l < length d / k → r < length d / k
      → u ≡ word_at k a i → v ≡ word_at k d l → z ≡ word_at k d r
      → g ≡ residue (256 ^ k) (val (256 ^ k) u -ℤ shr_z (val (256 ^ k) v +ℤ val (256 ^ k) z +ℤ pos 2) 4) → g ≡ residue (256 ^ k) (even (wrap k) (decode k a) (decode k d) i)
  even-made a d i l r h el er hl hr eu ev ez eg = eg ∙ rw (eu, ev, ez) (even-at a d i l r h el er hl hr)

  -- the word of what is stored stands for it: of a detail, of an even sample
  kept-val : (z : ℤ) (u : ℕ) → u ≡ residue (256 ^ k) (wrap k z) → val (256 ^ k) u ≡ wrap k z
  unfolding wrap
  kept-val z u h = ap (val (256 ^ k)) (h ∙ word-wrap w z)

  pub detail-val : (x : List ℤ) (i u : ℕ) → u ≡ residue (256 ^ k) (detail (wrap k) x i) → val (256 ^ k) u ≡ detail (wrap k) x i
  unfolding detail
  detail-val x i u h = kept-val _ u h

  even-val : (a d : List ℤ) (i u : ℕ) → u ≡ residue (256 ^ k) (even (wrap k) a d i) → val (256 ^ k) u ≡ even (wrap k) a d i
  unfolding even
  even-val a d i u h = kept-val _ u h

  pub sample-even : (a d : List ℤ) (i u : ℕ) → u ≡ residue (256 ^ k) (even (wrap k) a d i) → u ≡ residue (256 ^ k) (sample (wrap k) a d (2 * i))
  unfolding sample
  sample-even a d i u h = h ∙ rw (eq-eqb ((2 * i) % 2) 0 (omega arith)) (ap (λ (j : ℕ). residue (256 ^ k) (even (wrap k) a d j)) (omega arith))

  pub sample-odd : (a d : List ℕ) (i j u z : ℕ) → i < length d / k → j ≡ min (i + 1) (length a / k - 1)
      → u ≡ residue (256 ^ k) (even (wrap k) (decode k a) (decode k d) i) → z ≡ residue (256 ^ k) (even (wrap k) (decode k a) (decode k d) j)
      → residue (256 ^ k) (sample_at k d i +ℤ shr_z (val (256 ^ k) u +ℤ val (256 ^ k) z) 2) ≡ residue (256 ^ k) (sample (wrap k) (decode k a) (decode k d) (2 * i + 1))
  unfolding sample odd
  sample-odd a d i j u z h ej eu ez =
      let half : (2 * i + 1) / 2 ≡ i = omega arith in
      rw (ne_eqb ((2 * i + 1) % 2) 0 (omega arith), half)
      (rw (word-wrap w, length-decode, ← ej, at-decode k d i h, even-val (decode k a) (decode k d) i u eu, even-val (decode k a) (decode k d) j z ez))

  -- two samples more: the even one, of the word u, and the odd one after it, whose next even sample has the word z
  pub front-pair : (a d : List ℕ) {n : ℕ} {s t r : List ℕ} {u z v g : ℕ} (i j : ℕ) → Front k n (2 * i) (sample_word k a d) s
      → i < length d / k → j ≡ min (i + 1) (length a / k - 1) → 2 * i + 1 < n
      → u ≡ even_word k a d i → z ≡ even_word k a d j
      → t ≡ put_at k s (2 * i) u → v ≡ word_at k d i → g ≡ residue (256 ^ k) (val (256 ^ k) v +ℤ shr_z (val (256 ^ k) u +ℤ val (256 ^ k) z) 2) → r ≡ put_at k t (2 * i + 1) g
      → Front k n (2 * i + 1 + 1) (sample_word k a d) r
  unfolding sample_word even_word
  front-pair a d {n} {s} {t} {r} {u} {z} {v} {g} i j h hi ej hn eu ez pt ev eg pr =
      front-more
      (front-more h refl (omega arith) (sample-even (decode k a) (decode k d) i u eu) pt)
      refl
      hn
      (eg ∙ rw ev (sample-odd a d i j u z hi ej eu ez))
      pr

  -- one sample more, the last even one
  pub front-last : (a d : List ℕ) {n : ℕ} {s t : List ℕ} {u : ℕ} (i : ℕ) → Front k n (2 * i) (sample_word k a d) s → 2 * i < n → u ≡ even_word k a d i → t ≡ put_at k s (2 * i) u
      → Front k n (2 * i + 1) (sample_word k a d) t
  unfolding sample_word even_word
  front-last a d {u = u} i h hn eu pt = front-more h refl hn (sample-even (decode k a) (decode k d) i u eu) pt

  -- the word of a number is read from the front
  word_read : (z : ℕ → ℤ) {n m : ℕ} {t : List ℕ} (j : ℕ) → Front k n m (λ i. residue (256 ^ k) (z i)) t → j < m → word_at k t j ≡ residue (256 ^ k) (z j)
  word_read z j h l = front_read j h l (residue-lt (256 ^ k) (z j) (top_pos k))

  -- an even sample, and an odd one, of a block from even sample i on
  pub evens-read : (a d : List ℕ) (i : ℕ) {n m : ℕ} {t : List ℕ} (j : ℕ) → Front k n m (evens_from k a d i) t → j < m → word_at k t j ≡ even_word k a d (i + j)
  unfolding evens_from even_word
  evens-read a d i j h l = word_read _ j h l

  pub odds-read : (a d : List ℕ) (i : ℕ) {n m : ℕ} {t : List ℕ} (j : ℕ) → Front k n m (odds_from k a d i) t → j < m → word_at k t j ≡ sample_word k a d (2 * (i + j) + 1)
  unfolding odds_from sample_word
  odds-read a d i j h l = word_read _ j h l

  -- one more of its odd samples
  pub odds-more : (a d : List ℕ) (i j : ℕ) {n u v z g : ℕ} {s t : List ℕ} → Front k n j (odds_from k a d i) s → j < n
      → i + j < length d / k → i + j + 1 ≡ min (i + j + 1) (length a / k - 1)
      → u ≡ even_word k a d (i + j) → z ≡ even_word k a d (i + j + 1) → v ≡ word_at k d (i + j)
      → g ≡ residue (256 ^ k) (val (256 ^ k) v +ℤ shr_z (val (256 ^ k) u +ℤ val (256 ^ k) z) 2) → t ≡ put_at k s j g → Front k n (j + 1) (odds_from k a d i) t
  unfolding odds_from sample_word even_word
  odds-more a d i j {n} {u} {v} {z} h l hi ej eu ez ev eg put =
      front-more h refl l (eg ∙ rw ev (sample-odd a d (i + j) (i + j + 1) u z hi ej eu ez)) put

  -- a pair of the block, at its place
  pub pair-more : (a d : List ℕ) (i j : ℕ) {n u v : ℕ} {s t r : List ℕ} → Front k n (2 * (i + j)) (sample_word k a d) s → 2 * (i + j) + 1 < n
      → u ≡ even_word k a d (i + j) → v ≡ sample_word k a d (2 * (i + j) + 1) → t ≡ put_at k s (2 * (i + j)) u → r ≡ put_at k t (2 * (i + j) + 1) v
      → Front k n (2 * (i + j) + 1 + 1) (sample_word k a d) r
  pair-more a d i j h hn eu ev pt pr = front-more (front-last a d (i + j) h (omega arith) eu pt) refl hn ev pr

  -- all samples
  pub restored-all : (a d x : List ℕ) (n i : ℕ) → Front k n i (sample_word k a d) x → i ≡ n → n ≡ length a / k + length d / k → x ≡ back k a d
  unfolding sample_word back restored
  restored-all a d x n i h e en =
      rw (length-decode k a, length-decode k d, encode-tabulate k (length a / k + length d / k) (sample (wrap k) (decode k a) (decode k d)))
      (front-all (length a / k + length d / k) h e en)

  -- ---- the approximations alone

  -- a detail of a block whose first is the one before detail i
  pub details-read : (x : List ℕ) (i : ℕ) {n m : ℕ} {t : List ℕ} (j : ℕ) → Front k n m (details_from k x i) t → j < m → word_at k t j ≡ detail_word k x (i + j - 1)
  unfolding details_from detail_word
  details-read x i j h l = word_read _ j h l

  -- the word of approximation i, from those of its sample and of the details i - 1 and r
  pub approx-from : (x : List ℕ) (i r : ℕ) {u v z : ℕ} → i < approx_length (length x / k) → 2 ≤ length x / k → r ≡ min i (details_length (length x / k) - 1)
      → u ≡ word_at k x (2 * i) → v ≡ detail_word k x (i - 1) → z ≡ detail_word k x r
      → residue (256 ^ k) (val (256 ^ k) u +ℤ shr_z (val (256 ^ k) v +ℤ val (256 ^ k) z +ℤ pos 2) 4) ≡ approx_word k x i
  unfolding approx_word detail_word approx details
  approx-from x i r {u} {v} {z} l two er eu ev ez =
      let y = decode k x in
      rw (
        word-wrap w,
        length-tabulate (details_length (length y)) (detail (wrap k) y),
        length-decode k x,
        ← er,
        at-decode k x (2 * i) (omega arith),
        ← eu,
        detail-val y (i - 1) v ev,
        detail-val y r z ez,
        get_or-tabulate (details_length (length x / k)) (detail (wrap k) y) (i - 1) (pos 0) (omega arith),
        get_or-tabulate (details_length (length x / k)) (detail (wrap k) y) r (pos 0) (omega arith),
      )

  -- one approximation more
  pub approx-more : (x : List ℕ) (i r : ℕ) {u v z g : ℕ} {s t : List ℕ} → Front k (approx_length (length x / k)) i (approx_word k x) s → i < approx_length (length x / k) → 2 ≤ length x / k → r ≡ min i (details_length (length x / k) - 1)
      → u ≡ word_at k x (2 * i) → v ≡ detail_word k x (i - 1) → z ≡ detail_word k x r
      → g ≡ residue (256 ^ k) (val (256 ^ k) u +ℤ shr_z (val (256 ^ k) v +ℤ val (256 ^ k) z +ℤ pos 2) 4) → t ≡ put_at k s i g → Front k (approx_length (length x / k)) (i + 1) (approx_word k x) t
  approx-more x i r h l two er eu ev ez eg put = front-more h refl l (eg ∙ approx-from x i r l two er eu ev ez) put

  -- all approximations
  pub approximated : (x a : List ℕ) (i : ℕ) → Front k (approx_length (length x / k)) i (approx_word k x) a → i ≡ approx_length (length x / k) → a ≡ low k x
  unfolding approx_word low approxs
  approximated x a i h e = rw (length-decode k x, encode-tabulate k (approx_length (length x / k)) (approx (wrap k) (decode k x) (details (wrap k) (decode k x)))) (front-all _ h e refl)

-- ---- the two areas of a block

pub room_of : {k : ℕ} → 0 < k → (s : List ℕ) (m n : ℕ) → length s ≡ k * m → n ≤ m → EnoughWords k n s
room_of p s m n e l = let h = holds p s m e in record { holds = rw h.count h; most = rw h.count l }
