-- Which samples a coefficient of one level reads: a detail three and an approximation five, no others at the mirrored ends. So where two recordings agree on
-- these, they have the same coefficient: on whole numbers, whatever is kept of one, and on words, once over the width. The two are equally long, or, of
-- recordings of any two lengths, the coefficient reads no mirrored end.
use Rattle.std.proofs.Common.{◌≡◌, ℕ, ◌+◌, ◌-◌, ◌*◌, ◌/◌, ◌^◌, ◌<◌, ◌≤◌, min, List, length, ℤ, sym, ap, ◌∙◌, arith}
use Rattle.base_lengths.specs.Lengths.{approx_length, details_length}
use Rattle.base_samples.specs.Words.{word_at}
use Rattle.base_samples.specs.Integers.{Width, val, residue, wrap, decode}
use Rattle.base_samples.proofs.Words.{holds}
use Rattle.base_samples.proofs.IntegerLaws.{length-decode, at-decode}
use Rattle.filter_cdf53i.specs.Lift.{at, odd_count, detail, details, approx}
use Rattle.filter_cdf53i.specs.Bands.{low, high, detail_word, approx_word}
use Rattle.filter_cdf53i.proofs.Lengths.{length-details}
use Rattle.filter_cdf53i.proofs.Undo.{at-details}
use Rattle.filter_cdf53i.proofs.Words.{low_word, high_word}
use Rattle.filter_cdf53i.proofs.WordTurns.{detail-val}

-- the place of the even sample after odd sample i of n samples, and of the detail after even sample i, each among its like
abbrev even_after : ℕ → ℕ → ℕ
even_after n i = min (i + 1) (approx_length n - 1)

abbrev pub detail_after : ℕ → ℕ → ℕ
detail_after n i = min i (details_length n - 1)

-- detail i reads samples 2i to 2i + 2
detail-near : (keep : ℤ → ℤ) (x y : List ℤ) (i : ℕ) → i < odd_count x → i < odd_count y → even_after (length x) i ≡ even_after (length y) i
    → ((j : ℕ) → 2 * i ≤ j → j ≤ 2 * i + 2 → j < length x → j < length y → at x j ≡ at y j) → detail keep x i ≡ detail keep y i
unfolding detail
detail-near keep x y i hx hy e s =
    rw (
      ← e,
      s (2 * i + 1) (omega arith) (omega arith) (omega arith) (omega arith),
      s (2 * i) (omega arith) (omega arith) (omega arith) (omega arith),
      s (2 * even_after (length x) i) (omega arith) (omega arith) (omega arith) (omega arith),
    )

-- approximation i reads sample 2i and the details on its two sides
approx-sides : (keep : ℤ → ℤ) (x y d e : List ℤ) (i : ℕ) → at x (2 * i) ≡ at y (2 * i) → at d (i - 1) ≡ at e (i - 1)
    → at d (min i (length d - 1)) ≡ at e (min i (length e - 1)) → approx keep x d i ≡ approx keep y e i
unfolding approx
approx-sides keep x y d e i s l r = rw (s, l, r)

-- ---- on words

module _ {k : ℕ} (w : Width k) (x y : List ℕ) where
  -- samples of the same words are the same numbers
  same_at : (j : ℕ) → j < length x / k → j < length y / k → word_at k x j ≡ word_at k y j → at (decode k x) j ≡ at (decode k y) j
  same_at j hx hy s = at-decode k x j hx ∙ ap (val (256 ^ k)) s ∙ sym (at-decode k y j hy)

  -- word i of the details is made of words 2i to 2i + 2
  high_same : (i : ℕ) → i < details_length (length x / k) → i < details_length (length y / k) → even_after (length x / k) i ≡ even_after (length y / k) i
      → ((j : ℕ) → 2 * i ≤ j → j ≤ 2 * i + 2 → j < length x / k → word_at k x j ≡ word_at k y j) → word_at k (high k x) i ≡ word_at k (high k y) i
  unfolding detail_word
  high_same i hx hy e s =
      let lx = length-decode k x in
      let ly = length-decode k y in
      high_word k x i hx
      ∙ ap (residue (256 ^ k))
      (detail-near (wrap k) (decode k x) (decode k y) i (rw lx hx) (rw ly hy) (rw (lx, ly) e)
      (λ j a b c d. let l : j < length x / k = rw lx at c in same_at j l (rw ly at d) (s j a b l)))
      ∙ sym (high_word k y i hy)

  -- the same of recordings of any lengths, where detail i reads no mirrored end
  pub high-prefix : (i : ℕ) → 2 * i + 2 < length x / k → 2 * i + 2 < length y / k → ((j : ℕ) → 2 * i ≤ j → j ≤ 2 * i + 2 → word_at k x j ≡ word_at k y j)
      → word_at k (high k x) i ≡ word_at k (high k y) i
  high-prefix i hx hy s = high_same i (omega arith) (omega arith) (omega arith) (λ j a b _. s j a b)

  -- the number of a detail is that of its word
  at-detail : (z : List ℕ) (i : ℕ) → i < details_length (length z / k) → at (details (wrap k) (decode k z)) i ≡ val (256 ^ k) (word_at k (high k z) i)
  unfolding detail_word
  at-detail z i h = at-details (wrap k) (decode k z) i (rw (length-decode k z) h) ∙ sym (detail-val w (decode k z) i (word_at k (high k z) i) (high_word k z i h))

  same-detail : (i j : ℕ) → i < details_length (length x / k) → j < details_length (length y / k) → word_at k (high k x) i ≡ word_at k (high k y) j
      → at (details (wrap k) (decode k x)) i ≡ at (details (wrap k) (decode k y)) j
  same-detail i j hx hy s = at-detail x i hx ∙ ap (val (256 ^ k)) s ∙ sym (at-detail y j hy)

  -- word i of the approximations is made of word 2i and of the details on its two sides
  pub low-sides : (i : ℕ) → 2 ≤ length x / k → 2 ≤ length y / k → i < approx_length (length x / k) → i < approx_length (length y / k)
      → word_at k x (2 * i) ≡ word_at k y (2 * i) → word_at k (high k x) (i - 1) ≡ word_at k (high k y) (i - 1)
      → word_at k (high k x) (detail_after (length x / k) i) ≡ word_at k (high k y) (detail_after (length y / k) i) → word_at k (low k x) i ≡ word_at k (low k y) i
  unfolding approx_word
  low-sides i tx ty hx hy s l r =
      let ex : length (details (wrap k) (decode k x)) ≡ details_length (length x / k) = length-details (wrap k) (decode k x) ∙ ap details_length (length-decode k x) in
      let ey : length (details (wrap k) (decode k y)) ≡ details_length (length y / k) = length-details (wrap k) (decode k y) ∙ ap details_length (length-decode k y) in
      low_word k x i hx
      ∙ ap (residue (256 ^ k))
      (approx-sides (wrap k) (decode k x) (decode k y) (details (wrap k) (decode k x)) (details (wrap k) (decode k y)) i
      (same_at (2 * i) (omega arith) (omega arith) s)
      (same-detail (i - 1) (i - 1) (omega arith) (omega arith) l)
      (rw (ex, ey) (same-detail (detail_after (length x / k) i) (detail_after (length y / k) i) (omega arith) (omega arith) r)))
      ∙ sym (low_word k y i hy)

-- ---- of n samples each

module _ {k : ℕ} (w : Width k) (x y : List ℕ) (n : ℕ) (hx : length x ≡ k * n) (hy : length y ≡ k * n) (two : 2 ≤ n) where
  nx : length x / k ≡ n
  nx = (holds w.some x n hx).count

  ny : length y / k ≡ n
  ny = (holds w.some y n hy).count

  pub high-near : (i : ℕ) → i < details_length n → ((j : ℕ) → 2 * i ≤ j → j ≤ 2 * i + 2 → j < n → word_at k x j ≡ word_at k y j)
      → word_at k (high k x) i ≡ word_at k (high k y) i
  high-near i h s = high_same w x y i (rw nx h) (rw ny h) (ap (λ m. even_after m i) (nx ∙ sym ny)) (λ j a b c. s j a b (rw nx at c))

  -- word i of the approximations is made of words 2i - 2 to 2i + 2
  pub low_near : (i : ℕ) → i < approx_length n → ((j : ℕ) → 2 * i - 2 ≤ j → j ≤ 2 * i + 2 → j < n → word_at k x j ≡ word_at k y j)
      → word_at k (low k x) i ≡ word_at k (low k y) i
  low_near i h s =
      low-sides w x y i (rw nx two) (rw ny two) (rw nx h) (rw ny h) (s (2 * i) (omega arith) (omega arith) (omega arith))
      (high-near (i - 1) (omega arith) (λ j a b c. s j (omega arith) (omega arith) c))
      (rw (nx, ny) (high-near (detail_after n i) (omega arith) (λ j a b c. s j (omega arith) (omega arith) c)))
