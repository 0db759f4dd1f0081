-- What comes after a state, from C-15: what is fixed of a recording stays, and recordings that leave one state go on alike. Laws on lists, once over the width.
use mathlib.Core.List.{List, ◌++◌}
use mathlib.Core.Logic.{⊎_elim}
use mathlib.Core.Path.{◌≡◌, sym, ap, ◌∙◌}
use Prim.Native.Nat.{ℕ, ◌+◌, ◌-◌, ◌*◌, ◌/◌, ◌≤◌, ◌<◌}
use native.Mathlib.Nat.{mul-zero}
use native.Mathlib.Omega.{arith}
use lib.ListN.{length, take}
use Rattle.base_order.proofs.Order.{lt-or-le}
use Rattle.base_lengths.specs.Lengths.{approx_length, details_length}
use Rattle.base_samples.specs.Words.{word_at, bytes_of, Holds}
use Rattle.base_samples.specs.Integers.{Width}
use Rattle.base_samples.proofs.Words.{holds, tabulate-same, word-take}
use Rattle.filter_cdf53i.specs.Bands.{low, high, detail_word, approx_word}
use Rattle.filter_cdf53i.proofs.Words.{low_word, high_word}
use Rattle.filter_cdf53i.proofs.Near.{detail_after, high-prefix, low-sides, high-near}
use Rattle.stream_pieces.specs.declared.recorder.Recorder.{Recorder}
use Rattle.stream_pieces.specs.States.{fixed, state_of, between}
use Rattle.stream_pieces.proofs.Joins.{joined, earlier, later}
use Rattle.stream_pieces.proofs.Tables.{between-low, between-high}

module _ {k : ℕ} (w : Width k) where
  -- ---- parts of the bands of x and of y are equal when each word is

  module _ (x y : List ℕ) (i j : ℕ) (h : i ≤ j) where
    same_low : j ≤ approx_length (length x / k) → j ≤ approx_length (length y / k) → ((p : ℕ) → i ≤ p → p < j → word_at k (low k x) p ≡ word_at k (low k y) p)
        → between k i j (low k x) ≡ between k i j (low k y)
    same_low lx ly same =
        between-low k x i j h lx
        ∙ ap (bytes_of k)
        (tabulate-same (j - i) (λ p. approx_word k x (i + p)) (λ p. approx_word k y (i + p))
        (λ p l. sym (low_word k x (i + p) (omega arith)) ∙ same (i + p) (omega arith) (omega arith) ∙ low_word k y (i + p) (omega arith)))
        ∙ sym (between-low k y i j h ly)

    same-high : j ≤ details_length (length x / k) → j ≤ details_length (length y / k) → ((p : ℕ) → i ≤ p → p < j → word_at k (high k x) p ≡ word_at k (high k y) p)
        → between k i j (high k x) ≡ between k i j (high k y)
    same-high lx ly same =
        between-high k x i j h lx
        ∙ ap (bytes_of k)
        (tabulate-same (j - i) (λ p. detail_word k x (i + p)) (λ p. detail_word k y (i + p))
        (λ p l. sym (high_word k x (i + p) (omega arith)) ∙ same (i + p) (omega arith) (omega arith) ∙ high_word k y (i + p) (omega arith)))
        ∙ sym (between-high k y i j h ly)

  -- ---- x, of t samples, and then y, of u

  module _ (x y : List ℕ) (t u : ℕ) (hx : length x ≡ k * t) (hy : length y ≡ k * u) where
    -- ---- the coefficients below `fixed t` are those of x

    count : length x / k ≡ t
    count = (holds w.some x t hx).count

    detail-stays : (i : ℕ) → i < fixed t → word_at k (high k (x ++ y)) i ≡ word_at k (high k x) i
    detail-stays i h = high-prefix w (x ++ y) x i (rw (joined w x y t u hx hy).count (omega arith)) (rw count (omega arith)) (λ j a b. earlier w x y t u hx hy j (omega arith))

    approx-stays : (i : ℕ) → i < fixed t → word_at k (low k (x ++ y)) i ≡ word_at k (low k x) i
    approx-stays i h =
        let n : length (x ++ y) / k ≡ t + u = (joined w x y t u hx hy).count in
        let c = count in
        let e : detail_after (t + u) i ≡ i = omega arith in
        let e' : detail_after t i ≡ i = omega arith in
        low-sides w (x ++ y) x i (omega arith) (omega arith) (omega arith) (omega arith) (earlier w x y t u hx hy (2 * i) (omega arith)) (detail-stays (i - 1) (omega arith))
        (rw (n, c, e, e') (detail-stays i h))

    -- what is fixed stays
    pub low-stays : take (k * fixed t) (low k (x ++ y)) ≡ take (k * fixed t) (low k x)
    low-stays = rw (mul-zero k) at (same_low (x ++ y) x 0 (fixed t) (omega arith) (omega (arith, (joined w x y t u hx hy).count)) (omega (arith, count)) (λ p a l. approx-stays p l))

    pub high-stays : take (k * fixed t) (high k (x ++ y)) ≡ take (k * fixed t) (high k x)
    high-stays = rw (mul-zero k) at (same-high (x ++ y) x 0 (fixed t) (omega arith) (omega (arith, (joined w x y t u hx hy).count)) (omega (arith, count)) (λ p a l. detail-stays p l))

  -- ---- x₁ and x₂, of t samples each, leave the same state

  module _ (x₁ x₂ y : List ℕ) (t u : ℕ) (h₁ : length x₁ ≡ k * t) (h₂ : length x₂ ≡ k * t) (hy : length y ≡ k * u) (same : state_of k x₁ ≡ state_of k x₂) where
    all₁ : Holds k (t + u) (x₁ ++ y)
    all₁ = joined w x₁ y t u h₁ hy

    all₂ : Holds k (t + u) (x₂ ++ y)
    all₂ = joined w x₂ y t u h₂ hy

    kept : let m = fixed t in (word_at k x₁ (2 * m) ≡ word_at k x₂ (2 * m)) × (word_at k x₁ (2 * m + 1) ≡ word_at k x₂ (2 * m + 1))
        × (word_at k (take (k * m) (high k x₁)) (m - 1) ≡ word_at k (take (k * m) (high k x₂)) (m - 1))
    unfolding state_of
    kept =
        let c₁ = count x₁ y t u h₁ hy in
        let c₂ = count x₂ y t u h₂ hy in (
          rw (c₁, c₂) at (ap (λ (s : Recorder). s.even) same),
          rw (c₁, c₂) at (ap (λ (s : Recorder). s.odd) same),
          rw (c₁, c₂) at (ap (λ (s : Recorder). s.detail) same),
        )

    -- the words from 2 * fixed t on are kept, at most two, or come in y
    words-on : (j : ℕ) → 2 * fixed t ≤ j → word_at k (x₁ ++ y) j ≡ word_at k (x₂ ++ y) j
    words-on j h =
        ⊎_elim
        (λ l.
        earlier w x₁ y t u h₁ hy j l
        ∙ ⊎_elim
        (λ g. let e : j ≡ 2 * fixed t = omega arith in rw e kept.0)
        (λ g. let e : j ≡ 2 * fixed t + 1 = omega arith in rw e kept.1)
        (lt-or-le j (2 * fixed t + 1))
        ∙ sym (earlier w x₂ y t u h₂ hy j l))
        (λ l. later w x₁ y t u h₁ hy j l ∙ sym (later w x₂ y t u h₂ hy j l))
        (lt-or-le j t)

    -- the details from the last fixed one on
    details-on : (i : ℕ) → fixed t ≤ i + 1 → i < details_length (t + u) → word_at k (high k (x₁ ++ y)) i ≡ word_at k (high k (x₂ ++ y)) i
    details-on i h l =
        ⊎_elim
        (λ g.
        let e : i ≡ fixed t - 1 = omega arith in
        detail-stays x₁ y t u h₁ hy i g
        ∙ rw (← word-take k (high k x₁) (fixed t) i g, ← word-take k (high k x₂) (fixed t) i g, e) kept.2
        ∙ sym (detail-stays x₂ y t u h₂ hy i g))
        (λ g. high-near w (x₁ ++ y) (x₂ ++ y) (t + u) all₁.size all₂.size (omega arith) i l (λ j a b c. words-on j (omega arith)))
        (lt-or-le i (fixed t))

    approxs-on : (i : ℕ) → fixed t ≤ i → i < approx_length (t + u) → 2 ≤ t + u → word_at k (low k (x₁ ++ y)) i ≡ word_at k (low k (x₂ ++ y)) i
    approxs-on i h l two =
        let n₁ = all₁.count in
        let n₂ = all₂.count in
        low-sides w (x₁ ++ y) (x₂ ++ y) i (rw n₁ two) (rw n₂ two) (rw n₁ l) (rw n₂ l) (words-on (2 * i) (omega arith))
        (details-on (i - 1) (omega arith) (omega arith)) (rw (n₁, n₂) (details-on (detail_after (t + u) i) (omega arith) (omega arith)))

    -- the last of the first m details, where there is one
    last_on : (m : ℕ) → fixed t ≤ m → m ≤ details_length (t + u)
        → word_at k (take (k * m) (high k (x₁ ++ y))) (m - 1) ≡ word_at k (take (k * m) (high k (x₂ ++ y))) (m - 1)
    last_on m h l =
        ⊎_elim
        (λ g.
        word-take k (high k (x₁ ++ y)) m (m - 1) (omega arith)
        ∙ details-on (m - 1) (omega arith) (omega arith)
        ∙ sym (word-take k (high k (x₂ ++ y)) m (m - 1) (omega arith)))
        (λ g. let e : m ≡ 0 = omega arith in rw (e, mul-zero k))
        (lt-or-le 0 m)

    -- they go on alike: the state after y
    pub state-onward : state_of k (x₁ ++ y) ≡ state_of k (x₂ ++ y)
    unfolding state_of
    state-onward =
        let m = fixed (t + u) in
        rw (all₁.count, all₂.count, words-on (2 * m) (omega arith), words-on (2 * m + 1) (omega arith), last_on m (omega arith) (omega arith))

    -- the approximations that are not written yet: one sample alone has none to ask for
    pub low-onward : (j : ℕ) → fixed t ≤ j → j ≤ approx_length (t + u) → (0 < j → 2 ≤ t + u)
        → between k (fixed t) j (low k (x₁ ++ y)) ≡ between k (fixed t) j (low k (x₂ ++ y))
    low-onward j h l two = same_low (x₁ ++ y) (x₂ ++ y) (fixed t) j h (rw all₁.count l) (rw all₂.count l) (λ p a b. approxs-on p a (omega arith) (two (omega arith)))

    -- and the details
    pub high-onward : (j : ℕ) → fixed t ≤ j → j ≤ details_length (t + u) → between k (fixed t) j (high k (x₁ ++ y)) ≡ between k (fixed t) j (high k (x₂ ++ y))
    high-onward j h l = same-high (x₁ ++ y) (x₂ ++ y) (fixed t) j h (rw all₁.count l) (rw all₂.count l) (λ p a b. details-on p (omega arith) (omega arith))
