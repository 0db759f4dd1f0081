-- There and back on bytes, once over the width: the inverse of the transform is the samples' own bytes, the transform of the inverse the bands' own bytes;
-- and where no coefficient wraps, the bands and the samples are T.800's own numbers.
use Rattle.std.proofs.Common.{◌≡◌, ℕ, ◌+◌, ◌-◌, ◌*◌, ◌/◌, ◌%◌, ◌^◌, ◌<◌, ◌≤◌, min, Bool, true, false, cond, eqb, List, length, ℤ, ap, ◌∙◌, ⊎_elim, arith, eq-eqb, ne_eqb}
use Rattle.base_order.proofs.Order.{lt-or-le}
use Rattle.base_lengths.specs.Lengths.{approx_length, details_length}
use Rattle.base_samples.specs.Le.{Bytes}
use Rattle.base_samples.specs.Words.{word_at, Holds}
use Rattle.base_samples.specs.Integers.{val, wrap, encode, decode, Width}
use Rattle.base_samples.proofs.Words.{tabulate-same, word_lt}
use Rattle.base_samples.proofs.IntegerLaws.{length-decode, at-decode, word-val, wrap-wrap, decode-encode, encode-decode}
use Rattle.filter_cdf53i.specs.Lift.{at, detail, details, approx, approxs, even_count, odd_count, sample, even, odd, restored}
use Rattle.filter_cdf53i.specs.Bands.{low, high, back}
use Rattle.filter_cdf53i.proofs.Undo.{undoes-wrap, undone, details-again, approxs-again}

module _ {k : ℕ} (w : Width k) where
  -- coefficients that were stored are read back
  pub stored-details : (x : List ℤ) → decode k (encode k (details (wrap k) x)) ≡ details (wrap k) x
  unfolding details detail
  stored-details x = decode-encode w (odd_count x) (detail (wrap k) x) ∙ tabulate-same (odd_count x) (λ i. wrap k (detail (wrap k) x i)) (detail (wrap k) x) (λ i h. wrap-wrap w _)

  pub stored-approxs : (x : List ℤ) → decode k (encode k (approxs (wrap k) x)) ≡ approxs (wrap k) x
  unfolding approxs approx
  stored-approxs x =
      let f = approx (wrap k) x (details (wrap k) x) in
      decode-encode w (even_count x) f ∙ tabulate-same (even_count x) (λ i. wrap k (f i)) f (λ i h. wrap-wrap w _)

  -- a sample that was read is kept as it is
  fits : (s : List ℕ) → Bytes s → (i : ℕ) → i < length (decode k s) → wrap k (at (decode k s) i) ≡ at (decode k s) i
  unfolding wrap
  fits s b i h = rw (at-decode k s i (rw (length-decode k s) at h)) (ap (val (256 ^ k)) (word-val w (word_at k s i) (word_lt k s b i)))

  -- the inverse of the transform is the identity on every list of k-byte samples
  pub back-low-high : (x : List ℕ) → Bytes x → (n : ℕ) → Holds k n x → 2 ≤ n → back k (low k x) (high k x) ≡ x
  unfolding low high back
  back-low-high x b n h two =
      let z = decode k x in
      let long : 2 ≤ length z = rw (length-decode k x, h.count) two in
      rw (stored-approxs z, stored-details z, undone (wrap k) (undoes-wrap w) z long (fits x b)) (encode-decode w x b n h)

  kept-sample : (a d : List ℤ) (j : ℕ) → wrap k (sample (wrap k) a d j) ≡ sample (wrap k) a d j
  unfolding sample even odd
  kept-sample a d j = pick (eqb (j % 2) 0)
    where
      pick : (t : Bool) → wrap k (cond t (even (wrap k) a d (j / 2)) (odd (wrap k) (even (wrap k) a d) (length a) d (j / 2))) ≡ cond t (even (wrap k) a d (j / 2)) (odd (wrap k) (even (wrap k) a d) (length a) d (j / 2))
      pick true = wrap-wrap w _
      pick false = wrap-wrap w _

  pub stored-restored : (a d : List ℤ) → decode k (encode k (restored (wrap k) a d)) ≡ restored (wrap k) a d
  unfolding restored
  stored-restored a d =
      let f = sample (wrap k) a d in
      let n = length a + length d in
      decode-encode w n f ∙ tabulate-same n (λ i. wrap k (f i)) f (λ i h. kept-sample a d i)

  -- and the transform of the inverse on every pair of bands whose lengths fit
  module _ (a d : List ℕ) (ba : Bytes a) (bd : Bytes d) (n : ℕ) (ha : Holds k (approx_length n) a) (hd : Holds k (details_length n) d) (two : 2 ≤ n) where
    long-a : length (decode k a) ≡ approx_length n
    long-a = length-decode k a ∙ ha.count

    long-d : length (decode k d) ≡ details_length n
    long-d = length-decode k d ∙ hd.count

    pub back-and-low : low k (back k a d) ≡ a
    unfolding low back
    back-and-low =
        rw (stored-restored (decode k a) (decode k d))
        (ap (encode k) (approxs-again (wrap k) (undoes-wrap w) (decode k a) (decode k d) (omega (arith, long-a, long-d)) (omega (arith, long-a, long-d)) (omega (arith, long-d)) (fits a ba) (fits d bd))
        ∙ encode-decode w a ba (approx_length n) ha)

    pub back-and-high : high k (back k a d) ≡ d
    unfolding high back
    back-and-high =
        rw (stored-restored (decode k a) (decode k d))
        (ap (encode k) (details-again (wrap k) (undoes-wrap w) (decode k a) (decode k d) (omega (arith, long-a, long-d)) (omega (arith, long-a, long-d)) (omega (arith, long-d)) (fits a ba) (fits d bd))
        ∙ encode-decode w d bd (details_length n) hd)

-- ---- where no coefficient wraps, what is kept is T.800's own

module _ (keep : ℤ → ℤ) (x : List ℤ) (d-kept : (i : ℕ) → i < odd_count x → keep (detail (λ z. z) x i) ≡ detail (λ z. z) x i) where
  pub details-unwrapped : details keep x ≡ details (λ z. z) x
  unfolding details detail
  details-unwrapped = tabulate-same (odd_count x) (detail keep x) (detail (λ z. z) x) d-kept

  pub approxs-unwrapped : ((i : ℕ) → i < even_count x → keep (approx (λ z. z) x (details (λ z. z) x) i) ≡ approx (λ z. z) x (details (λ z. z) x) i) → approxs keep x ≡ approxs (λ z. z) x
  unfolding approxs approx
  approxs-unwrapped a-kept = rw details-unwrapped (tabulate-same (even_count x) (approx keep x (details (λ z. z) x)) (approx (λ z. z) x (details (λ z. z) x)) a-kept)

-- and so are the samples of two bands, where none of them wraps
module _ (keep : ℤ → ℤ) (a d : List ℤ) (more : length d ≤ length a) (less : length a ≤ length d + 1)
    (kept : (j : ℕ) → j < length a + length d → keep (sample (λ z. z) a d j) ≡ sample (λ z. z) a d j) where
  even-unwrapped : (i : ℕ) → i < length a → even keep a d i ≡ even (λ z. z) a d i
  unfolding even sample
  even-unwrapped i h =
      let half : (2 * i) / 2 ≡ i = omega arith in
      rw (eq-eqb ((2 * i) % 2) 0 (omega arith), half) at (kept (2 * i) (omega arith))

  odd-unwrapped : (i : ℕ) → i < length d → odd keep (even keep a d) (length a) d i ≡ odd (λ z. z) (even (λ z. z) a d) (length a) d i
  unfolding odd sample
  odd-unwrapped i h =
      let half : (2 * i + 1) / 2 ≡ i = omega arith in
      rw (even-unwrapped i (omega arith), even-unwrapped (min (i + 1) (length a - 1)) (omega arith))
      (rw (ne_eqb ((2 * i + 1) % 2) 0 (λ z. omega arith), half) at (kept (2 * i + 1) (omega arith)))

  pub restored-unwrapped : restored keep a d ≡ restored (λ z. z) a d
  unfolding restored sample
  restored-unwrapped =
      tabulate-same (length a + length d) (sample keep a d) (sample (λ z. z) a d)
      (λ j h.
      ⊎_elim
      (λ e. rw (eq-eqb (j % 2) 0 (omega arith)) (even-unwrapped (j / 2) (omega arith)))
      (λ e. rw (ne_eqb (j % 2) 0 (λ z. omega arith)) (odd-unwrapped (j / 2) (omega arith)))
      (lt-or-le (j % 2) 1))
