-- What the filter's bytes hold, read as numbers: T.800's kept steps; and T.800's own numbers, where k bytes hold each of these.
use Rattle.std.proofs.Common.{◌≡◌, ℕ, suc, ◌+◌, ◌-◌, ◌/◌, ◌^◌, ◌<◌, ◌≤◌, List, length, ℤ, pos, negsuc, ap, ◌∙◌, mod-eq_of_lt, arith, le-ltb, lt-ltb}
use Rattle.base_lengths.specs.Lengths.{approx_length, details_length}
use Rattle.base_samples.specs.Integers.{val, residue, wrap, decode, encode, Width}
use Rattle.base_samples.proofs.Words.{length-tabulate, get_or-tabulate}
use Rattle.base_samples.proofs.IntegerLaws.{length-decode}
use Rattle.filter_cdf53i.specs.Lift.{at, even_count, odd_count, detail, details, approx, approxs, sample, restored}
use Rattle.filter_cdf53i.specs.Bands as bytes
use Rattle.filter_cdf53i.specs.T800.{highs, lows, backs}
use Rattle.filter_cdf53i.specs.Within.{Within, AllWithin, Holding}
use Rattle.filter_cdf53i.proofs.T800.{details-is, approxs-is, restored-is, low-is, high_is, back_is}
use Rattle.filter_cdf53i.proofs.Round.{stored-details, stored-approxs, stored-restored, details-unwrapped, approxs-unwrapped, restored-unwrapped}

-- a number of k bytes is kept as it is
pub wrap-within : {k : ℕ} → Width k → (z : ℤ) → Within k z → wrap k z ≡ z
unfolding Within wrap val residue
wrap-within {k} w (pos n) h =
    rw (mod-eq_of_lt {n = n} {m = 256 ^ k} (omega (arith, w.words)), lt-ltb n (256 ^ k / 2) h)
wrap-within {k} w (negsuc n) h =
    rw (mod-eq_of_lt {n = n} {m = 256 ^ k} (omega (arith, w.words)), le-ltb (256 ^ k - suc n) (256 ^ k / 2) (omega (arith, w.words)))
    (ap negsuc (omega (arith, w.words)))

module _ {k : ℕ} (w : Width k) where
  -- ---- on numbers: T.800's own where they are within k bytes

  module _ (x : List ℤ) (two : 2 ≤ length x) (hw : AllWithin k (highs (λ z. z) x)) where
    own-detail : (i : ℕ) → i < odd_count x → wrap k (detail (λ z. z) x i) ≡ detail (λ z. z) x i
    unfolding details
    own-detail i h =
        let e : at (highs (λ z. z) x) i ≡ detail (λ z. z) x i = rw (← details-is (λ z. z) x two) (get_or-tabulate (odd_count x) (detail (λ z. z) x) i (pos 0) h) in
        let l : length (highs (λ z. z) x) ≡ odd_count x = rw (← details-is (λ z. z) x two) (length-tabulate (odd_count x) (detail (λ z. z) x)) in
        wrap-within w (detail (λ z. z) x i) (rw e at (hw i (omega arith)))

    pub highs-unwrapped : highs (wrap k) x ≡ highs (λ z. z) x
    highs-unwrapped = rw (← details-is (wrap k) x two, ← details-is (λ z. z) x two) (details-unwrapped (wrap k) x own-detail)

    pub lows-unwrapped : AllWithin k (lows (λ z. z) x) → lows (wrap k) x ≡ lows (λ z. z) x
    unfolding approxs
    lows-unwrapped lw =
        let g = approx (λ z. z) x (details (λ z. z) x) in
        rw (← approxs-is (wrap k) x two, ← approxs-is (λ z. z) x two)
        (approxs-unwrapped (wrap k) x own-detail
        (λ i h.
        let e : at (lows (λ z. z) x) i ≡ g i = rw (← approxs-is (λ z. z) x two) (get_or-tabulate (even_count x) g i (pos 0) h) in
        let l : length (lows (λ z. z) x) ≡ even_count x = rw (← approxs-is (λ z. z) x two) (length-tabulate (even_count x) g) in
        wrap-within w (g i) (rw e at (lw i (omega arith)))))

  pub backs-unwrapped : (a d : List ℤ) → length d ≤ length a → length a ≤ length d + 1 → 1 ≤ length d → AllWithin k (backs (λ z. z) a d) → backs (wrap k) a d ≡ backs (λ z. z) a d
  unfolding restored
  backs-unwrapped a d more less one bw =
      let g = sample (λ z. z) a d in
      let n = length a + length d in
      rw (← restored-is (wrap k) a d more less one, ← restored-is (λ z. z) a d more less one)
      (restored-unwrapped (wrap k) a d more less
      (λ j h.
      let e : at (backs (λ z. z) a d) j ≡ g j = rw (← restored-is (λ z. z) a d more less one) (get_or-tabulate n g j (pos 0) h) in
      let l : length (backs (λ z. z) a d) ≡ n = rw (← restored-is (λ z. z) a d more less one) (length-tabulate n g) in
      wrap-within w (g j) (rw e at (bw j (omega arith)))))

  -- ---- on bytes: T.800's steps, as they are kept, and T.800's own

  module _ (x : List ℕ) (two : 2 ≤ length x / k) where
    some : 2 ≤ length (decode k x)
    some = rw (length-decode k x) two

    pub low_read : decode k (bytes.low k x) ≡ lows (wrap k) (decode k x)
    unfolding bytes.low
    low_read = stored-approxs w (decode k x) ∙ approxs-is (wrap k) (decode k x) some

    pub high_read : decode k (bytes.high k x) ≡ highs (wrap k) (decode k x)
    unfolding bytes.high
    high_read = stored-details w (decode k x) ∙ details-is (wrap k) (decode k x) some

    pub high-own : AllWithin k (highs (λ z. z) (decode k x)) → Holding k (highs (λ z. z) (decode k x)) (bytes.high k x)
    high-own hw = let e = highs-unwrapped (decode k x) some hw in record { bytes = high_is k x two ∙ ap (encode k) e; read = high_read ∙ e }

    pub low-own : AllWithin k (highs (λ z. z) (decode k x)) → AllWithin k (lows (λ z. z) (decode k x)) → Holding k (lows (λ z. z) (decode k x)) (bytes.low k x)
    low-own hw lw = let e = lows-unwrapped (decode k x) some hw lw in record { bytes = low-is k x two ∙ ap (encode k) e; read = low_read ∙ e }

  -- of the bands of n samples
  module _ (a d : List ℕ) (n : ℕ) (ea : length a / k ≡ approx_length n) (ed : length d / k ≡ details_length n) (two : 2 ≤ n) where
    long-a : length (decode k a) ≡ approx_length n
    long-a = length-decode k a ∙ ea

    long-d : length (decode k d) ≡ details_length n
    long-d = length-decode k d ∙ ed

    pub back_read : decode k (bytes.back k a d) ≡ backs (wrap k) (decode k a) (decode k d)
    unfolding bytes.back
    back_read =
        stored-restored w (decode k a) (decode k d)
        ∙ restored-is (wrap k) (decode k a) (decode k d) (omega (arith, long-a, long-d)) (omega (arith, long-a, long-d)) (omega (arith, long-d))

    pub back-own : AllWithin k (backs (λ z. z) (decode k a) (decode k d)) → Holding k (backs (λ z. z) (decode k a) (decode k d)) (bytes.back k a d)
    back-own bw =
        let e = backs-unwrapped (decode k a) (decode k d) (omega (arith, long-a, long-d)) (omega (arith, long-a, long-d)) (omega (arith, long-d)) bw in
        record { bytes = back_is k a d n ea ed two ∙ ap (encode k) e; read = back_read ∙ e }
