-- How many bytes the bands of the integer 5/3 filter have, and the samples of two bands; and that each is a list of bytes. Once over the width.
use Rattle.std.proofs.Common.{◌≡◌, ℕ, zero, suc, ◌+◌, ◌*◌, ◌/◌, ◌<◌, List, [], ◌∷◌, ◌++◌, length, get_or, ℤ, ap, ◌∙◌, mul-add, arith}
use Rattle.base_lengths.specs.Lengths.{approx_length, details_length}
use Rattle.base_samples.specs.Le.{le_bytes, Bytes}
use Rattle.base_samples.specs.Words.{bytes_of}
use Rattle.base_samples.specs.Integers.{wrap, decode, encode}
use Rattle.base_samples.proofs.LeLaws.{bytes-le_bytes}
use Rattle.base_samples.proofs.Words.{length-tabulate}
use Rattle.base_samples.proofs.IntegerLaws.{length-decode, length-encode}
use Rattle.filter_cdf53i.specs.Lift.{details, approxs, restored}
use Rattle.filter_cdf53i.specs.Bands.{low, high, back}

-- ---- on whole numbers

pub length-approxs : (keep : ℤ → ℤ) (x : List ℤ) → length (approxs keep x) ≡ approx_length (length x)
unfolding approxs
length-approxs keep x = length-tabulate (approx_length (length x)) _

pub length-details : (keep : ℤ → ℤ) (x : List ℤ) → length (details keep x) ≡ details_length (length x)
unfolding details
length-details keep x = length-tabulate (details_length (length x)) _

pub length-restored : (keep : ℤ → ℤ) (a d : List ℤ) → length (restored keep a d) ≡ length a + length d
unfolding restored
length-restored keep a d = length-tabulate (length a + length d) _

-- ---- on bytes

module _ (k : ℕ) where
  -- the approximations of a list of bytes
  pub length-low : (x : List ℕ) → length (low k x) ≡ k * approx_length (length x / k)
  unfolding low
  length-low x = length-encode k _ ∙ ap (λ n. k * n) (length-approxs (wrap k) (decode k x) ∙ ap approx_length (length-decode k x))

  -- its details
  pub length_high : (x : List ℕ) → length (high k x) ≡ k * details_length (length x / k)
  unfolding high
  length_high x = length-encode k _ ∙ ap (λ n. k * n) (length-details (wrap k) (decode k x) ∙ ap details_length (length-decode k x))

  -- the samples of two bands
  pub length_back : (a d : List ℕ) → length (back k a d) ≡ k * (length a / k) + k * (length d / k)
  unfolding back
  length_back a d =
      length-encode k _
      ∙ ap (λ n. k * n) (length-restored (wrap k) (decode k a) (decode k d))
      ∙ mul-add k (length (decode k a)) (length (decode k d))
      ∙ rw (length-decode k a, length-decode k d)

-- ---- lists of bytes

-- two of them joined
pub bytes-join : (s t : List ℕ) → Bytes s → Bytes t → Bytes (s ++ t)
bytes-join s t p q = record { byte = go s p.byte }
  where
    go : (s : List ℕ) → ((i : ℕ) → get_or s i 0 < 256) → (i : ℕ) → get_or (s ++ t) i 0 < 256
    go [] h i = q.byte i
    go (b ∷ s) h zero = h 0
    go (b ∷ s) h (suc i) = go s (λ j. h (suc j)) i

-- the bytes of words
pub bytes-of : (k : ℕ) (us : List ℕ) → Bytes (bytes_of k us)
unfolding bytes_of
bytes-of k [] = record { byte = λ i. omega arith }
bytes-of k (u ∷ us) = bytes-join (le_bytes k u) (bytes_of k us) (record { byte = bytes-le_bytes k u }) (bytes-of k us)

module _ (k : ℕ) where
  -- the approximations are bytes, whatever the filter was given
  pub bytes_low : (x : List ℕ) → Bytes (low k x)
  unfolding low encode
  bytes_low x = bytes-of k _

  -- and so are the samples
  pub bytes_back : (a d : List ℕ) → Bytes (back k a d)
  unfolding back encode
  bytes_back a d = bytes-of k _
