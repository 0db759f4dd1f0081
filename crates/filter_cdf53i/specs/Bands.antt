-- The integer 5/3 filter on bytes: k bytes a sample, each coefficient kept modulo the width. And what its inner functions ask and promise.
use Rattle.std.specs.Prelude.{◌≡◌, ℕ, ◌+◌, ◌-◌, ◌*◌, ◌/◌, ◌^◌, ◌<◌, ◌≤◌, List, length}
use Rattle.base_lengths.specs.Lengths.{approx_length, details_length}
use Rattle.base_samples.specs.Words.{Holds, Front}
use Rattle.base_samples.specs.Integers.{wrap, residue, decode, encode}
use Rattle.filter_cdf53i.specs.Lift.{detail, details, approx, approxs, even, sample, restored}

-- the bytes of the approximations and of the details of the samples in x
unfoldable pub low : ℕ → List ℕ → List ℕ
low k x = encode k (approxs (wrap k) (decode k x))

unfoldable pub high : ℕ → List ℕ → List ℕ
high k x = encode k (details (wrap k) (decode k x))

-- the bytes of the samples whose bands are in a and d
unfoldable pub back : ℕ → List ℕ → List ℕ → List ℕ
back k a d = encode k (restored (wrap k) (decode k a) (decode k d))

-- x holds 3 samples or more of k bytes
pub record Input (k : ℕ) (x : List ℕ) : Type 0 where
  pub long : 3 ≤ length x / k
  pub samples : Holds k (length x / k) x

-- and a as many as x has approximations, d as many as it has details
pub record InputBands (k : ℕ) (x a d : List ℕ) : Type 0 where
  pub input : Input k x
  pub approx : Holds k (approx_length (length x / k)) a
  pub details : Holds k (details_length (length x / k)) d

-- the word of detail i of the samples in x, and the word of their approximation i
unfoldable pub detail_word : ℕ → List ℕ → ℕ → ℕ
detail_word k x i = residue (256 ^ k) (detail (wrap k) (decode k x) i)

unfoldable pub approx_word : ℕ → List ℕ → ℕ → ℕ
approx_word k x i = residue (256 ^ k) (approx (wrap k) (decode k x) (details (wrap k) (decode k x)) i)

-- a holds the first i of the approximations of the samples in x, and e is the word of the detail before the next one: of detail 0 where i is 0
pub record Approximating (k : ℕ) (x a : List ℕ) (i e : ℕ) : Type 0 where
  pub front : Front k (approx_length (length x / k)) i (approx_word k x) a
  pub left : e ≡ detail_word k x (i - 1)

-- the samples in x have the details i to i + n: before the last no neighbour is mirrored
pub record Unmirrored (k : ℕ) (x : List ℕ) (i n : ℕ) : Type 0 where
  pub input : Input k x
  pub details : i + n < details_length (length x / k)

-- the words of the details from the one before detail i on
unfoldable pub details_from : ℕ → List ℕ → ℕ → ℕ → ℕ
details_from k x i j = detail_word k x (i + j - 1)

-- the word of sample j of the samples whose bands are in a and d, and the word of their even sample i
unfoldable pub sample_word : ℕ → List ℕ → List ℕ → ℕ → ℕ
sample_word k a d j = residue (256 ^ k) (sample (wrap k) (decode k a) (decode k d) j)

unfoldable pub even_word : ℕ → List ℕ → List ℕ → ℕ → ℕ
even_word k a d i = residue (256 ^ k) (even (wrap k) (decode k a) (decode k d) i)

-- x holds the first 2 i of the n samples that it is to hold, and e is the word of even sample i, which comes next
pub record Restoring (k n : ℕ) (a d x : List ℕ) (i e : ℕ) : Type 0 where
  pub front : Front k n (2 * i) (sample_word k a d) x
  pub next : e ≡ even_word k a d i

-- a has the approximations and d the details i to i + n: no neighbour is mirrored. Places of d fit a length
pub record Inside (k : ℕ) (a d : List ℕ) (i n : ℕ) : Type 0 where
  pub approx : i + n < length a / k
  pub details : i + n < length d / k
  pub few : length d / k ≤ length d

-- the words of the even samples from i on, and of the odd ones
unfoldable pub evens_from : ℕ → List ℕ → List ℕ → ℕ → ℕ → ℕ
evens_from k a d i j = even_word k a d (i + j)

unfoldable pub odds_from : ℕ → List ℕ → List ℕ → ℕ → ℕ → ℕ
odds_from k a d i j = sample_word k a d (2 * (i + j) + 1)

-- s is whole words of k bytes, n of them or more
pub record EnoughWords (k n : ℕ) (s : List ℕ) : Type 0 where
  pub holds : Holds k (length s / k) s
  pub most : n ≤ length s / k
