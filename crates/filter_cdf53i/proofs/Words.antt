-- One word of what the filter makes: of the approximations, of the details and of the samples. Once over the width.
use Rattle.std.proofs.Common.{◌≡◌, ℕ, ◌+◌, ◌/◌, ◌^◌, ◌<◌, List, length, ℤ}
use Rattle.base_lengths.specs.Lengths.{approx_length, details_length}
use Rattle.base_samples.specs.Words.{tabulate, word_at}
use Rattle.base_samples.specs.Integers.{residue, wrap, decode, encode}
use Rattle.base_samples.proofs.LeLaws.{top_pos}
use Rattle.base_samples.proofs.Words.{word-table}
use Rattle.base_samples.proofs.IntegerLaws.{residue-lt, length-decode, encode-tabulate}
use Rattle.filter_cdf53i.specs.Lift.{even_count, odd_count, detail, details, approx, approxs, sample, restored}
use Rattle.filter_cdf53i.specs.Bands.{low, high, back, detail_word, approx_word, sample_word}

module _ (k : ℕ) where
  -- word i of a table of numbers is the word of number i
  pub word-encode : (n : ℕ) (g : ℕ → ℤ) (i : ℕ) → i < n → word_at k (encode k (tabulate n g)) i ≡ residue (256 ^ k) (g i)
  word-encode n g i h =
      let f : ℕ → ℕ = λ j. residue (256 ^ k) (g j) in
      rw (encode-tabulate k n g) (word-table k n f i h (residue-lt (256 ^ k) (g i) (top_pos k)))

  pub low_word : (x : List ℕ) (i : ℕ) → i < approx_length (length x / k) → word_at k (low k x) i ≡ approx_word k x i
  unfolding low approxs approx_word
  low_word x i h = word-encode (even_count (decode k x)) (approx (wrap k) (decode k x) (details (wrap k) (decode k x))) i (rw (length-decode k x) h)

  pub high_word : (x : List ℕ) (i : ℕ) → i < details_length (length x / k) → word_at k (high k x) i ≡ detail_word k x i
  unfolding high details detail_word
  high_word x i h = word-encode (odd_count (decode k x)) (detail (wrap k) (decode k x)) i (rw (length-decode k x) h)

  pub back-word : (a d : List ℕ) (j : ℕ) → j < length a / k + length d / k → word_at k (back k a d) j ≡ sample_word k a d j
  unfolding back restored sample_word
  back-word a d j h =
      word-encode (length (decode k a) + length (decode k d)) (sample (wrap k) (decode k a) (decode k d)) j (rw (length-decode k a, length-decode k d) h)
