-- One level forward and back of any filter, from document 01, "Order of checks", and document 02, C-16: the checks of each call as a list, and what each call promises.
-- A filter is its wavelet w, k bytes a sample, and what it makes of bytes: two bands `low` and `high`, and `back`.
use Rattle.std.specs.Prelude.{not, List, [], ◌∷◌, ◌≡◌, ℕ, ◌+◌, ◌*◌, ◌/◌, ◌≤◌, ltb, eqb, length}
use Rattle.base_answers.specs.declared.err.Answer.{Answer}
use Rattle.base_answers.specs.declared.err.Refusal.TheVariants.{MinFilterSize, ApproxSizeNotMatches, OutputSizeIsNotValid, TooLong, DetailsSizeNotMatches}
use Rattle.base_answers.specs.Answers.{Outcome, told, answer_of}
use Rattle.base_answers.specs.Checks.{Check, first_refusal, ragged, left}
use Rattle.base_lengths.specs.declared.Wavelet.{Wavelet}
use Rattle.base_lengths.specs.Lengths.{most_samples, approx_length, details_length, smallest_of, expected_approx, expected_details}

-- "2 approximations (got, n)"; then, from document 02, 17 "in the places where 01 gives its second 2" with "(got, n) forward"; also of `dwt`, "as forward with the last level's input length"
abbrev pub forward_bands : ℕ → ℕ → ℕ → List Check
forward_bands n a d = (not (eqb a (approx_length n)), ApproxSizeNotMatches a n) ∷ (not (eqb d (details_length n)), DetailsSizeNotMatches d n) ∷ []

-- "Forward: 6 (n over 16,777,216), 1", then the bands, by samples
abbrev pub forward_checks : Wavelet → ℕ → ℕ → ℕ → List Check
forward_checks w n a d =
    (ltb most_samples n, TooLong)
    ∷ (ltb n (smallest_of w), MinFilterSize n (smallest_of w))
    ∷ forward_bands n a d

-- the same by byte lengths, after "this 9 comes before all else (of several, the first of inputs, outputs, ..)"
unfoldable pub say_forward : Wavelet → ℕ → ℕ → ℕ → ℕ → Outcome
say_forward w k x a d = first_refusal (ragged k x ∷ ragged k a ∷ ragged k d ∷ forward_checks w (x / k) (a / k) (d / k)) (told 0 0)

-- "2 approximations (expected, got)"; then 17 with "details' numbers", "(expected, got) in the inverse"; also of `multi_idwt`, "level by level from the deepest as in inverse"
abbrev pub inverse_bands : Wavelet → ℕ → ℕ → ℕ → List Check
inverse_bands w n a d =
    (not (eqb a (expected_approx n)), ApproxSizeNotMatches (expected_approx n) a)
    ∷ (not (eqb d (expected_details w n)), DetailsSizeNotMatches (expected_details w n) d)
    ∷ []

-- "Inverse: 6 (any slice), 3 (output against the sum)", then the bands
abbrev pub inverse_checks : Wavelet → ℕ → ℕ → ℕ → List Check
inverse_checks w a d n =
    (ltb most_samples a, TooLong)
    ∷ (ltb most_samples d, TooLong)
    ∷ (ltb most_samples n, TooLong)
    ∷ (not (eqb n (a + d)), OutputSizeIsNotValid n (a + d))
    ∷ inverse_bands w n a d

unfoldable pub say_inverse : Wavelet → ℕ → ℕ → ℕ → ℕ → Outcome
say_inverse w k a d o = first_refusal (ragged k a ∷ ragged k d ∷ ragged k o ∷ inverse_checks w (a / k) (d / k) (o / k)) (told 0 0)

-- what either call leaves for its steps: n samples in x bytes, and bands of a and d bytes
pub record Level (w : Wavelet) (k n x a d : ℕ) : Type 0 where
  pub long : smallest_of w ≤ n
  pub short : n ≤ most_samples
  pub samples : x ≡ k * n
  pub approx : a ≡ k * approx_length n
  pub details : d ≡ k * details_length n

-- the answer r and the bands a' and d' that a forward call leaves, for the samples x and the lent bands a and d
pub record Forward (w : Wavelet) (k : ℕ) (low high : List ℕ → List ℕ) (x a d : List ℕ) (r : Answer) (a' d' : List ℕ) : Type 0 where
  pub answer : r ≡ answer_of (say_forward w k (length x) (length a) (length d))
  pub approx : a' ≡ left (say_forward w k (length x) (length a) (length d)) (low x) a
  pub details : d' ≡ left (say_forward w k (length x) (length a) (length d)) (high x) d

-- the answer r and the output o' that an inverse call leaves, for the bands a and d and the lent output o
pub record Inverse (w : Wavelet) (k : ℕ) (back : List ℕ → List ℕ → List ℕ) (a d o : List ℕ) (r : Answer) (o' : List ℕ) : Type 0 where
  pub answer : r ≡ answer_of (say_inverse w k (length a) (length d) (length o))
  pub output : o' ≡ left (say_inverse w k (length a) (length d) (length o)) (back a d) o
