-- The checks of `multi_idwt`, as a list in document 01's order, and what the call promises. Over the filter.
use Rattle.std.specs.Prelude.{not, List, [], ◌∷◌, ◌++◌, ◌≡◌, ℕ, ◌+◌, ◌*◌, ◌/◌, ◌≤◌, ltb, eqb, length}
use Rattle.base_answers.specs.declared.err.Answer.{Answer}
use Rattle.base_answers.specs.declared.err.Refusal.TheVariants.{ZeroedBaseSize, TooLong, BadCount}
use Rattle.base_answers.specs.Answers.{Outcome, told}
use Rattle.base_answers.specs.Checks.{Check, first_refusal, ragged, Call}
use Rattle.base_lengths.specs.declared.Wavelet.{Wavelet}
use Rattle.base_lengths.specs.Lengths.{most_samples, approx_length, details_length, smallest_of}
use Rattle.base_lengths.specs.Calls.{inverse_bands}
use Rattle.base_samples.specs.Words.{words_of}
use Rattle.levels_filter.specs.declared.filter.Filter.{Filter}
use Rattle.levels_filter.specs.Filters.{width_of, wavelet_of}
use Rattle.levels_filter.specs.Calls.{room_checks}
use Rattle.levels_filter.specs.Pyramids.{samples_of, lengths_of}

-- "more than 23 lengths"
abbrev pub most_levels : ℕ
most_levels = 23

-- how many details the lengths add up to
unfoldable pub total : List ℕ → ℕ
total [] = 0
total (m ∷ ms) = m + total ms

-- "6 (output, approximations or details slice, or more than 23 lengths), 5", by samples: a and d of the bands, c lengths, n of the output
abbrev pub size_checks : ℕ → ℕ → ℕ → ℕ → List Check
size_checks a d c n =
    (ltb most_samples n, TooLong)
    ∷ (ltb most_samples a, TooLong)
    ∷ (ltb most_samples d, TooLong)
    ∷ (ltb most_levels c, TooLong)
    ∷ (eqb c 0, ZeroedBaseSize)
    ∷ (eqb a 0, ZeroedBaseSize)
    ∷ []

-- "2 level by level from the deepest as in inverse", and 17 as there: what a level restores is the next one's approximations
unfoldable pub band_checks : Wavelet → ℕ → List ℕ → List Check
band_checks w a [] = []
band_checks w a (m ∷ ms) = inverse_bands w (a + m) a m ++ band_checks w (a + m) ms

-- the lengths ms against the d details
abbrev pub sum_check : ℕ → List ℕ → Check
sum_check d ms = (not (eqb (total ms) d), BadCount 0 (total ms))

-- all of them; ms are the lengths
abbrev pub back_checks : Filter → ℕ → ℕ → List ℕ → ℕ → ℕ → ℕ → List Check
back_checks f a d ms n u v = size_checks a d (length ms) n ++ (sum_check d ms ∷ (band_checks (wavelet_of f) a ms ++ room_checks (a + d) n u v))

-- the byte lengths that are to be whole: approximations, details and lengths, then output and work areas
abbrev pub whole_checks : ℕ → ℕ → ℕ → ℕ → ℕ → ℕ → ℕ → List Check
whole_checks k a d c n u v = ragged k a ∷ ragged k d ∷ ragged 4 c ∷ ragged k n ∷ ragged k u ∷ ragged k v ∷ []

-- what `multi_idwt` says, by byte lengths; ls is the slice of lengths, each a u32
unfoldable pub say_back : Filter → ℕ → ℕ → List ℕ → ℕ → ℕ → ℕ → Outcome
say_back f a d ls n u v =
    first_refusal
    (whole_checks (width_of f) a d (length ls) n u v ++ back_checks f (a / width_of f) (d / width_of f) (words_of 4 ls) (n / width_of f) (u / width_of f) (v / width_of f))
    (told 0 0)

-- the answer r, and the output and the work areas that `multi_idwt` leaves
abbrev pub MultiBack : Filter → List ℕ → List ℕ → List ℕ → List ℕ → List ℕ → List ℕ → Answer → List ℕ → List ℕ → List ℕ → Type 0
MultiBack f a d ls o u v = Call (say_back f (length a) (length d) ls (length o) (length u) (length v)) (length a + length d) (samples_of f a d (words_of 4 ls)) o u v

-- a approximations and details of the lengths ms are the bands of levels, from the deepest
unfoldable pub Fits : Wavelet → ℕ → List ℕ → Type 0
Fits w a [] = Unit {0}
Fits w a (m ∷ ms) = (smallest_of w ≤ a + m) × (a ≡ approx_length (a + m)) × (m ≡ details_length (a + m)) × Fits w (a + m) ms

-- what the checks leave for the levels: a approximations and details of the lengths ms, and byte lengths of the details, of two work areas and of the output
pub record Rising (f : Filter) (a : ℕ) (ms : List ℕ) (d u v o : ℕ) : Type 0 where
  pub fits : Fits (wavelet_of f) a ms
  pub short : a + total ms ≤ most_samples
  pub details : d ≡ width_of f * total ms
  pub first : width_of f * (a + total ms) ≤ u
  pub second : width_of f * (a + total ms) ≤ v
  pub output : o ≡ width_of f * (a + total ms)

-- a work area of k bytes a sample that has room for b bytes
pub record Area (k b : ℕ) (s : List ℕ) : Type 0 where
  pub samples : length s ≡ k * (length s / k)
  pub room : b ≤ length s

-- ls are the lengths of l levels of n samples, each a u32
pub record LengthsIn (l n : ℕ) (ls : List ℕ) : Type 0 where
  pub lengths : words_of 4 ls ≡ lengths_of l n
  pub size : length ls ≡ 4 * l
