-- Notes and their spans: at which approximation a sample shows, from document 01, and what is said of a coefficient's span, from document 02, C-13.
-- Samples and coefficients are plain numbers here; the code keeps them apart by their types.
use Rattle.std.specs.Prelude.{List, [], ◌∷◌, ◌++◌, ℕ, ◌/◌, ◌^◌, ◌≤◌, ◌<◌, ltb, eqb}
use Rattle.base_answers.specs.declared.err.Refusal.TheVariants.{TooLong, NoSuchPlace}
use Rattle.base_answers.specs.Answers.{Outcome, told}
use Rattle.base_answers.specs.Checks.{Check, first_refusal, outside}
use Rattle.base_lengths.specs.declared.Wavelet.TheVariants.{Cdf53}
use Rattle.base_lengths.specs.Lengths.{most_samples}
use Rattle.base_lengths.specs.Levels.{depth_of}
use Rattle.view_spans.specs.declared.Band.{Band}
use Rattle.view_spans.specs.Spans.{span_of, band_count}

-- "sample s shows at approximation floor(s / 2^l)"
abbrev pub column_of : ℕ → ℕ → ℕ
column_of l s = s / 2 ^ l

-- "level l (1 to 5/3 depth)", "6 (n), 13 (level, depth)"
abbrev pub level_checks : ℕ → ℕ → List Check
level_checks n l =
    (ltb most_samples n, TooLong)
    ∷ (eqb l 0, NoSuchPlace l (depth_of Cdf53 n))
    ∷ (ltb (depth_of Cdf53 n) l, NoSuchPlace l (depth_of Cdf53 n))
    ∷ []

-- "13 (place, how many places)"
abbrev pub place_checks : ℕ → ℕ → List Check
place_checks place limit = outside place limit ∷ []

-- "refusals: 6 (n), 13 (level, depth), 13 (place, how many places)"
abbrev pub note_checks : ℕ → ℕ → ℕ → ℕ → List Check
note_checks n l place limit = level_checks n l ++ place_checks place limit

-- "a depth or column is the first"; sample s is one of n
unfoldable pub say_column : ℕ → ℕ → ℕ → Outcome
say_column n l s = first_refusal (note_checks n l s n) (told (column_of l s) 0)

-- "a span is both"; coefficient p is one of its band's, "13 as before, now for details too"
unfoldable pub say_span : Band → ℕ → ℕ → ℕ → Outcome
say_span b n l p = first_refusal (note_checks n l p (band_count b l n)) (told (span_of b n l p).0 (span_of b n l p).1)

-- what the checks of a level leave: a level, not too many samples, and more of them than show at one approximation
pub record Drawn (n l : ℕ) : Type 0 where
  pub some : 1 ≤ l
  pub few : n ≤ most_samples
  pub wide : 2 ^ l < n
