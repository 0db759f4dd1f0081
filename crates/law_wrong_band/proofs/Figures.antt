-- The figures hold. Computed.
use mathlib.Core.Path.{refl}
use Rattle.base_lengths.specs.Levels.{after_levels, depth_within, depth_from}
use Rattle.base_lengths.specs.Calls.{say_forward, say_inverse}
use Rattle.base_samples.specs.Le.{le_at}
use Rattle.base_samples.specs.Words.{tabulate, word_at, words_of}
use Rattle.levels_filter.specs.Calls.{say_dwt}
use Rattle.levels_filter.specs.Backward.{total, band_checks, say_back}
use Rattle.law_wrong_band.specs.Figures.{Figures}

pub figures : Figures
unfolding say_forward say_inverse say_dwt say_back total band_checks after_levels depth_within depth_from le_at tabulate word_at words_of
figures =
    record {
      inverse-53 = refl;
      inverse-97 = refl;
      none-97 = refl;
      forward = refl;
      both = refl;
      both-back = refl;
      sum_first = refl;
      sum-first-too = refl;
      last = refl;
      last_fits = refl;
      deepest = refl;
      deepest-97 = refl;
      above = refl;
    }
