-- The table holds: each figure is computed from the definitions.
use Rattle.base_lengths.specs.Levels.{after_levels}
use mathlib.Core.Path.{refl}
use Rattle.base_samples.specs.Le.{le_at, le_bytes}
use Rattle.base_samples.specs.Words.{tabulate, word_at, words_of, bytes_of}
use Rattle.base_samples.specs.Integers.{val, residue, wrap, decode, encode}
use Rattle.filter_cdf53i.specs.Lift.{detail, details, approx, approxs, even, odd, sample, restored}
use Rattle.filter_cdf53i.specs.Bands.{low, high, back}
use Rattle.filter_cdf53i.specs.T800 as t800
use Rattle.levels_filter.specs.Pyramids.{pyramid, samples_of}
use Rattle.law_figures.specs.Worked.{Worked}
use Rattle.law_figures.proofs.Files.{p6-to-p10, new-file, new-checks}

pub worked : Worked
unfolding le_at le_bytes tabulate word_at words_of bytes_of val residue wrap decode encode detail details approx approxs even odd sample restored low high back after_levels pyramid samples_of t800.pse t800.extended t800.high
worked =
    record {
      p1 = record { low = refl; high = refl; back = refl };
      p2 = record { low = refl; high = refl; back = refl };
      p3 = record { low = refl; high = refl; back = refl };
      p3-t800 = refl;
      p4 = record { low = refl; high = refl; back = refl };
      p5 = record { down = refl; back = refl };
      p5-level1 = refl;
      p6-to-p10 = p6-to-p10;
      new-file = new-file;
      new-checks = new-checks;
    }
