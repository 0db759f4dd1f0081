-- C-18's figures, by computing; and the 6 of a file that is too long, by the law of all files.
use mathlib.Core.Path.{◌≡◌, refl}
use lib.ListN.{replicate}
use Rattle.base_lengths.specs.Levels.{after_levels, depth_within, depth_from}
use Rattle.base_samples.specs.Le.{le_at, le_bytes}
use Rattle.base_samples.specs.Words.{tabulate, word_at, words_of, bytes_of}
use Rattle.base_samples.specs.Integers.{val, residue, wrap, decode, encode}
use Rattle.filter_cdf53i.specs.Lift.{detail, details, approx, approxs}
use Rattle.filter_cdf53i.specs.Bands.{low, high}
use Rattle.levels_filter.specs.declared.filter.Filter.TheVariants.{Cdf53I16}
use Rattle.levels_filter.specs.Pyramids.{laid_out}
use Rattle.file_open.specs.Files.{file_of}
use Rattle.file_open.specs.Walks.{one_of, walk_of}
use Rattle.file_open.specs.Opens.{say_file}
use Rattle.file_why.specs.Reasons.{reason_of}
use Rattle.file_why.proofs.Cases.{reason-long}
use Rattle.law_figures.specs.Why.{fifty_two, Deeper, Why}

deeper-bytes : file_of Cdf53I16 3 7 1000 (replicate 18 0) ≡ fifty_two
unfolding file_of laid_out le_at le_bytes tabulate word_at words_of bytes_of val residue wrap decode encode detail details approx approxs low high
deeper-bytes = refl

deeper : Deeper
unfolding reason_of say_file le_at one_of walk_of after_levels depth_from depth_within
deeper = record { bytes = deeper-bytes; whole = refl; width = refl; first = refl; count = refl; section = refl; wrong = refl; more = refl }

pub why : Why
unfolding reason_of say_file le_at one_of walk_of after_levels depth_from depth_within
why =
    record {
      whole = refl;
      whole-new = refl;
      cut-none = refl;
      cut-3 = refl;
      cut-13 = refl;
      cut-10-new = refl;
      cut-14 = refl;
      cut-18 = refl;
      cut-20 = refl;
      cut-24 = refl;
      cut-27 = refl;
      cut-30 = refl;
      more = refl;
      count-0 = refl;
      count-1 = refl;
      count-2 = refl;
      count-both = refl;
      mended = refl;
      width = refl;
      no-width = refl;
      point = refl;
      few = refl;
      many = refl;
      deep = refl;
      flat = refl;
      rate = refl;
      long = λ s w p h. reason-long s w p h;
      first_width = refl;
      first-rate = refl;
      first_count = refl;
      deeper = deeper;
    }
