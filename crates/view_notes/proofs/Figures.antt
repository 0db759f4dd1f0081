-- Figures of notes and spans, computed: document 01's column, and document 02's spans of C-13.
use mathlib.Core.Path.{◌≡◌, refl}
use Rattle.std.specs.Prelude.{Err}
use Rattle.base_answers.specs.Answers.{told}
use Rattle.base_answers.specs.declared.err.Refusal.TheVariants.{TooLong, NoSuchPlace}
use Rattle.base_lengths.specs.Levels.{after_levels, depth_within, depth_from}
use Rattle.view_spans.specs.declared.Band.TheVariants.{Approx, Details}
use Rattle.view_spans.specs.Spans.{span_of}
use Rattle.view_notes.specs.Notes.{say_column, say_span}

pub record Notes : Type 0 where
  pub shows : say_column 20 1 7 ≡ told 3 0
  -- "level 1, p 3, n 20: approximation 4 to 8, detail 6 to 8"
  pub approx : say_span Approx 20 1 3 ≡ told 4 8
  pub detail : say_span Details 20 1 3 ≡ told 6 8
  pub clipped : say_span Approx 5 1 2 ≡ told 2 4
  pub clipped-detail : say_span Details 4 1 1 ≡ told 2 3
  pub deepest : say_span Approx 5 2 1 ≡ told 0 4
  pub deepest-detail : say_span Details 5 2 0 ≡ told 0 4
  pub second-detail : say_span Details 20 2 1 ≡ told 2 10
  pub too-deep : say_span Approx 5 3 0 ≡ Err (NoSuchPlace 3 2)
  pub too-deep-detail : say_span Details 5 3 0 ≡ Err (NoSuchPlace 3 2)
  pub no-level : say_column 5 0 0 ≡ Err (NoSuchPlace 0 2)
  pub no-level-detail : say_span Details 5 0 0 ≡ Err (NoSuchPlace 0 2)
  pub no-sample : say_column 5 1 5 ≡ Err (NoSuchPlace 5 5)
  pub no-column : say_span Approx 5 1 3 ≡ Err (NoSuchPlace 3 3)
  pub no-detail : say_span Details 5 1 2 ≡ Err (NoSuchPlace 2 2)
  pub too_long : say_span Approx 16777217 1 0 ≡ Err TooLong
  pub too-long-detail : say_span Details 16777217 1 0 ≡ Err TooLong

pub notes : Notes
unfolding span_of say_column say_span after_levels depth_within depth_from
notes =
    record {
      shows = refl;
      approx = refl;
      detail = refl;
      clipped = refl;
      clipped-detail = refl;
      deepest = refl;
      deepest-detail = refl;
      second-detail = refl;
      too-deep = refl;
      too-deep-detail = refl;
      no-level = refl;
      no-level-detail = refl;
      no-sample = refl;
      no-column = refl;
      no-detail = refl;
      too_long = refl;
      too-long-detail = refl;
    }
