-- `forward` meets its contract: evens and odds, and then the schedule.
use mathlib.Core.Path.{ap, ◌∙◌}
use Rattle.base_lengths.specs.declared.Wavelet.TheVariants.{Cdf97}
use Rattle.filter_floats.specs.Filters.{steps97}
use Rattle.filter_floats.proofs.Levels.{split-bands, run-level}
use Rattle.filter_schedules.proofs.cdf97f.forward.Goals as goal

pub run-requires : goal.run-requires
run-requires g c = search split-bands

pub returns : goal.returns
returns g c = run-level _ (c.split.ensures.a_after, c.split.ensures.d_after) Cdf97 (c.schedule.ensures ∙ ap steps97 c.requires.t_value) c.run.ensures
