-- `inverse` meets its contract: the two bands joined, and then the schedule of the inverse.
use mathlib.Core.Path.{ap, ◌∙◌}
use Rattle.base_lengths.specs.declared.Wavelet.TheVariants.{Cdf97}
use Rattle.filter_floats.specs.Filters.{back97}
use Rattle.filter_floats.proofs.Levels.{join-lanes, run-back}
use Rattle.filter_schedules.proofs.cdf97f.inverse.Goals as goal

pub run_back-requires : goal.run_back-requires
run_back-requires g c = search join-lanes

pub returns : goal.returns
returns g c = run-back c.requires.lent c.join.ensures Cdf97 (c.schedule_back.ensures ∙ ap back97 c.requires.t_value) c.run_back.ensures
