-- `inverse` meets its contract: the two bands joined, and then the schedule of the inverse.
use Rattle.base_lengths.specs.declared.Wavelet.TheVariants.{Cdf53}
use Rattle.filter_floats.proofs.Levels.{join-lanes, run-back}
use Rattle.filter_schedules.proofs.cdf53f.inverse.Goals as goal

pub run_back-requires : goal.run_back-requires
run_back-requires g c = search join-lanes

pub returns : goal.returns
returns g c = run-back c.requires c.join.ensures Cdf53 c.schedule_back.ensures c.run_back.ensures
