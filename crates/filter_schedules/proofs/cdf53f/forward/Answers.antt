-- `forward` meets its contract: evens and odds, and then the schedule.
use Rattle.base_lengths.specs.declared.Wavelet.TheVariants.{Cdf53}
use Rattle.filter_floats.proofs.Levels.{split-bands, run-level}
use Rattle.filter_schedules.proofs.cdf53f.forward.Goals as goal

pub run-requires : goal.run-requires
run-requires g c = search split-bands

pub returns : goal.returns
returns g c = run-level _ (c.split.ensures.a_after, c.split.ensures.d_after) Cdf53 c.schedule.ensures c.run.ensures
