-- `schedule` meets its contract.
use Rattle.filter_schedules.proofs.Signs.{steps53-made}
use Rattle.filter_schedules.proofs.cdf53f.schedule.Goals as goal

pub returns : goal.returns
returns g c = steps53-made _ c.half.ensures c.quarter.ensures (g.met.F.Real.negations _ _ c.neg.ensures)
