-- `schedule_back` meets its contract.
use Rattle.filter_schedules.proofs.Signs.{back53-made}
use Rattle.filter_schedules.proofs.cdf53f.schedule_back.Goals as goal

pub returns : goal.returns
returns g c = back53-made _ c.half.ensures c.quarter.ensures (g.met.F.Real.negations _ _ c.neg.ensures)
