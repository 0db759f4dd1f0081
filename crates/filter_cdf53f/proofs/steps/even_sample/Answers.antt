-- `even_sample` meets its contract: a quarter with its sign changed.
use Rattle.filter_cdf53f.proofs.Factors.{minus-quarter}
use Rattle.filter_cdf53f.proofs.steps.even_sample.Goals as goal

pub returns : goal.returns
returns g c = cc (c.lift.ensures, g.met.F.Real.negations _ _ c.neg.ensures, c.quarter.ensures, minus-quarter g.F.Real.format)
