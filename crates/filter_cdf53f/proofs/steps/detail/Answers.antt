-- `detail` meets its contract: a half with its sign changed.
use Rattle.filter_cdf53f.proofs.Factors.{minus-half}
use Rattle.filter_cdf53f.proofs.steps.detail.Goals as goal

pub returns : goal.returns
returns g c = cc (c.lift.ensures, g.met.F.Real.negations _ _ c.neg.ensures, c.half.ensures, minus-half g.F.Real.format)
