-- `approx_of` meets its contract: one law of the step on words.
use Rattle.filter_cdf53i.proofs.StepLaws.{approx-step}
use Rattle.filter_cdf53i.proofs.steps.approx_of.Goals as goal

pub returns : goal.returns
returns g c = let fits = g.met.S.Sample.fits in approx-step g.met.S.Sample.width _ (fits _) (fits _) (fits _) c.mean4.ensures c.quarter.ensures c.wrapping_sub.ensures c.wrapping_add.ensures
