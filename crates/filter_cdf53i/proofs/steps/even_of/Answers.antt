-- `even_of` meets its contract: one law of the step on words.
use Rattle.filter_cdf53i.proofs.StepLaws.{even_step}
use Rattle.filter_cdf53i.proofs.steps.even_of.Goals as goal

pub returns : goal.returns
returns g c = let fits = g.met.S.Sample.fits in even_step g.met.S.Sample.width _ (fits _) (fits _) (fits _) c.mean4.ensures c.wrapping_sub.ensures c.quarter.ensures c.wrapping_add.ensures
