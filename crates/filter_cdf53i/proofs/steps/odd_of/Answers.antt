-- `odd_of` meets its contract: one law of the step on words.
use Rattle.filter_cdf53i.proofs.StepLaws.{odd_step}
use Rattle.filter_cdf53i.proofs.steps.odd_of.Goals as goal

pub returns : goal.returns
returns g c = let fits = g.met.S.Sample.fits in odd_step g.met.S.Sample.width _ (fits _) (fits _) (fits _) c.mean.ensures c.half.ensures c.wrapping_sub.ensures c.wrapping_add.ensures
