-- `detail_of` meets its contract: one law of the step on words.
use Rattle.filter_cdf53i.proofs.StepLaws.{detail-step}
use Rattle.filter_cdf53i.proofs.steps.detail_of.Goals as goal

pub returns : goal.returns
returns g c = let fits = g.met.S.Sample.fits in detail-step g.met.S.Sample.width _ (fits _) (fits _) (fits _) c.mean.ensures c.wrapping_sub.ensures c.half.ensures c.wrapping_add.ensures
