-- `approximate` meets its contract: the loop without details.
use Rattle.filter_cdf53f.proofs.Ahead.{low-53}
use Rattle.filter_cdf53f.proofs.blocks.approximate.Goals as goal

pub returns : goal.returns
returns g c = low-53 _ _ c.split_all.ensures.approx
