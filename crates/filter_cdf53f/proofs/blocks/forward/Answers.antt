-- `forward` meets its contract: block by block or by the schedule.
use mathlib.Core.Path.{refl}
use Rattle.filter_cdf53f.proofs.Ahead.{low-53, high-53}
use Rattle.filter_cdf53f.proofs.blocks.forward.Goals as goal

pub returns-then-small_from : goal.returns-then-small_from
returns-then-small_from g c = (low-53 _ _ c.split_all.ensures.approx, high-53 _ _ (c.split_all.ensures.details refl))
