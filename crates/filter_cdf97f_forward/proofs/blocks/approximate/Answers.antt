-- `approximate` meets its contract: the blocks without details.
use Rattle.filter_floats.specs.Kinds.{set_of}
use Rattle.filter_cdf97f_forward.proofs.Ahead.{low-97}
use Rattle.filter_cdf97f_forward.proofs.blocks.approximate.Goals as goal

pub returns : goal.returns
returns g c = low-97 g.F.Real.format c.args.input.now {t = set_of g.F.Real.float c.args.t} c.requires.t_value c.split_all.ensures.approx
