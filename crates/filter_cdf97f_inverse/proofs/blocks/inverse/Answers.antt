-- `inverse` meets its contract: both ways make the same samples.
use Rattle.filter_floats.specs.Kinds.{set_of}
use Rattle.filter_cdf97f_inverse.proofs.Back.{none-restored}
use Rattle.filter_cdf97f_inverse.proofs.blocks.inverse.Goals as goal

pub restore_all-requires-clause-restoring : goal.restore_all-requires-clause-restoring
restore_all-requires-clause-restoring g c = none-restored c.requires.lent (set_of g.F.Real.float c.args.t)
