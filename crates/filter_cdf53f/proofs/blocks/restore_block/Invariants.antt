-- `restore_block` meets its contract: the first 2 p samples are restored, and e is the even one that comes next.
use Prim.Native.Nat.{◌/◌}
use lib.ListN.{length}
use Rattle.base_samples.specs.Floats.{width}
use Rattle.filter_cdf53f.specs.Back.{Restoring}
use Rattle.filter_cdf53f.proofs.blocks.restore_block.Given as goal

abbrev pub invariant-loop-p : goal.invariant-loop-p
invariant-loop-p g l = Restoring g.F.Real.format (length l.initial.x / width g.F.Real.format) l.a l.d l.x l.p (g.F.Real.float l.e)
