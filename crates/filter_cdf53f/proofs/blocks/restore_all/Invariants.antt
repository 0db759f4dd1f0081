-- `restore_all` meets its contract, block by block: the first 2 i samples are restored, and e is the even one that comes next.
use Prim.Native.Nat.{◌-◌, ◌/◌, ◌≤◌}
use lib.ListN.{length}
use Rattle.base_samples.specs.Floats.{width}
use Rattle.filter_cdf53f.specs.Back.{Restoring}
use Rattle.filter_cdf53f.proofs.blocks.restore_all.Given as goal

abbrev pub invariant-loop-i : goal.invariant-loop-i
invariant-loop-i g l = (l.i ≤ l.last) × Restoring g.F.Real.format (length l.initial.x / width g.F.Real.format) l.a l.d l.x l.i (g.F.Real.float l.e)

abbrev pub decreases-loop-i : goal.decreases-loop-i
decreases-loop-i g l = l.last - l.i
