-- `put_block` meets its contract: before turn j the first i + j entries are stored.
use Prim.Native.Nat.{◌+◌}
use Rattle.filter_floats.specs.Kinds.{set_of}
use Rattle.filter_cdf97f_forward.specs.Ahead.{Splitting}
use Rattle.filter_cdf97f_forward.proofs.blocks.put_block.Given as goal

abbrev pub invariant-loop-j : goal.invariant-loop-j
invariant-loop-j g l = Splitting l.both g.F.Real.format (set_of g.F.Real.float l.t) l.x l.a l.d (l.i + l.j)
