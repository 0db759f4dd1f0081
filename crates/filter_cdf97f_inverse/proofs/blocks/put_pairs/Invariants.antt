-- `put_pairs` meets its contract: before turn j the first 2 (i + j) samples are restored.
use Prim.Native.Nat.{◌+◌}
use Rattle.filter_floats.specs.Kinds.{set_of}
use Rattle.filter_cdf97f_inverse.specs.Back.{Restoring}
use Rattle.filter_cdf97f_inverse.proofs.blocks.put_pairs.Given as goal

abbrev pub invariant-loop-j : goal.invariant-loop-j
invariant-loop-j g l = Restoring g.F.Real.format (set_of g.F.Real.float l.t) l.a l.d l.x (l.i + l.j)
