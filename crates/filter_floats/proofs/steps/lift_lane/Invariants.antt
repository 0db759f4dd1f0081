-- `lift_lane` meets its contract. The invariant: the floats before place start + 2 i are new, or stay as they are, and left is the one before it.
use Prim.Native.Nat.{◌+◌, ◌*◌}
use Rattle.filter_floats.proofs.Lanes.{LaneTo}
use Rattle.filter_floats.proofs.steps.lift_lane.Given as goal

abbrev pub invariant-loop-i : goal.invariant-loop-i
invariant-loop-i g l = LaneTo g.F.Real.format (g.F.Real.float l.c) l.start l.initial.x (l.start + 2 * l.i) (g.F.Real.float l.left) l.x
