-- `halvings` meets its contract. The invariant: the levels counted and the depth of what is left are the depth of n. The measure is what is left.
use Prim.Native.Nat.{◌+◌, ◌≤◌}
use mathlib.Core.Path.{◌≡◌}
use Rattle.base_lengths.specs.Levels.{depth_from}
use Rattle.base_lengths.proofs.halvings.Given as goal

abbrev pub invariant-loop-left : goal.invariant-loop-left
invariant-loop-left l = (2 ≤ l.m) × (l.levels + depth_from l.m l.left ≡ depth_from l.m l.n) × (l.levels + l.left ≤ l.n)

abbrev pub decreases-loop-left : goal.decreases-loop-left
decreases-loop-left l = l.left
