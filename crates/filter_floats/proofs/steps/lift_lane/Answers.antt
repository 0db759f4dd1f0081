-- `lift_lane` meets its contract. The invariant: the floats before place start + 2 i are new, or stay as they are, and left is the one before it.
use native.Mathlib.Omega.{arith}
use Rattle.filter_floats.proofs.Lanes.{lane_first, lane-none, lane-right, lane_here, lane-next, lane-last, lane-all, lane-all-last}
use Rattle.filter_floats.proofs.steps.lift_lane.Goals as goal

pub get_plain-left-requires-clause-plain : goal.get_plain-left-requires-clause-plain
get_plain-left-requires-clause-plain g c = lane_first (c.requires.lanes, c.requires.start_bound)

pub loop-i-init : goal.loop-i-init
loop-i-init g c = lane-none (omega arith) (c.requires.lanes, c.requires.start_bound) c.get_plain-left.ensures

pub get_plain-right-requires-clause-plain : goal.get_plain-right-requires-clause-plain
get_plain-right-requires-clause-plain g c = lane-right c.loop-i.invariant (omega arith)

pub lift_at-requires-clause-plain : goal.lift_at-requires-clause-plain
lift_at-requires-clause-plain g c = lane_here c.loop-i.invariant (omega arith)

pub loop-i-preserved : goal.loop-i-preserved
loop-i-preserved g c = lane-next c.loop-i.invariant (omega arith) (omega arith) c.get_plain-right.ensures c.lift_at.ensures

pub lift_at-requires-then-span-eq1-clause-plain : goal.lift_at-requires-then-span-eq1-clause-plain
lift_at-requires-then-span-eq1-clause-plain g c = lane-last c.loop-i.invariant (omega arith) (omega arith)

pub returns-then-span-eq1 : goal.returns-then-span-eq1
returns-then-span-eq1 g c = lane-all-last c.loop-i.invariant (omega arith) (omega arith) (omega arith) c.lift_at-then-span-eq1.ensures

pub returns-else-span-eq1 : goal.returns-else-span-eq1
returns-else-span-eq1 g c = lane-all c.loop-i.invariant (omega arith)
