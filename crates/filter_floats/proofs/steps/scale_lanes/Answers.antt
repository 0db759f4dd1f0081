-- `scale_lanes` meets its contract. The invariant: the first 2 i floats are new. An odd number of floats ends in one of an even place.
use native.Mathlib.Omega.{arith}
use Rattle.filter_floats.proofs.Lanes.{lanes-none, lanes-even, lanes-odd, lanes_next, lanes-last, lanes_all, lanes-all-odd}
use Rattle.filter_floats.proofs.steps.scale_lanes.Goals as goal

pub loop-i-init : goal.loop-i-init
loop-i-init g c = search lanes-none

pub scale_at-requires-clause-plain : goal.scale_at-requires-clause-plain
scale_at-requires-clause-plain g c = lanes-even c.loop-i.invariant (omega arith)

pub scale_at-requires-in-loop-i-clause-plain : goal.scale_at-requires-in-loop-i-clause-plain
scale_at-requires-in-loop-i-clause-plain g c = lanes-odd c.loop-i.invariant (omega arith) c.scale_at.ensures

pub loop-i-preserved : goal.loop-i-preserved
loop-i-preserved g c = lanes_next c.loop-i.invariant (omega arith) c.scale_at.ensures c.scale_at-in-loop-i.ensures

pub scale_at-requires-then-n-eq1-clause-plain : goal.scale_at-requires-then-n-eq1-clause-plain
scale_at-requires-then-n-eq1-clause-plain g c = lanes-last c.loop-i.invariant (omega arith) (omega arith)

pub returns-then-n-eq1 : goal.returns-then-n-eq1
returns-then-n-eq1 g c = lanes-all-odd c.loop-i.invariant (omega arith) (omega arith) (omega arith) c.scale_at-then-n-eq1.ensures

pub returns-else-n-eq1 : goal.returns-else-n-eq1
returns-else-n-eq1 g c = lanes_all c.loop-i.invariant (omega arith) (omega arith)
