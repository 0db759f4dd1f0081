-- `dwt97_forward_update_even` meets its contract. The invariant: the first i approximations are new, and left is the detail before the next.
use native.Mathlib.Omega.{arith}
use Rattle.filter_floats.proofs.BandTurns.{evens-first, evens-none, evens-right, evens-here, evens-next, evens-last, evens-all, evens-all-last}
use Rattle.filter_floats.proofs.steps.dwt97_forward_update_even.Goals as goal

pub get_plain-left-requires-clause-plain : goal.get_plain-left-requires-clause-plain
get_plain-left-requires-clause-plain g c = evens-first c.requires

pub loop-i-init : goal.loop-i-init
loop-i-init g c = search evens-none

pub get_plain-right-requires-clause-plain : goal.get_plain-right-requires-clause-plain
get_plain-right-requires-clause-plain g c = evens-right c.loop-i.invariant (omega arith)

pub lift_at-requires-clause-plain : goal.lift_at-requires-clause-plain
lift_at-requires-clause-plain g c = evens-here c.loop-i.invariant (omega arith)

pub loop-i-preserved : goal.loop-i-preserved
loop-i-preserved g c = evens-next c.loop-i.invariant (omega arith) c.get_plain-right.ensures c.lift_at.ensures

pub lift_at-requires-then-nd-na-clause-plain : goal.lift_at-requires-then-nd-na-clause-plain
lift_at-requires-then-nd-na-clause-plain g c = evens-last c.loop-i.invariant (omega arith) (omega arith)

pub returns-then-nd-na : goal.returns-then-nd-na
returns-then-nd-na g c = evens-all-last c.loop-i.invariant (omega arith) (omega arith) (omega arith) c.lift_at-then-nd-na.ensures

pub returns-else-nd-na : goal.returns-else-nd-na
returns-else-nd-na g c = evens-all c.loop-i.invariant (omega arith) (omega arith)
