-- `dwt97_forward_update_odd` meets its contract. The invariant: the first i details are new.
use native.Mathlib.Omega.{arith}
use Rattle.filter_floats.proofs.BandTurns.{odds-none, odds-left, odds-right, odds-here, odds-next, odds-last-left, odds-last-right, odds-last, odds-all}
use Rattle.filter_floats.proofs.steps.dwt97_forward_update_odd.Goals as goal

pub loop-i-init : goal.loop-i-init
loop-i-init g c = search odds-none

pub get_plain-left-requires-clause-plain : goal.get_plain-left-requires-clause-plain
get_plain-left-requires-clause-plain g c = odds-left c.loop-i.invariant (omega arith)

pub get_plain-right-requires-clause-plain : goal.get_plain-right-requires-clause-plain
get_plain-right-requires-clause-plain g c = odds-right c.loop-i.invariant (omega arith)

pub lift_at-requires-clause-plain : goal.lift_at-requires-clause-plain
lift_at-requires-clause-plain g c = odds-here c.loop-i.invariant (omega arith)

pub loop-i-preserved : goal.loop-i-preserved
loop-i-preserved g c = odds-next c.loop-i.invariant (omega arith) c.get_plain-left.ensures c.get_plain-right.ensures c.lift_at.ensures

pub get_plain-left-requires-2-clause-plain : goal.get_plain-left-requires-2-clause-plain
get_plain-left-requires-2-clause-plain g c = odds-last-left c.loop-i.invariant (omega arith)

pub get_plain-right-requires-2-clause-plain : goal.get_plain-right-requires-2-clause-plain
get_plain-right-requires-2-clause-plain g c = odds-last-right c.loop-i.invariant (omega arith)

pub lift_at-requires-2-clause-plain : goal.lift_at-requires-2-clause-plain
lift_at-requires-2-clause-plain g c = odds-last c.loop-i.invariant (omega arith)

pub returns : goal.returns
returns g c = odds-all c.loop-i.invariant (omega arith) (omega arith) (omega arith) c.get_plain-left-2.ensures c.get_plain-right-2.ensures c.lift_at-2.ensures
