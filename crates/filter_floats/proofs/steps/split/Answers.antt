-- `split` meets its contract. The invariant: the first i evens and the first i odds are stored. An odd number of samples ends in an even one.
use native.Mathlib.Omega.{arith}
use Rattle.filter_floats.proofs.Splits.{halved_none, halved-more, halved-done, halved-done-odd}
use Rattle.filter_floats.proofs.steps.split.Goals as goal

pub loop-i-init : goal.loop-i-init
loop-i-init g c = search halved_none

pub loop-i-preserved : goal.loop-i-preserved
loop-i-preserved g c = halved-more c.loop-i.invariant (omega arith) c.copy.ensures c.copy-in-loop-i.ensures

pub returns-then-n-eq1 : goal.returns-then-n-eq1
returns-then-n-eq1 g c = let e = halved-done-odd c.loop-i.invariant (omega arith) (omega arith) (omega arith) c.copy-then-n-eq1.ensures in record { a_after = e.0; d_after = e.1 }

pub returns-else-n-eq1 : goal.returns-else-n-eq1
returns-else-n-eq1 g c = let e = halved-done c.loop-i.invariant (omega arith) (omega arith) in record { a_after = e.0; d_after = e.1 }
