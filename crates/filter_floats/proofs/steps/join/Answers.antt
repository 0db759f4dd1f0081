-- `join` meets its contract. The invariant: the first i approximations and the first i details are stored. An odd number of samples ends in an
-- approximation.
use native.Mathlib.Omega.{arith}
use Rattle.filter_floats.proofs.Splits.{paired_none, paired-more, paired-done, paired-done-odd}
use Rattle.filter_floats.proofs.steps.join.Goals as goal

pub loop-i-init : goal.loop-i-init
loop-i-init g c = search paired_none

pub loop-i-preserved : goal.loop-i-preserved
loop-i-preserved g c = paired-more c.loop-i.invariant (omega arith) c.copy.ensures c.copy-in-loop-i.ensures

pub returns-then-n-eq1 : goal.returns-then-n-eq1
returns-then-n-eq1 g c = paired-done-odd c.loop-i.invariant (omega arith) (omega arith) (omega arith) c.copy-then-n-eq1.ensures

pub returns-else-n-eq1 : goal.returns-else-n-eq1
returns-else-n-eq1 g c = paired-done c.loop-i.invariant (omega arith) (omega arith)
