-- `split` meets its contract. The invariant: the first i evens and the first i odds are stored. An odd number of samples ends in an even one.
use Rattle.filter_floats.proofs.Splits.{Halved}
use Rattle.filter_floats.proofs.steps.split.Given as goal

abbrev pub invariant-loop-i : goal.invariant-loop-i
invariant-loop-i g l = Halved g.F.Real.format l.x l.i l.a l.d
