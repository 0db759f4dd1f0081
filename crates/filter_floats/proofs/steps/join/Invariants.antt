-- `join` meets its contract. The invariant: the first i approximations and the first i details are stored. An odd number of samples ends in an
-- approximation.
use Rattle.filter_floats.proofs.Splits.{Paired}
use Rattle.filter_floats.proofs.steps.join.Given as goal

abbrev pub invariant-loop-i : goal.invariant-loop-i
invariant-loop-i g l = Paired g.F.Real.format l.a l.d l.initial.x l.i l.x
