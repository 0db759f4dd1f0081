-- `dwt97_forward_update_even` meets its contract. The invariant: the first i approximations are new, and left is the detail before the next.
use Rattle.filter_floats.proofs.BandTurns.{EvensTo}
use Rattle.filter_floats.proofs.steps.dwt97_forward_update_even.Given as goal

abbrev pub invariant-loop-i : goal.invariant-loop-i
invariant-loop-i g l = EvensTo g.F.Real.format (g.F.Real.float l.c) l.initial.a l.d l.i (g.F.Real.float l.left) l.a
