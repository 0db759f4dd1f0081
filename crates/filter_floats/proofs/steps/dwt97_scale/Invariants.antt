-- `dwt97_scale` meets its contract. The invariant: the first i floats are new.
use Rattle.filter_floats.proofs.BandTurns.{ScaledTo}
use Rattle.filter_floats.proofs.steps.dwt97_scale.Given as goal

abbrev pub invariant-loop-i : goal.invariant-loop-i
invariant-loop-i g l = ScaledTo g.F.Real.format (g.F.Real.float l.k) l.initial.s l.i l.s
