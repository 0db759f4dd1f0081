-- `dwt97_forward_update_odd` meets its contract. The invariant: the first i details are new.
use Rattle.filter_floats.proofs.BandTurns.{OddsTo}
use Rattle.filter_floats.proofs.steps.dwt97_forward_update_odd.Given as goal

abbrev pub invariant-loop-i : goal.invariant-loop-i
invariant-loop-i g l = OddsTo g.F.Real.format (g.F.Real.float l.c) l.a l.initial.d l.i l.d
