-- `scale_lanes` meets its contract. The invariant: the first 2 i floats are new. An odd number of floats ends in one of an even place.
use Rattle.filter_floats.proofs.Lanes.{LanesTo}
use Rattle.filter_floats.proofs.steps.scale_lanes.Given as goal

abbrev pub invariant-loop-i : goal.invariant-loop-i
invariant-loop-i g l = LanesTo g.F.Real.format (g.F.Real.float l.k) (g.F.Real.float l.l) l.initial.x l.i l.x
