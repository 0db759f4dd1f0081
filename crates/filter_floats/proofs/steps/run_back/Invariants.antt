-- `run_back` meets its contract. The invariant: x is what the steps so far leave.
use Rattle.filter_floats.specs.Kinds.{kind_of}
use Rattle.filter_floats.proofs.RunsOn.{RanOnTo}
use Rattle.filter_floats.proofs.steps.run_back.Given as goal

abbrev pub invariant-loop-step : goal.invariant-loop-step
invariant-loop-step g l = RanOnTo g.F.Real.format (kind_of g.F.Real.float) l.schedule l.initial.x l.step-index l.x
