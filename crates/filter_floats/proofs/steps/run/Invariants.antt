-- `run` meets its contract. The invariant: the bands are what the steps so far leave.
use Rattle.filter_floats.specs.Kinds.{kind_of}
use Rattle.filter_floats.proofs.Runs.{RanTo}
use Rattle.filter_floats.proofs.steps.run.Given as goal

abbrev pub invariant-loop-step : goal.invariant-loop-step
invariant-loop-step g l = RanTo g.F.Real.format (kind_of g.F.Real.float) l.schedule l.initial.a l.initial.d l.step-index l.a l.d
