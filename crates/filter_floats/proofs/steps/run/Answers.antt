-- `run` meets its contract. The invariant: the bands are what the steps so far leave.
use Rattle.filter_floats.proofs.Runs.{ran_to-bands, ran_to-more}
use Rattle.filter_floats.proofs.steps.run.Goals as goal

pub apply-requires : goal.apply-requires
apply-requires g c = ran_to-bands c.loop-step.invariant

pub loop-step-preserved : goal.loop-step-preserved
loop-step-preserved g c = ran_to-more c.loop-step.invariant c.step-item.is c.loop-step-test.true c.apply.ensures
