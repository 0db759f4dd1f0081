-- `run_back` meets its contract. The invariant: x is what the steps so far leave.
use Rattle.filter_floats.proofs.RunsOn.{ran_on_to-none, ran_on_to-lanes, ran_on_to-more}
use Rattle.filter_floats.proofs.steps.run_back.Goals as goal

pub loop-step-init : goal.loop-step-init
loop-step-init g c = ran_on_to-none c.requires

pub apply_back-requires : goal.apply_back-requires
apply_back-requires g c = ran_on_to-lanes c.loop-step.invariant

pub loop-step-preserved : goal.loop-step-preserved
loop-step-preserved g c = ran_on_to-more c.loop-step.invariant c.step-item.is c.loop-step-test.true c.apply_back.ensures
