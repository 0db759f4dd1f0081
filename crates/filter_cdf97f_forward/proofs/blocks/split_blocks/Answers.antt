-- `split_blocks` meets its contract: the first i entries of the bands are stored, and s is what the blocks so far hand on.
use Rattle.std.proofs.Common.{refl, arith}
use Rattle.base_samples.proofs.Fronts.{front-none}
use Rattle.filter_cdf97f_forward.proofs.Ahead.{carried-at}
use Rattle.filter_cdf97f_forward.proofs.blocks.split_blocks.Goals as goal

pub loop-i-init : goal.loop-i-init
loop-i-init g c =
    let r = c.requires in
    (refl, omega arith, record { approx = front-none _ r.ahead.approx; details = λ b. front-none _ (r.ahead.details b) }, r.carried)

pub returns-2-clause-carried_2 : goal.returns-2-clause-carried_2
returns-2-clause-carried_2 g c = carried-at _ c.split_block-s.ensures.carried_2 (omega arith)
