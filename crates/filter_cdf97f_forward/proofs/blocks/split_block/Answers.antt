-- `split_block` meets its contract: pieces of the lists that the steps make, and the entries of them.
use Rattle.std.proofs.Common.{refl, arith}
use Rattle.filter_cdf97f_forward.specs.Ahead.{Hands}
use Rattle.filter_cdf97f_forward.proofs.Ahead.{handed, handed-at}
use Rattle.filter_cdf97f_forward.proofs.blocks.split_block.Given.{Over}
use Rattle.filter_cdf97f_forward.proofs.blocks.split_block.Goals as goal
use Rattle.filter_cdf97f_forward.proofs.blocks.split_block.Goals.{After-steps-next}

-- the steps leave what each turn is handed
stepped : (g : Over) (c : After-steps-next g) → Hands g.F.Real.format g.F.Real.float c.args.t c.args.x.now c.args.i c.args.n c.steps-next.new.self
stepped g c =
    let p = c.requires in
    let s = c.steps-next.ensures in
    let r = rw (← s.read.0, ← s.read.1) at c.read_pairs.ensures in
    handed p.ahead.samples c.args.i c.args.n p.n_in_bounds.1 r.0 r.1 p.carried s.stepped.0 s.stepped_2.0 s.stepped_3.0

pub put_block-requires : goal.put_block-requires
put_block-requires g c =
    let p = c.requires in
    (omega arith, (p.ahead, (p.splitting, (stepped g (goal.at.put_block-requires g c).After-steps-next, (p.small_if, p.n_in_bounds)))))

pub returns-clause-carried_2 : goal.returns-clause-carried_2
returns-clause-carried_2 g c =
    let s = c.steps-next.ensures in
    handed-at c.args.n _ (stepped g (goal.at.returns-clause-carried_2 g c).After-steps-next) (omega arith) refl s.stepped.1 s.stepped_2.1 s.stepped_3.1
