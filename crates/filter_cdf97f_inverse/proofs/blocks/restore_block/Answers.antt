-- `restore_block` meets its contract: pieces of the lists that the steps make, and the samples of them.
use Rattle.std.proofs.Common.{◌+◌, map, arith}
use Rattle.filter_floats.specs.Kinds.{set_of}
use Rattle.filter_small.specs.Pieces.{Piece}
use Rattle.filter_cdf97f_inverse.specs.Back.{odds_two, evens_three, Carries}
use Rattle.filter_cdf97f_inverse.proofs.Back.{block-made}
use Rattle.filter_cdf97f_inverse.proofs.blocks.restore_block.Given.{Over}
use Rattle.filter_cdf97f_inverse.proofs.blocks.restore_block.Goals as goal
use Rattle.filter_cdf97f_inverse.proofs.blocks.restore_block.Goals.{After-steps-next}

-- what the steps leave
stepped : (g : Over) (c : After-steps-next g) → let f = g.F.Real.format in let v = g.F.Real.float in let t = set_of v c.args.t in let rows = c.steps-next.new.self in
    Piece (odds_two f t c.args.a.now c.args.d.now) 0 c.args.i (c.args.n + 1) (map v rows.v) × Piece (evens_three f t c.args.a.now c.args.d.now) 0 c.args.i (c.args.n + 1) (map v rows.w)
    × Carries f v c.args.t c.args.a.now c.args.d.now (c.args.i + c.args.n) c.steps-next.result
stepped g c =
    let p = c.requires in
    let s = c.steps-next.ensures in
    let y = rw (← s.read.0) at c.read_times.ensures in
    let z = rw (← s.read.1) at c.read_times-2.ensures in
    block-made p.bands97 c.args.i c.args.n p.n_in_bounds.1 y z p.carried s.stepped.0 s.stepped_2.0 s.stepped_3.0 s.stepped.1 s.stepped_2.1 s.stepped_3.1

pub put_pairs-requires : goal.put_pairs-requires
put_pairs-requires g c =
    let p = c.requires in
    let s = stepped g (goal.at.put_pairs-requires g c).After-steps-next in
    (omega arith, (p.bands97, (p.restoring, (p.both_small_if, (s.0, (s.1, p.n_in_bounds))))))

pub returns-clause-carried_2 : goal.returns-clause-carried_2
returns-clause-carried_2 g c = (stepped g (goal.at.returns-clause-carried_2 g c).After-steps-next).2
