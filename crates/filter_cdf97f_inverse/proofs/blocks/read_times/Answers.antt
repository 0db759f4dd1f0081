-- `read_times` meets its contract: before turn j there are j entries.
use Rattle.std.proofs.Common.{◌+◌, arith}
use Rattle.filter_small.proofs.Pieces.{piece-more}
use Rattle.filter_cdf97f_inverse.proofs.blocks.read_times.Goals as goal

pub loop-j-preserved : goal.loop-j-preserved
loop-j-preserved g c =
    let l = c.loop-j in
    piece-more g.F.Real.float l.y (c.args.i + l.j) l.invariant (omega arith) (omega arith) c.times.ensures
