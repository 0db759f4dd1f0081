-- `read_pairs` meets its contract: before turn j there are j entries of each.
use Rattle.std.proofs.Common.{◌≡◌, ◌+◌, ◌*◌, refl, arith}
use Rattle.filter_small.proofs.Lifts.{even-in, odd-in}
use Rattle.filter_small.proofs.Pieces.{piece-more}
use Rattle.filter_cdf97f_forward.proofs.blocks.read_pairs.Goals as goal

pub loop-j-preserved : goal.loop-j-preserved
loop-j-preserved g c =
    let f = g.F.Real.format in
    let v = g.F.Real.float in
    let x = c.args.x.now in
    let l = c.loop-j in
    let k = c.args.i + l.j in (
      piece-more v l.rows.y k l.invariant.0 (omega arith) (omega arith) (rw c.get.ensures (even-in f x k (2 * k) refl (omega arith))),
      piece-more v l.rows.z k l.invariant.1 (omega arith) (omega arith) (rw c.get-in-loop-j.ensures (odd-in f x k (2 * k + 1) refl (omega arith))),
    )

pub returns : goal.returns
returns g c =
    let f = g.F.Real.format in
    let l = c.loop-j in
    let k = c.args.i + c.args.n in
    let e : l.j ≡ c.args.n = omega arith in
    let w = rw e at l.invariant in
    (piece-more g.F.Real.float l.rows.y k w.0 (omega arith) (omega arith) (rw c.get-2.ensures (even-in f c.args.x.now k (2 * k) refl (omega arith))), w.1)
