-- `approxs_from` meets its contract. The invariant: the approximations before i + j are stored.
use Rattle.std.proofs.Common.{◌+◌, ap, ◌∙◌, arith}
use Rattle.base_samples.proofs.Fronts.{front_at}
use Rattle.filter_cdf53i.specs.Bands.{detail_word}
use Rattle.filter_cdf53i.proofs.WordTurns.{details-read, approx-more}
use Rattle.filter_cdf53i.proofs.cdf53i.approxs_from.Goals as goal

pub loop-j-preserved : goal.loop-j-preserved
loop-j-preserved g c =
    let l = c.loop-j in
    let w = g.met.S.Sample.width in
    let x = c.args.x.now in
    let i = c.args.i in
    let lt = c.loop-j-test.true in
    let inside = c.requires.unmirrored.details in
    front_at _
    (approx-more w x (i + l.j) (i + l.j) l.invariant (omega arith) (omega arith) (omega arith)
    c.get.ensures
    (c.get-in-loop-j.ensures ∙ details-read w x i l.j c.requires.front.0 (omega arith))
    (c.get-in-loop-j-2.ensures ∙ details-read w x i (l.j + 1) c.requires.front.0 (omega arith) ∙ ap (detail_word g.S.Sample.bytes x) (omega arith))
    c.approx_of.ensures c.put.ensures)
    (omega arith)
