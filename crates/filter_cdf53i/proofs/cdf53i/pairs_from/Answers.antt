-- `pairs_from` meets its contract. The invariant: the samples before pair i + j are restored.
use Rattle.std.proofs.Common.{◌∙◌, arith}
use Rattle.base_samples.proofs.Fronts.{front_at}
use Rattle.filter_cdf53i.proofs.WordTurns.{evens-read, odds-read, pair-more}
use Rattle.filter_cdf53i.proofs.cdf53i.pairs_from.Goals as goal

pub loop-j-preserved : goal.loop-j-preserved
loop-j-preserved g c =
    let l = c.loop-j in
    let lt = c.loop-j-test.true in
    let w = g.met.S.Sample.width in
    let a = c.args.a.now in
    let d = c.args.d.now in
    let i = c.args.i in
    front_at _
    (pair-more w a d i l.j l.invariant (omega arith)
    (c.get.ensures ∙ evens-read w a d i l.j c.requires.front (omega arith))
    (c.get-in-loop-j.ensures ∙ odds-read w a d i l.j c.requires.front_2 (omega arith))
    c.put.ensures c.put-in-loop-j.ensures)
    (omega arith)
