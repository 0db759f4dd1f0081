-- `odds_from` meets its contract. The invariant: the first j odd samples of the block are stored.
use Rattle.std.proofs.Common.{◌+◌, ap, ◌∙◌, arith}
use Rattle.base_samples.proofs.Fronts.{front-none}
use Rattle.filter_cdf53i.specs.Bands.{even_word}
use Rattle.filter_cdf53i.proofs.WordTurns.{evens-read, odds-more}
use Rattle.filter_cdf53i.proofs.cdf53i.odds_from.Goals as goal

pub loop-j-preserved : goal.loop-j-preserved
loop-j-preserved g c =
    let l = c.loop-j in
    let w = g.met.S.Sample.width in
    let a = c.args.a.now in
    let d = c.args.d.now in
    let i = c.args.i in
    let lt = c.loop-j-test.true in
    let inside = c.requires.inside.approx in
    let band = c.requires.inside.details in
    let most = c.requires.enough_words.1.most in
    odds-more w a d i l.j l.invariant (omega arith) (omega arith) (omega arith)
    (c.get.ensures ∙ evens-read w a d i l.j c.requires.front (omega arith))
    (c.get-in-loop-j-2.ensures ∙ evens-read w a d i (l.j + 1) c.requires.front (omega arith) ∙ ap (even_word g.S.Sample.bytes a d) (omega arith))
    c.get-in-loop-j.ensures c.odd_of.ensures c.put.ensures

pub loop-j-init : goal.loop-j-init
loop-j-init g c = front-none _ c.requires.enough_words.1.holds
