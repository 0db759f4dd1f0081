-- `evens_from` meets its contract. The invariant: the first j + 1 even samples of the block are stored.
use Rattle.std.proofs.Common.{refl, ap, ◌∙◌, arith}
use Rattle.base_samples.proofs.Fronts.{front-none, front-more}
use Rattle.filter_cdf53i.specs.Bands.{even_word, evens_from}
use Rattle.filter_cdf53i.proofs.cdf53i.evens_from.Goals as goal

pub loop-j-init : goal.loop-j-init
unfolding evens_from
loop-j-init g c =
    let a = c.args in
    let most = c.requires.enough_words.most in
    front-more (front-none (evens_from g.S.Sample.bytes a.a.now a.d.now a.i) c.requires.enough_words.holds) refl (omega arith) (c.requires.e_value ∙ ap (even_word g.S.Sample.bytes a.a.now a.d.now) (omega arith)) c.put.ensures

pub loop-j-preserved : goal.loop-j-preserved
unfolding evens_from even_word
loop-j-preserved g c =
    let l = c.loop-j in
    let a = c.args in
    let lt = c.loop-j-test.true in
    let most = c.requires.enough_words.most in
    front-more l.invariant refl (omega arith) (c.even_at.ensures ∙ ap (even_word g.S.Sample.bytes a.a.now a.d.now) (omega arith)) c.put-in-loop-j.ensures
