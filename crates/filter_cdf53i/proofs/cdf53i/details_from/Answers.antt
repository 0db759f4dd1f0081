-- `details_from` meets its contract. The invariant: the first j + 1 details of the block are stored.
use Rattle.std.proofs.Common.{refl, ap, ◌∙◌, arith}
use Rattle.base_samples.proofs.Fronts.{front-none, front-more}
use Rattle.filter_cdf53i.specs.Bands.{detail_word, details_from}
use Rattle.filter_cdf53i.proofs.cdf53i.details_from.Goals as goal

pub loop-j-init : goal.loop-j-init
unfolding details_from
loop-j-init g c =
    let a = c.args in
    let most = c.requires.enough_words.most in
    front-more (front-none (details_from g.S.Sample.bytes a.x.now a.i) c.requires.enough_words.holds) refl (omega arith) (c.requires.e_value ∙ ap (detail_word g.S.Sample.bytes a.x.now) (omega arith)) c.put.ensures

pub loop-j-preserved : goal.loop-j-preserved
unfolding details_from detail_word
loop-j-preserved g c =
    let a = c.args in
    let l = c.loop-j in
    let lt = c.loop-j-test.true in
    let most = c.requires.enough_words.most in
    front-more l.invariant refl (omega arith) (c.detail_at.ensures ∙ ap (detail_word g.S.Sample.bytes a.x.now) (omega arith)) c.put-in-loop-j.ensures
