-- `approximate_end` meets its contract: as many approximations as details, and one more.
use Rattle.std.proofs.Common.{◌+◌, ap, ◌∙◌, arith}
use Rattle.filter_cdf53i.specs.Bands.{detail_word}
use Rattle.filter_cdf53i.proofs.WordTurns.{approx-more, approximated}
use Rattle.filter_cdf53i.proofs.cdf53i.approximate_end.Goals as goal

-- one more: both its neighbours are the last detail
pub returns-then-last-na : goal.returns-then-last-na
unfolding detail_word
returns-then-last-na g c =
    let w = g.met.S.Sample.width in
    let x = c.args.x.now in
    let last = c.args.last in
    let long = c.requires.input.long in
    let more = c.if-last-na.true in
    approximated w x _ _
    (approx-more w x (last + 1) last
    (approx-more w x last last c.requires.approximating.front (omega arith) (omega arith) (omega arith) c.get.ensures c.requires.approximating.left c.detail_at-f.ensures c.approx_of.ensures c.put.ensures)
    (omega arith) (omega arith) (omega arith) c.get-then-last-na.ensures (c.detail_at-f.ensures ∙ ap (detail_word g.S.Sample.bytes x) (omega arith)) c.detail_at-f.ensures c.approx_of-then-last-na.ensures c.put-then-last-na.ensures)
    (omega arith)

pub returns-else-last-na : goal.returns-else-last-na
unfolding detail_word
returns-else-last-na g c =
    let w = g.met.S.Sample.width in
    let x = c.args.x.now in
    let last = c.args.last in
    let long = c.requires.input.long in
    let none = c.if-last-na.false in
    approximated w x _ _
    (approx-more w x last last c.requires.approximating.front (omega arith) (omega arith) (omega arith) c.get.ensures c.requires.approximating.left c.detail_at-f.ensures c.approx_of.ensures c.put.ensures)
    (omega arith)
