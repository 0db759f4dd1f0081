-- `restore_end` meets its contract: as many details as approximations, and one less.
use Rattle.std.proofs.Common.{◌+◌, ◌∙◌, arith}
use Rattle.base_samples.proofs.Fronts.{front_at}
use Rattle.filter_cdf53f.proofs.RestoreTurns.{counts, one_more, even-made, odd-made, pair-more, last_more, restored-all}
use Rattle.filter_cdf53f.proofs.blocks.restore_end.Goals as goal

pub returns-then-count-last : goal.returns-then-count-last
returns-then-count-last g c =
    let v = c.requires.lent in
    let n = counts v in
    let i = c.args.last in
    let e = c.requires.restoring.next in
    let o = c.odd_sample.ensures ∙ odd-made v i i (omega arith) (omega arith) e e c.get-y.ensures in
    restored-all v _ _ _ (pair-more v i c.requires.restoring.front (omega arith) e o c.put.ensures c.put-then-count-last.ensures) (omega arith) (omega arith)

pub returns-else-count-last : goal.returns-else-count-last
returns-else-count-last g c =
    let v = c.requires.lent in
    let n = counts v in
    let i = c.args.last in
    let m = one_more v (λ q. c.if-count-last.false (omega arith)) in
    let e = c.requires.restoring.next in
    let y = c.get-y.ensures in
    let f = c.even_sample-f.ensures ∙ even-made v (i + 1) i i (omega arith) (omega arith) (omega arith) y y c.get.ensures in
    let o = c.odd_sample-else-count-last.ensures ∙ odd-made v i (i + 1) (omega arith) (omega arith) e f y in
    restored-all v _ _ _
    (last_more v (i + 1) (front_at _ (pair-more v i c.requires.restoring.front (omega arith) e o c.put.ensures c.put-else-count-last.ensures) (omega arith)) (omega arith) f c.put-else-count-last-2.ensures)
    (omega arith) (omega arith)
