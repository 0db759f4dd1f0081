-- `restore_pair` meets its contract.
use Rattle.std.proofs.Common.{◌+◌, ◌∙◌, arith}
use Rattle.base_samples.proofs.Fronts.{front_at}
use Rattle.filter_cdf53f.proofs.RestoreTurns.{counts, even-made, odd-made, even-no-nan, odd_no_nan, pair-more}
use Rattle.filter_cdf53f.proofs.blocks.restore_pair.Goals as goal

pub returns : goal.returns
returns g c =
    let v = c.requires.lent in
    let n = counts v in
    let i = c.args.i in
    let s = c.requires.restoring in
    let y = c.get-y.ensures in
    let e = c.even_sample-next.ensures ∙ even-made v (i + 1) i (i + 1) (omega arith) (omega arith) (omega arith) y c.get.ensures c.get-2.ensures in
    let o = c.odd_sample.ensures ∙ odd-made v i (i + 1) (omega arith) (omega arith) s.next e y in
    record {
      front = front_at _ (pair-more v i s.front (omega arith) s.next o c.put.ensures c.put-2.ensures) (omega arith);
      next = e;
    }

pub put-requires-clause-number : goal.put-requires-clause-number
put-requires-clause-number g c =
    let v = c.requires.lent in
    let n = counts v in
    even-no-nan v c.args.i c.requires.both_small_if (omega arith) c.requires.restoring.next

pub put-requires-2-clause-number : goal.put-requires-2-clause-number
put-requires-2-clause-number g c =
    let v = c.requires.lent in
    let n = counts v in
    let i = c.args.i in
    let s = c.requires.restoring in
    let y = c.get-y.ensures in
    let e = c.even_sample-next.ensures ∙ even-made v (i + 1) i (i + 1) (omega arith) (omega arith) (omega arith) y c.get.ensures c.get-2.ensures in
    odd_no_nan v i c.requires.both_small_if (omega arith) (c.odd_sample.ensures ∙ odd-made v i (i + 1) (omega arith) (omega arith) s.next e y)
