-- `put_pair` meets its contract: an even sample more, and an odd one.
use Rattle.std.proofs.Common.{◌∙◌, arith}
use Rattle.filter_small.proofs.Lifts.{even-more, odd-more}
use Rattle.filter_cdf97f_inverse.proofs.Back.{even-no-nan, odd_no_nan, pair_made}
use Rattle.filter_cdf97f_inverse.proofs.blocks.put_pair.Goals as goal

pub returns : goal.returns
returns g c =
    let f = g.F.Real.format in
    let i = c.args.i in
    let p = c.requires in
    odd-more f _ _ i (even-more f _ _ i p.restoring (omega (arith, p.bands97)) p.pair.three c.put.ensures) (omega (arith, p.bands97)) (c.lift.ensures ∙ pair_made p.bands97 i p.pair) c.put-2.ensures

pub put-requires-clause-number : goal.put-requires-clause-number
put-requires-clause-number g c = let p = c.requires in even-no-nan p.bands97 p.both_small_if (omega (arith, p.bands97, p.pair)) p.pair.three

pub put-requires-2-clause-number : goal.put-requires-2-clause-number
put-requires-2-clause-number g c = let p = c.requires in odd_no_nan p.bands97 p.both_small_if p.pair.inside (c.lift.ensures ∙ pair_made p.bands97 c.args.i p.pair)
