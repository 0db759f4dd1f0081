-- `split_pair` meets its contract: detail i and approximation i are made of the samples as the two steps make them.
use native.Mathlib.Omega.{arith}
use Rattle.filter_cdf53f.proofs.Ahead.{odd_no_nan, even-no-nan, detail, approx, turned}
use Rattle.filter_cdf53f.proofs.blocks.split_pair.Goals as goal

pub put_if-requires-clause-number : goal.put_if-requires-clause-number
put_if-requires-clause-number g c =
    let r = c.requires in
    odd_no_nan r.ahead c.args.i r.small_if r.i_in_bounds.0 (detail r.ahead r.splitting r.i_in_bounds.0 r.i_in_bounds.1 c.get-next.ensures c.get.ensures c.detail-z.ensures)

pub put-requires-clause-number : goal.put-requires-clause-number
put-requires-clause-number g c =
    let r = c.requires in
    even-no-nan r.ahead c.args.i r.small_if (omega (arith, r.i_in_bounds)) (approx r.ahead r.splitting r.i_in_bounds.0 r.i_in_bounds.1 c.get-next.ensures c.get.ensures c.detail-z.ensures c.approximation.ensures)

pub returns : goal.returns
returns g c =
    let r = c.requires in
    turned r.ahead r.splitting r.i_in_bounds.0 r.i_in_bounds.1 c.get-next.ensures c.get.ensures c.detail-z.ensures c.approximation.ensures c.put_if.ensures c.put.ensures
