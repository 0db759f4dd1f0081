-- `predict` meets its contract. The invariant: the first i details are stored. The last one, whose right neighbour may be mirrored, comes after the loop.
use Rattle.std.proofs.Common.{sym, refl, ◌∙◌, arith}
use Rattle.base_samples.specs.Integers.{wrap, decode}
use Rattle.base_samples.proofs.Fronts.{front-none, front-more, front-all}
use Rattle.base_samples.proofs.IntegerLaws.{length-decode, encode-tabulate}
use Rattle.filter_cdf53i.specs.Lift.{detail, details}
use Rattle.filter_cdf53i.specs.Bands.{high}
use Rattle.filter_cdf53i.proofs.cdf53i.predict.Goals as goal

pub loop-i-preserved : goal.loop-i-preserved
loop-i-preserved g c =
    let lt = c.loop-i-test.true in
    front-more c.loop-i.invariant refl (omega arith) c.detail_at.ensures c.put.ensures

pub returns : goal.returns
unfolding high details
returns g c =
    let a = c.args in
    let ge = c.loop-i-test.false in
    let long = c.requires.input.long in
    let n = length-decode g.S.Sample.bytes a.x.now in
    front-all _ (front-more c.loop-i.invariant (omega arith) (omega arith) c.detail_at-2.ensures c.put-2.ensures) (omega arith) (omega arith)
    ∙ sym (encode-tabulate g.S.Sample.bytes _ (detail (wrap g.S.Sample.bytes) (decode g.S.Sample.bytes a.x.now)))

pub loop-i-init : goal.loop-i-init
loop-i-init g c = front-none _ c.requires.holds
