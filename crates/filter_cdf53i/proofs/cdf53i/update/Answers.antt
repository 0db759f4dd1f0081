-- `update` meets its contract. The invariant: the first i approximations are stored, the first and the last, whose neighbours are mirrored, outside the loop.
use Rattle.std.proofs.Common.{sym, refl, ◌∙◌, arith}
use Rattle.base_samples.specs.Integers.{wrap, decode}
use Rattle.base_samples.proofs.Fronts.{front-none, front-more, front-all}
use Rattle.base_samples.proofs.IntegerLaws.{length-decode, encode-tabulate}
use Rattle.filter_cdf53i.specs.Lift.{approx}
use Rattle.filter_cdf53i.proofs.cdf53i.update.Goals as goal

pub loop-i-init : goal.loop-i-init
loop-i-init g c =
    let long = c.requires.input.long in
    front-more (front-none _ c.requires.approx) refl (omega arith) c.approx_at.ensures c.put.ensures

pub loop-i-preserved : goal.loop-i-preserved
loop-i-preserved g c =
    let lt = c.loop-i-test.true in
    front-more c.loop-i.invariant refl (omega arith) c.approx_at-in-loop-i.ensures c.put-in-loop-i.ensures

pub returns : goal.returns
returns g c =
    let a = c.args in
    let ge = c.loop-i-test.false in
    let long = c.requires.input.long in
    let n = length-decode g.S.Sample.bytes a.x.now in
    front-all _ (front-more c.loop-i.invariant (omega arith) (omega arith) c.approx_at-2.ensures c.put-2.ensures) (omega arith) (omega arith)
    ∙ sym (encode-tabulate g.S.Sample.bytes _ (approx (wrap g.S.Sample.bytes) (decode g.S.Sample.bytes a.x.now) (decode g.S.Sample.bytes a.d.now)))
