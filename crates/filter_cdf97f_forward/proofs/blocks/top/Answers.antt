-- `top` meets its contract: an even number of samples ends with an odd place, and an odd number with an even one.
use Rattle.std.proofs.Common.{◌+◌, ◌-◌, ◌/◌, ◌∙◌, arith}
use Rattle.filter_floats.specs.Kinds.{set_of}
use Rattle.filter_small.proofs.Firsts.{even-made}
use Rattle.filter_cdf97f_forward.proofs.Ahead.{long, odd-count}
use Rattle.filter_cdf97f_forward.proofs.blocks.top.Goals as goal

pub returns : goal.returns
returns g c =
    let t = set_of g.F.Real.float c.args.t in
    let n = c.count-n.result in
    let l = n / 2 - 1 in
    let v = c.requires.samples in
    let p = rw (← c.count-n.ensures) at c.requires.p_value.0 in
    let o = odd-count n c.if-n-eq0.false in
    rw (← c.count-n.ensures) (c.lift.ensures ∙ even-made g.F.Real.format c.args.x.now (long v) t.alpha t.beta ((n + 1) / 2 - 1) l l (n - 1) (omega (arith, v)) (omega arith) (omega (arith, v)) (omega (arith, v)) p p c.get.ensures)
