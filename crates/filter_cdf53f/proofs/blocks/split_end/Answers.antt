-- `split_end` meets its contract: as many details as approximations, and one less.
use Rattle.std.proofs.Common.{◌≡◌, ℕ, ◌+◌, ◌-◌, ◌*◌, ◌/◌, min, ap, ◌∙◌, length, arith}
use Rattle.base_samples.specs.Floats.{width, float_at}
use Rattle.base_samples.proofs.Fronts.{front_at}
use Rattle.filter_small.proofs.Lifts.{stored_more}
use Rattle.filter_cdf53f.proofs.Ahead.{splitting-at, top-made, split-all}
use Rattle.filter_cdf53f.proofs.blocks.split_end.Goals as goal

pub returns-then-last-top : goal.returns-then-last-top
returns-then-last-top g c =
    let f = g.F.Real.format in
    let a = c.args in
    let v = c.requires.ahead in
    let l = c.requires.last_value in
    let e = c.if-last-top.true in
    let r = splitting-at a.top c.split_pair-r.ensures (omega (arith, e, l)) in
    let t : min a.top ((length a.x.now / width f + 1) / 2 - 1) ≡ a.top = omega (arith, l) in
    let here = r.here ∙ ap (λ (k : ℕ). float_at f a.x.now (2 * k)) t in
    let top = top-made v a.top (omega (arith, e, l)) (omega (arith, v.lent, l)) r.left here in
    split-all v (stored_more f _ r.approx (omega (arith, v.lent, l)) (c.approximation.ensures ∙ top) c.put.ensures) (omega (arith, v.lent, l)) (λ b. front_at _ (r.details b) (omega (arith, e, l)))

pub returns-else-last-top : goal.returns-else-last-top
returns-else-last-top g c =
    let v = c.requires.ahead in
    let l = c.requires.last_value in
    let r = c.split_pair-r.ensures in
    split-all v r.approx (omega (arith, c.if-last-top.false, v.lent, l)) (λ b. front_at _ (r.details b) (omega (arith, v.lent, l)))
