-- `split_end` meets its contract: as many details as approximations, and one less.
use Rattle.std.proofs.Common.{◌≡◌, ℕ, ◌+◌, ◌-◌, ◌/◌, ◌%◌, List, ap, ◌∙◌, length, get_or, arith}
use Rattle.std.specs.Float.{Float, Format, nan}
use Rattle.std.specs.Float.Ieee.{mul}
use Rattle.base_samples.specs.Floats.{width}
use Rattle.base_samples.proofs.Fronts.{front_at}
use Rattle.filter_floats.specs.Steps.{lift}
use Rattle.filter_floats.specs.Filters.{Set}
use Rattle.filter_floats.specs.Kinds.{set_of}
use Rattle.filter_small.proofs.Lifts.{stored_more}
use Rattle.filter_cdf97f_forward.specs.Ahead.{Samples, Carried, evens_two, odds_three, scaled_evens}
use Rattle.filter_cdf97f_forward.proofs.Ahead.{three_made, low-made, split-all, even-halves}
use Rattle.filter_cdf97f_forward.proofs.blocks.split_end.Goals as goal

-- s is the last odd sample after the third step
module _ {f : Format} {t : Set} {x : List ℕ} {last : ℕ} {p q r e s : Float} (v : Samples f t x) (h : last ≡ length x / width f / 2 - 1) (c : Carried f t x last p q r)
    (w : e ≡ get_or (evens_two f t x) ((length x / width f + 1) / 2 - 1) nan) (es : s ≡ lift f t.gamma q e p) where
  third : s ≡ get_or (odds_three f t x) last nan
  third = es ∙ three_made v last ((length x / width f + 1) / 2 - 1) (omega (arith, v)) (omega (arith, v)) c.two w c.one

  -- the approximation that has no detail of its own
  top : {y z : Float} → length x / width f % 2 ≡ 1 → y ≡ lift f t.delta s s e → z ≡ mul f y t.k → z ≡ get_or (scaled_evens f t x) (last + 1) nan
  top odd ey ez =
      let k : (length x / width f + 1) / 2 - 1 ≡ last + 1 = omega (arith, v) in
      rw (ez, ey) (low-made v (last + 1) last last (omega (arith, v)) (omega (arith, v)) (omega (arith, v)) third third (w ∙ ap (λ (n : ℕ). get_or (evens_two f t x) n nan) k))

pub put_at-requires-clause-i_in_bounds : goal.put_at-requires-clause-i_in_bounds
put_at-requires-clause-i_in_bounds g c =
    let p = c.requires in
    (omega (arith, p.ahead.samples, p.last_value), third {t = set_of g.F.Real.float c.args.t} p.ahead.samples p.last_value p.carried c.top-q.ensures c.lift-third.ensures)

pub returns-then-count-eq1 : goal.returns-then-count-eq1
returns-then-count-eq1 g c =
    let f = g.F.Real.format in
    let t = set_of g.F.Real.float c.args.t in
    let p = c.requires in
    let r = c.put_at.ensures in
    let odd = rw c.count.ensures at c.if-count-eq1.true in
    split-all p.ahead.samples
    (stored_more f (scaled_evens f t c.args.x.now) r.approx (omega (arith, p.ahead.samples)) (top {t = t} p.ahead.samples p.last_value p.carried c.top-q.ensures c.lift-third.ensures odd c.lift.ensures (g.met.F.Real.products _ _ _ c.mul.ensures)) c.put.ensures)
    (omega (arith, p.ahead.samples)) (λ b. front_at _ (r.details b) (omega (arith, p.ahead.samples)))

pub returns-else-count-eq1 : goal.returns-else-count-eq1
returns-else-count-eq1 g c =
    let p = c.requires in
    let r = c.put_at.ensures in
    let even = rw c.count.ensures at c.if-count-eq1.false in
    split-all p.ahead.samples (front_at _ r.approx (omega (arith, p.ahead.samples))) (even-halves _ even) (λ b. front_at _ (r.details b) (omega (arith, p.ahead.samples)))
