-- `put_at` meets its contract: the fourth step, and the scaling of both.
use Rattle.std.proofs.Common.{◌≡◌, ℕ, ◌-◌, ◌/◌, ◌<◌, List, refl, ◌∙◌, length, get_or, arith}
use Rattle.std.specs.Float.{Float, Format, nan}
use Rattle.std.specs.Float.Ieee.{mul}
use Rattle.base_samples.specs.Floats.{width}
use Rattle.filter_floats.specs.Steps.{lift}
use Rattle.filter_floats.specs.Filters.{Set}
use Rattle.filter_floats.specs.Kinds.{set_of}
use Rattle.filter_small.proofs.Lifts.{stored_more, put_wanted}
use Rattle.filter_cdf97f_forward.specs.Ahead.{Samples, Carried, odds_three, scaled_evens, scaled_odds}
use Rattle.filter_cdf97f_forward.proofs.Ahead.{low-made, high-made, low-no-nan, high-no-nan}
use Rattle.filter_cdf97f_forward.proofs.blocks.put_at.Goals as goal

-- the approximation: e is the odd sample, y what the fourth step makes of it, z that scaled
approx : {f : Format} {t : Set} {x : List ℕ} {i : ℕ} {p q r e y z : Float} → Samples f t x → Carried f t x i p q r → (i < length x / width f / 2) × (e ≡ get_or (odds_three f t x) i nan)
    → y ≡ lift f t.delta r e q → z ≡ mul f y t.k → z ≡ get_or (scaled_evens f t x) i nan
approx {i = i} v c h ey ez = rw (ez, ey) (low-made v i (i - 1) i (omega arith) refl (omega arith) c.three h.1 c.two)

pub returns : goal.returns
returns g c =
    let f = g.F.Real.format in
    let t = set_of g.F.Real.float c.args.t in
    let x = c.args.x.now in
    let p = c.requires in
    let low = approx {t = t} p.ahead.samples p.carried p.i_in_bounds c.lift.ensures (g.met.F.Real.products _ _ _ c.mul.ensures) in
    let high = g.met.F.Real.products _ _ _ c.mul-2.ensures ∙ high-made p.ahead.samples c.args.i p.i_in_bounds.0 p.i_in_bounds.1 in
    record {
      approx = stored_more f (scaled_evens f t x) p.splitting.approx (omega arith) low c.put.ensures;
      details = λ b. stored_more f (scaled_odds f t x) (p.splitting.details b) p.i_in_bounds.0 high (put_wanted _ b c.put_if.ensures);
    }

pub put-requires-clause-number : goal.put-requires-clause-number
put-requires-clause-number g c =
    let p = c.requires in
    low-no-nan p.ahead.samples c.args.i p.small_if (omega (arith, p.i_in_bounds))
    (approx {t = set_of g.F.Real.float c.args.t} p.ahead.samples p.carried p.i_in_bounds c.lift.ensures (g.met.F.Real.products _ _ _ c.mul.ensures))

pub put_if-requires-clause-number : goal.put_if-requires-clause-number
put_if-requires-clause-number g c =
    let p = c.requires in
    high-no-nan p.ahead.samples c.args.i p.small_if p.i_in_bounds.0 (g.met.F.Real.products _ _ _ c.mul-2.ensures ∙ high-made p.ahead.samples c.args.i p.i_in_bounds.0 p.i_in_bounds.1)
