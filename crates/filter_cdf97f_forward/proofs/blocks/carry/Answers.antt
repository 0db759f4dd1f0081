-- `carry` meets its contract: a step after the other, each from what the turn before left.
use Rattle.std.proofs.Common.{◌≡◌, ℕ, ◌+◌, ◌-◌, ◌*◌, ◌/◌, ◌<◌, min, List, refl, ap, ◌∙◌, length, get_or, arith}
use Rattle.std.specs.Float.{Float, Format, nan}
use Rattle.base_samples.specs.Floats.{width, float_at}
use Rattle.filter_floats.specs.Steps.{lift}
use Rattle.filter_floats.specs.Filters.{Set}
use Rattle.filter_floats.specs.Kinds.{set_of}
use Rattle.filter_small.proofs.Firsts.{odd-made, even-made}
use Rattle.filter_cdf97f_forward.specs.Ahead.{Samples, Carried, odds_one, evens_two, odds_three}
use Rattle.filter_cdf97f_forward.proofs.Ahead.{long, three_made}
use Rattle.filter_cdf97f_forward.proofs.blocks.carry.Goals as goal

-- e, y and z are samples, and u, v and w what the steps make
made : {f : Format} {t : Set} {x : List ℕ} (i : ℕ) {j : ℕ} {p q e y z u v w : Float} → Samples f t x → (i + 1 < length x / width f / 2) × (j ≡ min (i + 2) ((length x / width f + 1) / 2 - 1))
    → (p ≡ get_or (odds_one f t x) i nan) × (q ≡ get_or (evens_two f t x) i nan) → e ≡ float_at f x (2 * i + 2) → y ≡ float_at f x (2 * j) → z ≡ float_at f x (2 * i + 3)
    → u ≡ lift f t.alpha e y z → v ≡ lift f t.beta p u e → w ≡ lift f t.gamma q v p → Carried f t x (i + 1) u v w
made {f} {t} {x} i {j} s b h he hy hz hu hv hw =
    let one = hu ∙ odd-made f x (long s) t.alpha (i + 1) j (2 * i + 2) (2 * i + 3) (2 * j) b.0 (omega (arith, b)) (omega arith) (omega arith) refl he hy hz in
    let two = hv ∙ even-made f x (long s) t.alpha t.beta (i + 1) i (i + 1) (2 * i + 2) (omega (arith, b)) (omega arith) (omega (arith, b)) (omega arith) h.0 one he in
    record {
      one = one;
      two = two;
      three = hw ∙ three_made s i (i + 1) (omega (arith, b)) (omega (arith, b)) h.1 two h.0 ∙ ap (λ (k : ℕ). get_or (odds_three f t x) k nan) (omega arith);
    }

pub returns : goal.returns
returns g c =
    let r = c.requires in
    made {t = set_of g.F.Real.float c.args.t} c.args.i r.samples r.i_in_bounds r.p_value c.get-e.ensures c.get.ensures c.get-2.ensures c.lift-one.ensures c.lift-two.ensures c.lift-three.ensures
