-- `first` meets its contract.
use Rattle.std.proofs.Common.{◌≡◌, ℕ, List, refl, ◌∙◌, get_or, arith}
use Rattle.std.specs.Float.{Float, Format, nan}
use Rattle.base_samples.specs.Floats.{float_at}
use Rattle.filter_floats.specs.Steps.{lift}
use Rattle.filter_floats.specs.Filters.{Set}
use Rattle.filter_floats.specs.Kinds.{set_of}
use Rattle.filter_small.proofs.Firsts.{odd-made, even-made}
use Rattle.filter_cdf97f_forward.specs.Ahead.{Samples, odds_one, evens_two}
use Rattle.filter_cdf97f_forward.proofs.Ahead.{long}
use Rattle.filter_cdf97f_forward.proofs.blocks.first.Goals as goal

-- the first odd sample after the first step, and the first even one after the second
made : {f : Format} {t : Set} {x : List ℕ} {e y z p q : Float} → Samples f t x → e ≡ float_at f x 0 → y ≡ float_at f x 2 → z ≡ float_at f x 1 → p ≡ lift f t.alpha e y z → q ≡ lift f t.beta p p e
    → (p ≡ get_or (odds_one f t x) 0 nan) × (q ≡ get_or (evens_two f t x) 0 nan)
made {f} {t} {x} v he hy hz hp hq =
    let p = hp ∙ odd-made f x (long v) t.alpha 0 1 0 1 2 (omega (arith, v)) (omega (arith, v)) refl refl refl he hy hz in
    (p, hq ∙ even-made f x (long v) t.alpha t.beta 0 0 0 0 (omega (arith, v)) refl (omega (arith, v)) refl p p he)

pub carry-requires-clause-p_value : goal.carry-requires-clause-p_value
carry-requires-clause-p_value g c = made {t = set_of g.F.Real.float c.args.t} c.requires.samples c.get-e.ensures c.get.ensures c.get-2.ensures c.lift-one.ensures c.lift-two.ensures

pub returns : goal.returns
returns g c =
    let w = made {t = set_of g.F.Real.float c.args.t} c.requires.samples c.get-e.ensures c.get.ensures c.get-2.ensures c.lift-one.ensures c.lift-two.ensures in
    record { one = w.0; two = w.1; three = c.carry.ensures.three }
