-- `split_all` meets its contract, block by block: the first i entries of the bands are stored.
use Rattle.std.proofs.Common.{◌≡◌, refl, ap, ◌∙◌, ℕ, ◌+◌, ◌-◌, ◌*◌, ◌/◌, min, length, arith}
use Rattle.base_samples.specs.Floats.{width, float_at}
use Rattle.base_samples.proofs.Fronts.{front-none}
use Rattle.filter_small.proofs.Firsts.{odd-made}
use Rattle.filter_cdf53f.proofs.blocks.split_all.Goals as goal

pub loop-i-init : goal.loop-i-init
loop-i-init g c =
    let f = g.F.Real.format in
    let x = c.args.x.now in
    let z : 0 ≡ min 0 ((length x / width f + 1) / 2 - 1) = omega arith in (
      omega arith,
      refl,
      record {
        approx = front-none _ c.requires.lent.approx;
        details = λ b. front-none _ (c.requires.details b);
        here = c.get-first.ensures ∙ ap (λ (k : ℕ). float_at f x (2 * k)) z;
        left = c.detail.ensures ∙ odd-made f x c.requires.lent.long _ 0 1 0 1 2 (omega (arith, c.requires.lent)) (omega (arith, c.requires.lent)) refl refl refl c.get-first.ensures c.get.ensures c.get-2.ensures;
      },
    )
