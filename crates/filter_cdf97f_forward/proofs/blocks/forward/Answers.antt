-- `forward` meets its contract: both ways leave the same bands.
use Rattle.std.proofs.Common.{refl}
use Rattle.filter_floats.specs.Kinds.{set_of}
use Rattle.filter_cdf97f_forward.proofs.Ahead.{low-97, high-97}
use Rattle.filter_cdf97f_forward.proofs.blocks.forward.Goals as goal

pub returns-then-small_from : goal.returns-then-small_from
returns-then-small_from g c =
    let f = g.F.Real.format in
    let x = c.args.input.now in
    let t = set_of g.F.Real.float c.args.t in
    let e = c.split_all.ensures in
    (low-97 f x {t = t} c.requires.t_value e.approx, high-97 f x {t = t} c.requires.t_value (e.details refl))
