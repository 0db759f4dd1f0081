-- `times` meets its contract.
use Rattle.std.proofs.Common.{◌∙◌}
use Rattle.filter_cdf97f_inverse.proofs.Back.{times-made}
use Rattle.filter_cdf97f_inverse.proofs.blocks.times.Goals as goal

pub returns : goal.returns
returns g c = g.met.F.Real.products _ _ _ c.mul.ensures ∙ times-made g.F.Real.format _ c.args.s.now c.args.i c.requires.i_in_bounds c.get.ensures
