-- One level back with the checks: where they pass, the lengths are those of a level.
use Rattle.levels_filter.proofs.Filters.{inverse_lent}
use Rattle.levels_filter.proofs.filter.execute_inverse.Goals as goal

pub inverse-requires : goal.inverse-requires
inverse-requires c = inverse_lent _ c.in_ok-check_inverse.ensures c.wavelet.ensures c.width.ensures.0
