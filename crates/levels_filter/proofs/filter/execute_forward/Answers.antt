-- One level forward with the checks: where they pass, the lengths are those of a level.
use Rattle.levels_filter.proofs.Filters.{forward_lent}
use Rattle.levels_filter.proofs.filter.execute_forward.Goals as goal

pub forward-requires : goal.forward-requires
forward-requires c = forward_lent _ c.in_ok-check_forward.ensures c.wavelet.ensures c.width.ensures.0
