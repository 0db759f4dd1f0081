-- `get` meets its contract: a small float is no NaN.
use native.Mathlib.Omega.{arith}
use Rattle.filter_small.proofs.Sizes.{small-no-nan, float_small}
use Rattle.filter_small.proofs.look.get.Goals as goal

pub get_number-requires-clause-number : goal.get_number-requires-clause-number
get_number-requires-clause-number g c = small-no-nan _ _ _ (float_small (c.requires.small_if c.if-small.true) c.args.i (omega arith) (omega arith) c.requires.i_in_bounds)
