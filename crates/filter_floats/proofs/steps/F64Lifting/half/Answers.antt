-- `half` of f64 meets its contract, by computing.
use mathlib.Core.Path.{refl}
use lib.Ieee.{of_bits, round}
use Rattle.filter_floats.specs.Filters.{decimal}
use Rattle.filter_floats.proofs.steps.F64Lifting.half.Goals as goal

pub returns : goal.returns
unfolding of_bits decimal round
returns c = refl
