-- `quarter` of f32 meets its contract, by computing.
use mathlib.Core.Path.{refl}
use lib.Ieee.{of_bits, round}
use Rattle.filter_floats.specs.Filters.{decimal}
use Rattle.filter_floats.proofs.steps.F32Lifting.quarter.Goals as goal

pub returns : goal.returns
unfolding of_bits decimal round
returns c = refl
