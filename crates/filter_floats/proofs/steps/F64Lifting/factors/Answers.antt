-- `factors` of f64 meets its contract, by computing.
use mathlib.Core.Path.{refl}
use lib.Ieee.{neg, of_bits, round}
use Rattle.filter_floats.specs.Filters.{decimal, factors64}
use Rattle.filter_floats.proofs.steps.F64Lifting.factors.Goals as goal

pub returns : goal.returns
unfolding neg of_bits factors64 decimal round
returns c = refl
