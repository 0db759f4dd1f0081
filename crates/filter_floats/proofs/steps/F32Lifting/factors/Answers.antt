-- `factors` of f32 meets its contract, by computing.
use mathlib.Core.Path.{refl}
use lib.Ieee.{neg, of_bits, round}
use Rattle.filter_floats.specs.Filters.{decimal, rounded, factors64, factors32}
use Rattle.filter_floats.proofs.steps.F32Lifting.factors.Goals as goal

pub returns : goal.returns
unfolding neg of_bits factors32 factors64 decimal rounded round
returns c = refl
