-- The factors of 5/3: a half and a quarter, with either sign, are at most 2 in size. Over the format.
use mathlib.Core.Bool.{true, false}
use mathlib.Core.Path.{◌≡◌, refl}
use native.Mathlib.Omega.{arith}
use lib.Ieee.{Format, binary32, binary64, neg, round}
use Rattle.filter_floats.specs.Filters.{decimal}
use Rattle.filter_small.specs.Small.{Factor}

pub minus-half : (f : Format) → neg (decimal f false 5 1) ≡ decimal f true 5 1
unfolding decimal round neg
minus-half binary32 = refl
minus-half binary64 = refl

pub minus-quarter : (f : Format) → neg (decimal f false 25 2) ≡ decimal f true 25 2
unfolding decimal round neg
minus-quarter binary32 = refl
minus-quarter binary64 = refl

pub half-factor : (f : Format) → Factor (decimal f false 5 1)
unfolding decimal round
half-factor binary32 = omega arith
half-factor binary64 = omega arith

pub quarter-factor : (f : Format) → Factor (decimal f false 25 2)
unfolding decimal round
quarter-factor binary32 = omega arith
quarter-factor binary64 = omega arith

pub minus-half-factor : (f : Format) → Factor (decimal f true 5 1)
unfolding decimal round
minus-half-factor binary32 = omega arith
minus-half-factor binary64 = omega arith

pub minus-quarter-factor : (f : Format) → Factor (decimal f true 25 2)
unfolding decimal round
minus-quarter-factor binary32 = omega arith
minus-quarter-factor binary64 = omega arith
