-- `canonical` of f64 meets its contract.
use Rattle.base_samples.proofs.FloatLaws.{canonical_above, canonical_below, nan_pattern}
use Rattle.base_samples.proofs.floats.F64Real.canonical.Goals as goal
use native.Mathlib.Omega.{arith}
use mathlib.Core.Path.{sym, ◌∙◌}
use lib.Ieee.{binary64}

pub returns-then-n-gt9218868437227405312 : goal.returns-then-n-gt9218868437227405312
returns-then-n-gt9218868437227405312 c = sym (canonical_above binary64 _ c.if-n-gt9218868437227405312.true ∙ nan_pattern.1)

pub returns-else-n-gt9218868437227405312 : goal.returns-else-n-gt9218868437227405312
returns-else-n-gt9218868437227405312 c = sym (canonical_below binary64 _ (omega arith) c.if-n-gt9218868437227405312.false)
