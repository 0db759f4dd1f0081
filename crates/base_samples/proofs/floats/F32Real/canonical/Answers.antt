-- `canonical` of f32 meets its contract.
use Rattle.base_samples.proofs.FloatLaws.{canonical_above, canonical_below, nan_pattern}
use Rattle.base_samples.proofs.floats.F32Real.canonical.Goals as goal
use native.Mathlib.Omega.{arith}
use mathlib.Core.Path.{sym, ◌∙◌}
use lib.Ieee.{binary32}

pub returns-then-n-gt2139095040 : goal.returns-then-n-gt2139095040
returns-then-n-gt2139095040 c = sym (canonical_above binary32 _ c.if-n-gt2139095040.true ∙ nan_pattern.0)

pub returns-else-n-gt2139095040 : goal.returns-else-n-gt2139095040
returns-else-n-gt2139095040 c = sym (canonical_below binary32 _ (omega arith) c.if-n-gt2139095040.false)
