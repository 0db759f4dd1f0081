-- `of_plain` of f64 meets its contract: only the fixed pattern is a NaN's.
use mathlib.Core.Path.{◌∙◌}
use lib.Ieee.{binary64}
use Rattle.base_samples.proofs.FloatLaws.{plain-no-nan, nan_pattern}
use Rattle.base_samples.proofs.floats.F64Real.of_plain.Goals as goal

pub float_from_bits-result : goal.float_from_bits-result
float_from_bits-result c = plain-no-nan binary64 _ c.requires (λ q. c.if-n-eq9221120237041090560.false (q ∙ nan_pattern.1))
