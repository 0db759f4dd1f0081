-- `of_plain` of f32 meets its contract: only the fixed pattern is a NaN's.
use mathlib.Core.Path.{◌∙◌}
use lib.Ieee.{binary32}
use Rattle.base_samples.proofs.FloatLaws.{plain-no-nan, nan_pattern}
use Rattle.base_samples.proofs.floats.F32Real.of_plain.Goals as goal

pub float_from_bits-result : goal.float_from_bits-result
float_from_bits-result c = plain-no-nan binary32 _ c.requires (λ q. c.if-n-eq2143289344.false (q ∙ nan_pattern.0))
