-- `see` of f32 meets its contract: a sum below the top bit leaves the pattern below the edge.
use native.Mathlib.Omega.{arith}
use Rattle.filter_small.proofs.Sizes.{seen_both}
use Rattle.filter_small.proofs.look.F32Look.see.Goals as goal

pub returns : goal.returns
returns c = λ h. let b = seen_both _ _ _ h in (b.0, omega arith)
