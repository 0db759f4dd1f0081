-- `read_u16` meets its contract.
use native.Mathlib.Omega.{arith}
use Rattle.base_samples.specs.Le.{le_at}
use Rattle.base_samples.proofs.le.read_u16.Goals as goal

pub returns : goal.returns
unfolding le_at
returns c = omega arith
