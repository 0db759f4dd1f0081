-- `read_u64` meets its contract.
use native.Mathlib.Nat.{add_assoc}
use native.Mathlib.Omega.{arith}
use Rattle.base_samples.specs.Le.{le_at}
use Rattle.base_samples.proofs.le.read_u64.Goals as goal

pub returns : goal.returns
unfolding le_at
returns c = simp add_assoc (omega arith)
