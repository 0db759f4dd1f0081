-- `write_u64` meets its contract.
use mathlib.Core.Path.{◌∙◌}
use Rattle.base_samples.proofs.LeLaws.{stored_mid}
use Rattle.base_samples.proofs.le.write_u64.Goals as goal

pub returns : goal.returns
returns c = stored_mid 8 _ _ _ _ c.requires (c.copy_from_slice.ensures.after ∙ c.to_le_bytes.ensures)
