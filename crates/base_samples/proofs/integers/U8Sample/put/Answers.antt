-- `put` meets its contract: a word of one byte is that byte.
use native.Mathlib.Nat.{one-mul, mod-eq_of_lt}
use Rattle.base_samples.specs.Le.{stored, le_bytes}
use Rattle.base_samples.specs.Words.{put_at}
use Rattle.base_samples.proofs.integers.U8Sample.put.Goals as goal

pub returns : goal.returns
unfolding put_at stored le_bytes
returns c = rw (one-mul, mod-eq_of_lt c.ranges.v.fits, mod-eq_of_lt c.ranges.v.fits)
