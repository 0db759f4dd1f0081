-- `get_number` meets its contract: the float is a NaN where its pattern is a NaN's.
use lib.Ieee.Bits.{nan_bits_is}
use Rattle.base_samples.specs.Floats.{float_at}
use Rattle.base_samples.proofs.floats.get_number.Goals as goal

pub of_number-requires : goal.of_number-requires
unfolding float_at
of_number-requires g c = rw (c.read.ensures, nan_bits_is) c.requires.number
