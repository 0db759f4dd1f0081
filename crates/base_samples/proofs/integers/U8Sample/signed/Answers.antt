-- `signed` meets its contract: the word's bits, read as a signed number.
use mathlib.Core.Path.{refl}
use native.Mathlib.Nat.{mod-eq_of_lt}
use borrow.Author.Rules.{rules}
use mir.Syntax.{w8}
use Rattle.base_samples.proofs.Signs.{widened}
use Rattle.base_samples.proofs.integers.U8Sample.signed.Goals as goal

pub returns : goal.returns
returns c = rw (mod-eq_of_lt c.ranges.self.fits) (widened w8 1 _ _ _ refl refl c.ranges.self c.cast_signed.ensures c.from.ensures (search rules))
