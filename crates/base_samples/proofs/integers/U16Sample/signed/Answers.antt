-- `signed` meets its contract: the word's bits, read as a signed number.
use mathlib.Core.Path.{refl}
use native.Mathlib.Nat.{mod-eq_of_lt}
use borrow.Author.Rules.{rules}
use mir.Syntax.{w16}
use Rattle.base_samples.proofs.Signs.{widened}
use Rattle.base_samples.proofs.integers.U16Sample.signed.Goals as goal

pub returns : goal.returns
returns c = rw (mod-eq_of_lt c.ranges.self.fits) (widened w16 2 _ _ _ refl refl c.ranges.self c.cast_signed.ensures c.from.ensures (search rules))
