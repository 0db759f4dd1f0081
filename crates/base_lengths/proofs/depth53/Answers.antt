-- `depth53` meets its contract: from 2 on, n - 1 has one digit more than n has levels.
use mathlib.Core.Path.{sym}
use native.Mathlib.Omega.{arith}
use Rattle.base_lengths.proofs.Depths.{too_short, depth-digits}
use Rattle.base_lengths.proofs.depth53.Goals as goal

pub returns-then-n-lt2 : goal.returns-then-n-lt2
returns-then-n-lt2 c = sym (too_short 3 (omega arith) c.args.n (omega arith))

pub returns-else-n-lt2 : goal.returns-else-n-lt2
returns-else-n-lt2 c = depth-digits 64 c.args.n (omega (arith, c.ranges.n))
