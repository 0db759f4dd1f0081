-- `split_block` meets its contract: the first p entries of the bands are stored.
use mathlib.Core.Path.{◌≡◌}
use lib.ListN.{length}
use Rattle.filter_cdf53f.specs.Ahead.{Splitting}
use Rattle.filter_cdf53f.proofs.blocks.split_block.Given as goal

abbrev pub invariant-loop-p : goal.invariant-loop-p
invariant-loop-p g l = (length l.d ≡ length l.initial.d) × Splitting l.both g.F.Real.format l.x l.a l.d l.p (g.F.Real.float l.s.here) (g.F.Real.float l.s.left)
