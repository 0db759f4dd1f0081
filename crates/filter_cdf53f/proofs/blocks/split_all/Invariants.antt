-- `split_all` meets its contract, block by block: the first i entries of the bands are stored.
use mathlib.Core.Path.{◌≡◌}
use Prim.Native.Nat.{◌-◌, ◌≤◌}
use lib.ListN.{length}
use Rattle.filter_cdf53f.specs.Ahead.{Splitting}
use Rattle.filter_cdf53f.proofs.blocks.split_all.Given as goal

abbrev pub invariant-loop-i : goal.invariant-loop-i
invariant-loop-i g l = (l.i ≤ l.last) × (length l.d ≡ length l.initial.d) × Splitting l.both g.F.Real.format l.x l.a l.d l.i (g.F.Real.float l.s.here) (g.F.Real.float l.s.left)

abbrev pub decreases-loop-i : goal.decreases-loop-i
decreases-loop-i g l = l.last - l.i
