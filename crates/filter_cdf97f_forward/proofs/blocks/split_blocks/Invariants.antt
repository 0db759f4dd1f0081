-- `split_blocks` meets its contract: the first i entries of the bands are stored, and s is what the blocks so far hand on.
use Prim.Native.Nat.{◌-◌, ◌≤◌}
use mathlib.Core.Path.{◌≡◌}
use Rattle.filter_floats.specs.Kinds.{set_of}
use Rattle.filter_cdf97f_forward.specs.Ahead.{Splitting, Carries}
use Rattle.filter_cdf97f_forward.proofs.blocks.split_blocks.Given as goal

abbrev pub invariant-loop-i : goal.invariant-loop-i
invariant-loop-i g l =
    let f = g.F.Real.format in
    let v = g.F.Real.float in
    (l.i-end ≡ l.last - 1) × (l.i ≤ l.last - 1) × Splitting l.both f (set_of v l.t) l.x l.a l.d l.i × Carries f v l.t l.x l.i l.s

abbrev pub decreases-loop-i : goal.decreases-loop-i
decreases-loop-i g l = l.i-end - l.i
