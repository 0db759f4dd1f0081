-- `restore_all` meets its contract: before a block the first 2 i samples are restored, and s is what its first turn is handed.
use Prim.Native.Nat.{◌-◌, ◌≤◌}
use Rattle.filter_floats.specs.Kinds.{set_of}
use Rattle.filter_cdf97f_inverse.specs.Back.{Carries, Restoring}
use Rattle.filter_cdf97f_inverse.proofs.blocks.restore_all.Given as goal

abbrev pub invariant-loop-i : goal.invariant-loop-i
invariant-loop-i g l =
    let f = g.F.Real.format in
    let v = g.F.Real.float in
    (l.i ≤ l.last) × Restoring f (set_of v l.t) l.a l.d l.x l.i × Carries f v l.t l.a l.d l.i l.s

abbrev pub decreases-loop-i : goal.decreases-loop-i
decreases-loop-i g l = l.last - l.i
