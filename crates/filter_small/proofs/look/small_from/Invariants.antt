-- `small_from` meets its contract: the invariant says it of the floats before p, if what was seen is below the top.
use Prim.Native.Nat.{◌<◌}
use lib.Ieee.{top}
use Rattle.filter_small.specs.Small.{SmallFrom}
use Rattle.filter_small.proofs.look.small_from.Given as goal

abbrev pub invariant-loop-p : goal.invariant-loop-p
invariant-loop-p g l = g.F.Real.word l.seen < top g.F.Real.format → SmallFrom g.F.Real.format l.s l.i l.p
