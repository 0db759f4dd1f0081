-- `step` meets its contract: before turn j it has made the entries 1 to j.
use mathlib.Core.List.{map}
use mathlib.Core.Path.{◌≡◌}
use lib.ListN.{length}
use Rattle.filter_small.specs.Pieces.{Stepped}
use Rattle.filter_small.proofs.rows.step.Given as goal

abbrev pub invariant-loop-j : goal.invariant-loop-j
invariant-loop-j g l = (length l.r ≡ length l.initial.r) × Stepped g.F.Real.format (g.F.Real.float l.c) (map g.F.Real.float l.p) (map g.F.Real.float l.q) l.j (g.F.Real.float l.fn.e) (map g.F.Real.float l.fn.r) (map g.F.Real.float l.r)
