-- `read_times` meets its contract: before turn j there are j entries.
use mathlib.Core.List.{map}
use Rattle.filter_small.specs.Pieces.{Piece}
use Rattle.filter_cdf97f_inverse.specs.Back.{times_of}
use Rattle.filter_cdf97f_inverse.proofs.blocks.read_times.Given as goal

abbrev pub invariant-loop-j : goal.invariant-loop-j
invariant-loop-j g l = Piece (times_of g.F.Real.format (g.F.Real.float l.k) l.s) 0 l.i l.j (map g.F.Real.float l.y)
