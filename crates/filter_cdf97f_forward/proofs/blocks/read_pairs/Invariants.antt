-- `read_pairs` meets its contract: before turn j there are j entries of each.
use mathlib.Core.List.{map}
use Rattle.filter_small.specs.Lists.{even_in, odd_in}
use Rattle.filter_small.specs.Pieces.{Piece}
use Rattle.filter_cdf97f_forward.proofs.blocks.read_pairs.Given as goal

abbrev pub invariant-loop-j : goal.invariant-loop-j
invariant-loop-j g l =
    let f = g.F.Real.format in
    let v = g.F.Real.float in
    Piece (even_in f l.x) 0 l.i l.j (map v l.rows.y) × Piece (odd_in f l.x) 0 l.i l.j (map v l.rows.z)
