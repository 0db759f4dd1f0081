-- `put_pairs` meets its contract: before turn j the first 2 (i + j) samples are restored.
use Rattle.std.proofs.Common.{◌+◌, ◌∙◌, arith}
use Rattle.filter_small.proofs.Pieces.{entry}
use Rattle.filter_cdf97f_inverse.proofs.Back.{pair-by}
use Rattle.filter_cdf97f_inverse.proofs.blocks.put_pairs.Goals as goal

pub put_pair-requires-clause-pair : goal.put_pair-requires-clause-pair
put_pair-requires-clause-pair g c =
    let v = g.F.Real.float in
    let rows = c.args.rows.now in
    let p = c.requires in
    let j = c.loop-j.j in
    let i = c.args.i + j in
    let two = entry v rows.v c.index-rows-j.is (omega arith) in
    let three = entry v rows.w c.index-rows-j-in-loop-j.is (omega arith) in
    let next = entry v rows.w c.index-rows-j-in-loop-j-2.is (omega arith) in
    rw (← c.index-rows-j.is, ← c.index-rows-j-in-loop-j.is, ← c.index-rows-j-in-loop-j-2.is)
    (pair-by i (i + 1) (omega arith) (omega (arith, p.bands97)) (two ∙ p.piece.each j i (omega arith) (omega arith)) (three ∙ p.piece_2.each j i (omega arith) (omega arith)) (next ∙ p.piece_2.each (j + 1) (i + 1) (omega arith) (omega arith)))
