-- `put_block` meets its contract: before turn j the first i + j entries are stored.
use Rattle.std.proofs.Common.{◌+◌, ◌∙◌, arith}
use Rattle.filter_small.proofs.Sizes.{part-if}
use Rattle.filter_small.proofs.Pieces.{entry}
use Rattle.filter_cdf97f_forward.proofs.Ahead.{handed-at, splitting-at}
use Rattle.filter_cdf97f_forward.proofs.blocks.put_block.Goals as goal

pub put_at-requires-clause-carried : goal.put_at-requires-clause-carried
put_at-requires-clause-carried g c =
    let s = c.carry_at.ensures in
    handed-at c.loop-j.j _ c.requires.handed (omega arith) (omega arith) s.one s.two s.three

pub put_at-requires-clause-small_if : goal.put_at-requires-clause-small_if
put_at-requires-clause-small_if g c = part-if _ _ c.requires.small_if (omega arith) (omega arith)

pub put_at-requires-clause-i_in_bounds : goal.put_at-requires-clause-i_in_bounds
put_at-requires-clause-i_in_bounds g c =
    let j = c.loop-j.j in
    let third = entry g.F.Real.float c.args.rows.now.w c.index-rows-j.is (omega arith) in
    (omega arith, rw (← c.index-rows-j.is) (third ∙ c.requires.handed.three.each (j + 1) (c.args.i + j) (omega arith) (omega arith)))

pub loop-j-preserved : goal.loop-j-preserved
loop-j-preserved g c = splitting-at _ c.put_at.ensures (omega arith)
