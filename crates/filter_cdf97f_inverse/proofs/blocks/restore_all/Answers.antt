-- `restore_all` meets its contract: before a block the first 2 i samples are restored, and s is what its first turn is handed.
use Rattle.std.proofs.Common.{arith}
use Rattle.filter_cdf97f_inverse.proofs.Back.{carried-at}
use Rattle.filter_cdf97f_inverse.proofs.blocks.restore_all.Goals as goal
use Rattle.filter_cdf97f_inverse.proofs.blocks.restore_all.Goals.{else-loop-i-test, then-loop-i-test+else-last-i-gt256}

pub restore_end-requires-clause-carried : goal.restore_end-requires-clause-carried
restore_end-requires-clause-carried g c =
    elim c.loop-i-test.branch [
      | else-loop-i-test w ↦ rw w.s-is (carried-at _ c.loop-i.invariant.2 (omega arith))
      | then-loop-i-test+else-last-i-gt256 w ↦ rw w.s-is (carried-at _ w.restore_block-s.ensures.carried_2 (omega arith))
    ]
