-- `restore_end` meets its contract: two pairs, and one sample more or none.
use Rattle.std.proofs.Common.{◌+◌, arith}
use Rattle.filter_cdf97f_inverse.proofs.Back.{next-at, restored-all, restored-last}
use Rattle.filter_cdf97f_inverse.proofs.blocks.restore_end.Goals as goal

pub returns-then-j-count : goal.returns-then-j-count
returns-then-j-count g c =
    let k = c.args.i + 1 + 1 in
    restored-last c.requires.bands97 k c.put_pair-2.ensures (omega arith) (next-at k c.last-end.ensures (omega arith)) c.put.ensures

pub returns-else-j-count : goal.returns-else-j-count
returns-else-j-count g c = restored-all c.requires.bands97 (c.args.i + 1 + 1) c.put_pair-2.ensures (omega arith)
