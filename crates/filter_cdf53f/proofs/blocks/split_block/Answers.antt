-- `split_block` meets its contract: the first p entries of the bands are stored.
use native.Mathlib.Omega.{arith}
use Rattle.filter_cdf53f.proofs.Ahead.{splitting-at}
use Rattle.filter_cdf53f.proofs.blocks.split_block.Goals as goal

pub returns : goal.returns
returns g c = splitting-at c.args.e c.loop-p.invariant.1 (omega arith)
