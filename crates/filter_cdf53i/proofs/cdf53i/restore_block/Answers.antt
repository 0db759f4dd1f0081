-- `restore_block` meets its contract: evens, odds and pairs, one after the other.
use Rattle.std.proofs.Common.{◌∙◌, arith}
use Rattle.filter_cdf53i.proofs.WordTurns.{evens-read}
use Rattle.filter_cdf53i.proofs.cdf53i.restore_block.Goals as goal

pub returns : goal.returns
returns g c =
    record {
      front = c.pairs_from.ensures;
      next = c.get.ensures ∙ evens-read g.met.S.Sample.width c.args.a.now c.args.d.now c.args.i c.args.n c.evens_from.ensures (omega arith);
    }
