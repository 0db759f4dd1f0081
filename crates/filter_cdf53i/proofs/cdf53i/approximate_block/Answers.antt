-- `approximate_block` meets its contract: details, then approximations.
use Rattle.std.proofs.Common.{◌∙◌, arith}
use Rattle.filter_cdf53i.proofs.WordTurns.{details-read}
use Rattle.filter_cdf53i.proofs.cdf53i.approximate_block.Goals as goal

pub returns : goal.returns
returns g c =
    record {
      front = c.approxs_from.ensures;
      left = c.get.ensures ∙ details-read g.met.S.Sample.width c.args.x.now c.args.i c.args.n c.details_from.ensures (omega arith);
    }
