-- `forward` meets its contract: the details that the update reads are those that were stored.
use Rattle.std.proofs.Common.{◌∙◌}
use Rattle.base_samples.specs.Integers.{decode}
use Rattle.filter_cdf53i.specs.Lift.{approxs}
use Rattle.filter_cdf53i.specs.Bands.{low, high}
use Rattle.filter_cdf53i.proofs.Round.{stored-details}
use Rattle.filter_cdf53i.proofs.cdf53i.forward.Goals as goal

pub returns : goal.returns
unfolding low high approxs
returns g c =
    let a = c.args in
    let w = g.met.S.Sample.width in
    (c.update.ensures ∙ rw (c.predict.ensures, stored-details w (decode g.S.Sample.bytes a.x.now)), c.predict.ensures)
