-- `detail_at` meets its contract: the words that it reads are those of the definition.
use Rattle.std.proofs.Common.{arith}
use Rattle.filter_cdf53i.proofs.WordTurns.{detail-made}
use Rattle.filter_cdf53i.proofs.steps.detail_at.Goals as goal

pub returns : goal.returns
returns g c =
    let a = c.args in
    detail-made g.met.S.Sample.width a.x.now a.i a.next (omega arith) (omega arith) c.get.ensures c.get-2.ensures c.get-3.ensures c.detail_of.ensures
