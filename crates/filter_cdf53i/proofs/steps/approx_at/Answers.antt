-- `approx_at` meets its contract: the words that it reads are those of the definition.
use Rattle.std.proofs.Common.{arith}
use Rattle.filter_cdf53i.proofs.WordTurns.{approx-made}
use Rattle.filter_cdf53i.proofs.steps.approx_at.Goals as goal

pub returns : goal.returns
returns g c =
    let a = c.args in
    approx-made g.met.S.Sample.width a.x.now a.d.now a.i a.left a.right (omega arith) (omega arith) (omega arith) (omega arith) (omega arith) c.get.ensures c.get-2.ensures c.get-3.ensures c.approx_of.ensures
