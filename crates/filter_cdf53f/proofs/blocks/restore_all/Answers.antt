-- `restore_all` meets its contract, block by block: the first 2 i samples are restored, and e is the even one that comes next.
use mathlib.Core.Path.{◌∙◌}
use native.Mathlib.Omega.{arith}
use Rattle.base_samples.proofs.Fronts.{front-none}
use Rattle.filter_cdf53f.proofs.RestoreTurns.{counts, even-made}
use Rattle.filter_cdf53f.proofs.blocks.restore_all.Goals as goal

pub loop-i-init : goal.loop-i-init
loop-i-init g c =
    let n = counts c.requires in
    let y = c.get-y.ensures in
    (omega arith, record { front = front-none _ c.requires.samples; next = c.even_sample-e.ensures ∙ even-made c.requires 0 0 0 (omega arith) (omega arith) (omega arith) y y c.get.ensures })
