-- `first` meets its contract: the left neighbours of the first place are mirrored.
use Rattle.std.proofs.Common.{◌∙◌, arith}
use Rattle.filter_cdf97f_inverse.proofs.Back.{one-made, two_made, three_made}
use Rattle.filter_cdf97f_inverse.proofs.blocks.first.Goals as goal

pub returns : goal.returns
returns g c =
    let v = c.requires in
    let y = c.times-y.ensures in
    let e = c.lift-e.ensures ∙ one-made v 0 0 0 (omega arith) (omega arith) (omega arith) y y c.times.ensures in
    let one = c.lift-one.ensures ∙ one-made v 1 0 1 (omega arith) (omega arith) (omega arith) y c.times-2.ensures c.times-3.ensures in
    let two = c.lift-two.ensures ∙ two_made v 0 1 (omega arith) (omega arith) e one y in
    record { one = one; two = two; three = c.lift-three.ensures ∙ three_made v 0 0 0 (omega arith) (omega arith) (omega arith) two two e }
