-- `last` meets its contract: as many approximations as details, and one more.
use Rattle.std.proofs.Common.{◌+◌, ◌∙◌, arith}
use Rattle.filter_cdf97f_inverse.proofs.Back.{one-made, two_made, three_made, pair-by}
use Rattle.filter_cdf97f_inverse.proofs.blocks.last.Goals as goal

pub returns-then-count-j : goal.returns-then-count-j
returns-then-count-j g c =
    let i = c.args.i in
    let j = i + 1 in
    let v = c.requires.bands97 in
    let s = c.requires.carried in
    let two = c.lift-two.ensures ∙ two_made v j j (omega arith) (omega arith) s.one s.one c.times-y.ensures in
    let three = c.lift-three.ensures ∙ three_made v j i j (omega arith) (omega arith) (omega arith) s.two two s.one in
    pair-by j j (omega arith) (omega arith) two three three

pub returns : goal.returns
returns g c =
    let i = c.args.i in
    let j = i + 1 in
    let v = c.requires.bands97 in
    let s = c.requires.carried in
    let y = c.times-y.ensures in
    let one = c.lift-one.ensures ∙ one-made v (j + 1) j j (omega arith) (omega arith) (omega arith) y y c.times.ensures in
    let two = c.lift-two-2.ensures ∙ two_made v j (j + 1) (omega arith) (omega arith) s.one one y in
    let three = c.lift.ensures ∙ three_made v j i j (omega arith) (omega arith) (omega arith) s.two two s.one in
    pair-by j (j + 1) (omega arith) (omega arith) two three (c.lift-2.ensures ∙ three_made v (j + 1) j j (omega arith) (omega arith) (omega arith) two two one)
