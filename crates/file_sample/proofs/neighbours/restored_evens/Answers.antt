-- `restored_evens` meets its contract: two samples of the level below are chosen, and each is lifted by two details.
use native.Mathlib.Omega.{arith}
use Rattle.std.proofs.lemmas.Grind.{common_steps}
use Rattle.file_sample.proofs.OneSample.{less, last_fits, chosen_are, even_lifted}
use Rattle.file_sample.proofs.neighbours.restored_evens.Goals as goal

pub even_in-requires : goal.even_in-requires
even_in-requires g c =
    let a = c.args in
    let q = c.requires in
    grind (arith, less a.levels q.le_levels.0 q.stands, last_fits a.levels q.le_levels.0 q.stands)

pub even_in-requires-2 : goal.even_in-requires-2
even_in-requires-2 g c =
    let a = c.args in
    let q = c.requires in
    grind (arith, less a.levels q.le_levels.0 q.stands, last_fits a.levels q.le_levels.0 q.stands)

pub returns : goal.returns
returns g c =
    let a = c.args in
    let q = c.requires in
    let p = chosen_are a.r (omega arith) (omega arith) q.around_of c.chosen-x.ensures in
    grind (arith, common_steps, even_lifted, p)
