-- `step` meets its contract: before turn j it has made the entries 1 to j.
use mathlib.Core.Path.{refl, ◌∙◌}
use native.Mathlib.Omega.{arith}
use lib.ListN.{length-set}
use Rattle.filter_small.proofs.Pieces.{entry, stepped-none, stepped-more}
use Rattle.filter_small.proofs.rows.step.Goals as goal

pub loop-j-init : goal.loop-j-init
loop-j-init g c = (refl, stepped-none g.F.Real.float _ _ (omega arith))

pub loop-j-preserved : goal.loop-j-preserved
loop-j-preserved g c =
    let v = g.F.Real.float in
    let a = c.args in
    let l = c.loop-j in
    let made = entry v a.p.now c.index-p-j.is (omega arith) in
    let right = entry v a.p.now c.index-p-j-in-loop-j.is (omega arith) in
    let below = entry v a.q.now c.index-q-j.is (omega arith) in
    (length-set l.r _ _ ∙ l.invariant.0, stepped-more v l.r _ l.invariant.1 (omega (arith, length-set a.r.now 0 a.e)) (rw (← made, ← right, ← below) c.lift.ensures))
