-- `halvings` meets its contract. The invariant: the levels counted and the depth of what is left are the depth of n. The measure is what is left.
use mathlib.Core.Path.{◌∙◌, ap}
use native.Mathlib.Omega.{arith}
use Rattle.base_lengths.specs.Levels.{depth_from}
use Rattle.base_lengths.proofs.Depths.{depth-turn, depth-end}
use Rattle.base_lengths.proofs.halvings.Goals as goal

pub loop-left-preserved : goal.loop-left-preserved
loop-left-preserved c =
    let l = c.loop-left in
    let e = c.approx_length-left.ensures in
    (l.invariant.0, rw e (depth-turn _ l.invariant.0 _ _ _ l.invariant.1 c.loop-left-test.true), omega (arith, e, l.invariant, c.loop-left-test.true))

pub returns : goal.returns
returns c = let l = c.loop-left in depth-end _ l.invariant.0 _ _ _ l.invariant.1 c.loop-left-test.false ∙ ap (λ m. depth_from m c.args.n) c.smallest-m.ensures
