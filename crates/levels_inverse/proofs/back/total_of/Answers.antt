-- `total_of` meets its contract. The invariant: what is added up, and what is left.
use mathlib.Core.Path.{◌∙◌, ap}
use native.Mathlib.Omega.{arith}
use lib.ListN.{length, length-append}
use Rattle.levels_inverse.proofs.Lengths.{next_total, no_total}
use Rattle.levels_inverse.proofs.back.total_of.Goals as goal

pub loop-word-preserved : goal.loop-word-preserved
loop-word-preserved c =
    let l = c.loop-word in
    let s = c.in-Some.ensures.steps in
    let four = s.1.1 ∙ l.invariant.0 in
    let t = next_total _ _ s.1.0 four in
    let n = simp length-append at (ap length s.1.0) in
    (s.0 ∙ l.invariant.0, omega (arith, l.invariant, t, c.read_u32.ensures), omega (arith, l.invariant, n, four))

pub returns : goal.returns
returns c = let s = c.in-None.ensures.steps in omega (arith, c.loop-word.invariant, no_total c.loop-word.word-iterator.rest.now (omega (arith, s, c.loop-word.invariant)))
