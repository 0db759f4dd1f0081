-- `approxs_on` meets its contract. The invariant: the first j approximations are stored.
use mathlib.Core.Path.{refl, ◌∙◌}
use native.Mathlib.Omega.{arith}
use Rattle.base_samples.proofs.Fronts.{front-none, front-more}
use Rattle.stream_calls.specs.Loops.{approx_among}
use Rattle.stream_calls.proofs.bands.approxs_on.Goals as goal

pub loop-j-preserved : goal.loop-j-preserved
unfolding approx_among
loop-j-preserved g c =
    let lt = c.loop-j-test.true in
    let words = c.approx_of in
    front-more c.loop-j.invariant refl (omega arith)
    (words.ensures ∙ rw (c.get.ensures, c.get-in-loop-j.ensures, c.get-in-loop-j-2.ensures))
    c.put.ensures

pub loop-j-init : goal.loop-j-init
loop-j-init g c = front-none _ c.requires.0.words
