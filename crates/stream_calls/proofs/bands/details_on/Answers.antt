-- `details_on` meets its contract. The invariant: the first j details are stored.
use mathlib.Core.Path.{refl}
use native.Mathlib.Omega.{arith}
use Rattle.base_samples.proofs.Fronts.{front-none, front-more}
use Rattle.filter_cdf53i.specs.Bands.{detail_word}
use Rattle.stream_calls.proofs.bands.details_on.Goals as goal

pub loop-j-preserved : goal.loop-j-preserved
unfolding detail_word
loop-j-preserved g c =
    let lt = c.loop-j-test.true in
    front-more c.loop-j.invariant refl (omega arith) c.detail_at.ensures c.put.ensures

pub loop-j-init : goal.loop-j-init
loop-j-init g c = front-none _ c.requires.words
