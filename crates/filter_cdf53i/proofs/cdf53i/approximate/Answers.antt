-- `approximate` meets its contract. The invariant: the first i approximations are stored, e is the word of the detail before the next one, and the area is as long as it was.
use Rattle.std.proofs.Common.{refl, arith}
use Rattle.base_samples.proofs.Fronts.{front-none}
use Rattle.filter_cdf53i.specs.Bands.{detail_word}
use Rattle.filter_cdf53i.proofs.cdf53i.approximate.Goals as goal

pub loop-i-init : goal.loop-i-init
unfolding detail_word
loop-i-init g c = (omega arith, refl, record { front = front-none _ c.requires.holds; left = c.detail_at-e.ensures })
