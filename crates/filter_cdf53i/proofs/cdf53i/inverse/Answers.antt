-- `inverse` meets its contract. The invariant: the first 2 i samples are restored, e is the word of the even one that comes next, and the two areas are as long as they were.
use Rattle.std.proofs.Common.{refl, arith}
use Rattle.base_samples.proofs.Fronts.{front-none}
use Rattle.filter_cdf53i.specs.Bands.{even_word}
use Rattle.filter_cdf53i.proofs.cdf53i.inverse.Goals as goal

pub loop-i-init : goal.loop-i-init
unfolding even_word
loop-i-init g c = (omega arith, refl, refl, record { front = front-none _ c.requires.input.samples; next = c.even_at-e.ensures })
