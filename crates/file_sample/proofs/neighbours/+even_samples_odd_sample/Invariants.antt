-- The cycle of `even_samples` and `odd_sample`: each is the other, and a function that is in no cycle. The measure: twice the levels left, and one more for an odd
-- sample.
use Prim.Native.Nat.{◌+◌, ◌*◌}
use Rattle.file_sample.proofs.neighbours.+even_samples_odd_sample.Given as goal

abbrev pub decreases-even_samples : goal.decreases-even_samples
decreases-even_samples g l = 2 * l.levels

abbrev pub decreases-odd_sample : goal.decreases-odd_sample
decreases-odd_sample g l = 2 * l.levels + 1
