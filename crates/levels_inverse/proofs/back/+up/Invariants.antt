-- The levels back, from the deepest. The measure is the lengths left.
use lib.ListN.{length}
use Rattle.levels_inverse.proofs.back.+up.Given as goal

abbrev pub decreases-up : goal.decreases-up
decreases-up l = length l.lengths.now
