-- The levels below one. The measure is the levels left.
use Rattle.levels_forward.proofs.bands.+lay.Given as goal

abbrev pub decreases-lay : goal.decreases-lay
decreases-lay l = l.levels
