-- The levels above the last, and the last. The measure is the levels left.
use Rattle.levels_last.proofs.last.+sink.Given as goal

abbrev pub decreases-sink : goal.decreases-sink
decreases-sink l = l.levels
