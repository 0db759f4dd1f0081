-- The proof of the cycle of calls {walk}. The measure is the levels.
use Rattle.file_open.proofs.walk.+walk.Given as goal

abbrev pub decreases-walk : goal.decreases-walk
decreases-walk l = l.levels
