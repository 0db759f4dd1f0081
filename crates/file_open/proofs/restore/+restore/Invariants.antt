-- The proof of the cycle of calls {restore}. The measure is the levels. Looks into no filter.
use Rattle.file_open.proofs.restore.+restore.Given as goal

abbrev pub decreases-restore : goal.decreases-restore
decreases-restore l = l.levels
