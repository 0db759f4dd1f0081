-- The records gone through are at most the bytes gone through, and those that differ at most the records. The measure is what is left of the list.
use Rattle.std.proofs.Common.{length, ◌≤◌, ◌-◌}
use Rattle.app_oracle.proofs.replay_all.Given as goal

abbrev pub invariant-loop-at : goal.invariant-loop-at
invariant-loop-at l = (l.at ≤ length l.s) × (l.tally.records ≤ l.at) × (l.tally.differ ≤ l.tally.records)

abbrev pub decreases-loop-at : goal.decreases-loop-at
decreases-loop-at l = length l.s - l.at
