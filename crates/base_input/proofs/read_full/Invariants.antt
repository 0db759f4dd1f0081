-- What has been read lies in the buffer.
use Rattle.std.proofs.Common.{length, ◌≤◌}
use Rattle.base_input.proofs.read_full.Given as goal

abbrev pub invariant-loop : goal.invariant-loop
invariant-loop g l = l.n ≤ length l.buf
