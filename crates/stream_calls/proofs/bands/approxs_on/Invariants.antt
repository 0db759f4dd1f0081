-- `approxs_on` meets its contract. The invariant: the first j approximations are stored.
use Prim.Native.Nat.{◌/◌}
use lib.ListN.{length}
use Rattle.base_samples.specs.Words.{Front}
use Rattle.stream_calls.specs.Loops.{approx_among}
use Rattle.stream_calls.proofs.bands.approxs_on.Given as goal

abbrev pub invariant-loop-j : goal.invariant-loop-j
invariant-loop-j g l = Front g.S.Sample.bytes (length l.initial.a / g.S.Sample.bytes) l.j (approx_among g.S.Sample.bytes l.z l.d) l.a
