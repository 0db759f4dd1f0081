-- `details_on` meets its contract. The invariant: the first j details are stored.
use Prim.Native.Nat.{◌/◌}
use lib.ListN.{length}
use Rattle.base_samples.specs.Words.{Front}
use Rattle.filter_cdf53i.specs.Bands.{detail_word}
use Rattle.stream_calls.proofs.bands.details_on.Given as goal

abbrev pub invariant-loop-j : goal.invariant-loop-j
invariant-loop-j g l = Front g.S.Sample.bytes (length l.initial.d / g.S.Sample.bytes) l.j (detail_word g.S.Sample.bytes l.z) l.d
