-- `predict` meets its contract. The invariant: the first i details are stored. The last one, whose right neighbour may be mirrored, comes after the loop.
use Rattle.std.proofs.Common.{◌/◌, ◌^◌, length}
use Rattle.base_lengths.specs.Lengths.{details_length}
use Rattle.base_samples.specs.Words.{Front}
use Rattle.base_samples.specs.Integers.{residue, wrap, decode}
use Rattle.filter_cdf53i.specs.Lift.{detail}
use Rattle.filter_cdf53i.proofs.cdf53i.predict.Given as goal

abbrev pub invariant-loop-i : goal.invariant-loop-i
invariant-loop-i g l = Front g.S.Sample.bytes (details_length (length l.x / g.S.Sample.bytes)) l.i (λ j. residue (256 ^ g.S.Sample.bytes) (detail (wrap g.S.Sample.bytes) (decode g.S.Sample.bytes l.x) j)) l.d
