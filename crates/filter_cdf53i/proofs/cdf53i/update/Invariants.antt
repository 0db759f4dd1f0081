-- `update` meets its contract. The invariant: the first i approximations are stored, the first and the last, whose neighbours are mirrored, outside the loop.
use Rattle.std.proofs.Common.{◌/◌, ◌^◌, length}
use Rattle.base_lengths.specs.Lengths.{approx_length}
use Rattle.base_samples.specs.Words.{Front}
use Rattle.base_samples.specs.Integers.{residue, wrap, decode}
use Rattle.filter_cdf53i.specs.Lift.{approx}
use Rattle.filter_cdf53i.proofs.cdf53i.update.Given as goal

abbrev pub invariant-loop-i : goal.invariant-loop-i
invariant-loop-i g l = Front g.S.Sample.bytes (approx_length (length l.x / g.S.Sample.bytes)) l.i (λ j. residue (256 ^ g.S.Sample.bytes) (approx (wrap g.S.Sample.bytes) (decode g.S.Sample.bytes l.x) (decode g.S.Sample.bytes l.d) j)) l.a
