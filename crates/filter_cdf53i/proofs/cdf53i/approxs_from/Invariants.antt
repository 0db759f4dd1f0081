-- `approxs_from` meets its contract. The invariant: the approximations before i + j are stored.
use Rattle.std.proofs.Common.{◌+◌, ◌/◌, length}
use Rattle.base_lengths.specs.Lengths.{approx_length}
use Rattle.base_samples.specs.Words.{Front}
use Rattle.filter_cdf53i.specs.Bands.{approx_word}
use Rattle.filter_cdf53i.proofs.cdf53i.approxs_from.Given as goal

abbrev pub invariant-loop-j : goal.invariant-loop-j
invariant-loop-j g l = Front g.S.Sample.bytes (approx_length (length l.x / g.S.Sample.bytes)) (l.i + l.j) (approx_word g.S.Sample.bytes l.x) l.a
