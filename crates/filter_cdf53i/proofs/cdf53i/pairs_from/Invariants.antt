-- `pairs_from` meets its contract. The invariant: the samples before pair i + j are restored.
use Rattle.std.proofs.Common.{◌+◌, ◌*◌, ◌/◌, length}
use Rattle.base_samples.specs.Words.{Front}
use Rattle.filter_cdf53i.specs.Bands.{sample_word}
use Rattle.filter_cdf53i.proofs.cdf53i.pairs_from.Given as goal

abbrev pub invariant-loop-j : goal.invariant-loop-j
invariant-loop-j g l = Front g.S.Sample.bytes (length l.initial.x / g.S.Sample.bytes) (2 * (l.i + l.j)) (sample_word g.S.Sample.bytes l.a l.d) l.x
