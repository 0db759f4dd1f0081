-- `odds_from` meets its contract. The invariant: the first j odd samples of the block are stored.
use Rattle.std.proofs.Common.{◌/◌, length}
use Rattle.base_samples.specs.Words.{Front}
use Rattle.filter_cdf53i.specs.Bands.{odds_from}
use Rattle.filter_cdf53i.proofs.cdf53i.odds_from.Given as goal

abbrev pub invariant-loop-j : goal.invariant-loop-j
invariant-loop-j g l = Front g.S.Sample.bytes (length l.initial.u / g.S.Sample.bytes) l.j (odds_from g.S.Sample.bytes l.a l.d l.i) l.u
