-- `evens_from` meets its contract. The invariant: the first j + 1 even samples of the block are stored.
use Rattle.std.proofs.Common.{◌+◌, ◌/◌, length}
use Rattle.base_samples.specs.Words.{Front}
use Rattle.filter_cdf53i.specs.Bands.{evens_from}
use Rattle.filter_cdf53i.proofs.cdf53i.evens_from.Given as goal

abbrev pub invariant-loop-j : goal.invariant-loop-j
invariant-loop-j g l = Front g.S.Sample.bytes (length l.fn.t / g.S.Sample.bytes) (l.j + 1) (evens_from g.S.Sample.bytes l.a l.d l.i) l.t
