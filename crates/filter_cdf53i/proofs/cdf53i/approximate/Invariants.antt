-- `approximate` meets its contract. The invariant: the first i approximations are stored, e is the word of the detail before the next one, and the area is as long as it was.
use Rattle.std.proofs.Common.{◌≡◌, ◌-◌, ◌≤◌, length}
use Rattle.filter_cdf53i.specs.Bands.{Approximating}
use Rattle.filter_cdf53i.proofs.cdf53i.approximate.Given as goal

abbrev pub invariant-loop-i : goal.invariant-loop-i
invariant-loop-i g l = (l.i ≤ l.last) × (length l.t ≡ 1028) × Approximating g.S.Sample.bytes l.x l.a l.i (g.S.Sample.word l.e)

abbrev pub decreases-loop-i : goal.decreases-loop-i
decreases-loop-i g l = l.last - l.i
