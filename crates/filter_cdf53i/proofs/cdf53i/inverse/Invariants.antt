-- `inverse` meets its contract. The invariant: the first 2 i samples are restored, e is the word of the even one that comes next, and the two areas are as long as they were.
use Rattle.std.proofs.Common.{◌≡◌, ◌-◌, ◌/◌, ◌≤◌, length}
use Rattle.filter_cdf53i.specs.Bands.{Restoring}
use Rattle.filter_cdf53i.proofs.cdf53i.inverse.Given as goal

abbrev pub invariant-loop-i : goal.invariant-loop-i
invariant-loop-i g l = (l.i ≤ l.last) × (length l.t ≡ 1028) × (length l.u ≡ 1024) × Restoring g.S.Sample.bytes (length l.initial.x / g.S.Sample.bytes) l.a l.d l.x l.i (g.S.Sample.word l.e)

abbrev pub decreases-loop-i : goal.decreases-loop-i
decreases-loop-i g l = l.last - l.i
