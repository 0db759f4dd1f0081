-- `count_at` meets its contract. The invariant: after so many levels, `count` approximations.
use mathlib.Core.Path.{◌≡◌}
use Rattle.base_lengths.specs.Levels.{count_at}
use Rattle.base_lengths.proofs.count_at.Given as goal

abbrev pub invariant-loop-level : goal.invariant-loop-level
invariant-loop-level l = l.count ≡ count_at l._level l.n
