-- `count_at` meets its contract. The invariant: after so many levels, `count` approximations.
use mathlib.Core.Path.{refl}
use Rattle.base_lengths.specs.Levels.{after_levels}
use Rattle.base_lengths.proofs.Counts.{count_turn}
use Rattle.base_lengths.proofs.count_at.Goals as goal

pub loop-level-init : goal.loop-level-init
unfolding after_levels
loop-level-init c = refl

pub loop-level-preserved : goal.loop-level-preserved
loop-level-preserved c = count_turn _ _ _ _ c.loop-level.invariant c.approx_length-count.ensures
