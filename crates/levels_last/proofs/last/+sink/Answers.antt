-- The levels above the last, and the last. Looks into no filter.
use mathlib.Core.Path.{◌≡◌, ◌∙◌}
use Prim.Native.Nat.{suc, ◌+◌, ◌-◌}
use native.Mathlib.Omega.{arith}
use lib.ListN.{length, take}
use lib.Seq.{length-take-le}
use Rattle.levels_filter.specs.Filters.{width_of}
use Rattle.levels_filter.proofs.LastLevel.{parted-none, parted-more}
use Rattle.levels_filter.proofs.Rooms.{room-below, level-at, bands-none, bands-more, kept-behind}
use Rattle.levels_last.proofs.last.+sink.Goals as goal

-- the last level's samples are those that are lent
pub forward-requires : goal.forward-requires
forward-requires t c =
    let a = c.args in
    let read : length (take c.bytes_of-all.result a.from.now) ≡ c.bytes_of-all.result = length-take-le _ _ (omega arith) in
    level-at a.f c.requires.room (omega arith) (read ∙ c.bytes_of-all.ensures) (bands-none a.f a.n c.if-levels-eq0.true c.requires.bands_of)

-- some level is above the last
pub sink-requires : goal.sink-requires
sink-requires t c =
    let a = c.args in
    let r = c.requires.room in
    let e : a.levels ≡ suc (a.levels - 1) = omega arith in
    let half = c.approx_length-half.ensures in (
      omega (arith, e),
      (
        rw half (room-below a.f r (a.levels - 1 + 1) (omega (arith, e)) (omega (arith, r.second, c.level_above.auto)) r.first),
        rw half (bands-more a.f a.n e c.requires.bands_of),
      ),
    )

pub returns-then-levels-eq0-clause-parted : goal.returns-then-levels-eq0-clause-parted
returns-then-levels-eq0-clause-parted t c = parted-none c.args.f _ c.if-levels-eq0.true (rw c.bytes_of-all.ensures at c.forward.ensures)

pub returns-else-levels-eq0-clause-parted : goal.returns-else-levels-eq0-clause-parted
returns-else-levels-eq0-clause-parted t c =
    let a = c.args in
    let e : a.levels ≡ suc (a.levels - 1) = omega arith in
    parted-more a.f _ e c.level_above.ensures.to_after (rw c.approx_length-half.ensures at c.sink.ensures.parted)

-- the two areas change roles at each level
pub returns-else-levels-eq0-clause-from_unchanged : goal.returns-else-levels-eq0-clause-from_unchanged
returns-else-levels-eq0-clause-from_unchanged t c = kept-behind _ _ _ _ c.approx_length-half.ensures c.sink.ensures.to_unchanged

pub returns-else-levels-eq0-clause-to_unchanged : goal.returns-else-levels-eq0-clause-to_unchanged
returns-else-levels-eq0-clause-to_unchanged t c = kept-behind _ _ _ _ c.approx_length-half.ensures c.sink.ensures.from_unchanged ∙ c.level_above.ensures.to_unchanged
