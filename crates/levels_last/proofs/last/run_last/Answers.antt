-- `run_last` meets its contract: the signal's own level, and the levels below it. Looks into no filter.
use mathlib.Core.Path.{◌≡◌, ap, ◌∙◌}
use Prim.Native.Nat.{suc, ◌+◌, ◌-◌, ◌*◌}
use native.Mathlib.Omega.{arith}
use lib.Seq.{take_all}
use Rattle.levels_filter.specs.Filters.{width_of, low_of}
use Rattle.levels_filter.proofs.LastLevel.{parted-none, parted-more}
use Rattle.levels_filter.proofs.Rooms.{ready-room, room-below, level-at, bands-none, bands-more, kept-behind}
use Rattle.levels_last.proofs.last.run_last.Goals as goal

-- no level is above the last
pub forward-requires : goal.forward-requires
forward-requires c =
    let a = c.args in
    let r = c.requires.ready in
    let none : a.levels - 1 ≡ 0 = omega arith in
    level-at a.f (ready-room a.f r) r.some r.whole (bands-none a.f a.n none c.requires.bands_of)

-- some level is above the last
pub sink-requires-clause-room : goal.sink-requires-clause-room
sink-requires-clause-room c =
    let a = c.args in
    let r = ready-room a.f c.requires.ready in
    rw c.approx_length-half.ensures (room-below a.f r (a.levels - 2 + 1) (omega arith) (omega (arith, r.first, c.level_above.auto)) r.second)

pub sink-requires-clause-bands_of : goal.sink-requires-clause-bands_of
sink-requires-clause-bands_of c =
    let a = c.args in
    let e : a.levels - 1 ≡ suc (a.levels - 2) = omega arith in
    rw c.approx_length-half.ensures (bands-more a.f a.n e c.requires.bands_of)

pub returns-then-levels-eq1-clause-parted : goal.returns-then-levels-eq1-clause-parted
returns-then-levels-eq1-clause-parted c = let none : c.args.levels - 1 ≡ 0 = omega arith in parted-none c.args.f _ none c.forward.ensures

pub returns-else-levels-eq1-clause-parted : goal.returns-else-levels-eq1-clause-parted
returns-else-levels-eq1-clause-parted c =
    let a = c.args in
    let e : a.levels - 1 ≡ suc (a.levels - 2) = omega arith in
    let whole = take_all (width_of a.f * a.n) a.signal.now (omega (arith, c.requires.ready.whole)) in
    parted-more a.f a.signal.now e (c.level_above.ensures.to_after ∙ ap (low_of a.f) whole) (rw c.approx_length-half.ensures at c.sink.ensures.parted)

pub returns-else-levels-eq1-clause-one_unchanged : goal.returns-else-levels-eq1-clause-one_unchanged
returns-else-levels-eq1-clause-one_unchanged c = kept-behind _ _ _ _ c.approx_length-half.ensures c.sink.ensures.from_unchanged ∙ c.level_above.ensures.to_unchanged

pub returns-else-levels-eq1-clause-two_unchanged : goal.returns-else-levels-eq1-clause-two_unchanged
returns-else-levels-eq1-clause-two_unchanged c = kept-behind _ _ _ _ c.approx_length-half.ensures c.sink.ensures.to_unchanged
