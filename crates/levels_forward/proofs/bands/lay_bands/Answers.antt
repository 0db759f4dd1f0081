-- `lay_bands` meets its contract: one level, and the levels below it. Looks into no filter.
use Prim.Native.Nat.{◌-◌}
use native.Mathlib.Omega.{arith}
use Rattle.levels_filter.specs.Filters.{width_of}
use Rattle.levels_filter.proofs.Rooms.{ready-room, room-below, kept-behind}
use Rattle.levels_forward.proofs.Laying.{laid_more, area-kept}
use Rattle.levels_forward.proofs.bands.lay_bands.Goals as goal

pub lay-requires-clause-room : goal.lay-requires-clause-room
lay-requires-clause-room c =
    let a = c.args in
    let r = c.requires.ready in
    rw c.approx_length-half.ensures (room-below a.f (ready-room a.f r) (a.levels - 1) (omega (arith, r.some)) (omega (arith, r.first, c.lay_level-at.auto)) r.second)

pub returns-clause-out_after : goal.returns-clause-out_after
returns-clause-out_after c = laid_more c.args.counted c.lay_level-at.ensures c.requires.ready.some c.requires.out_len _ (rw c.approx_length-half.ensures at c.lay.ensures.out_after)

pub returns-clause-one_unchanged : goal.returns-clause-one_unchanged
returns-clause-one_unchanged c = area-kept c.args.counted c.lay_level-at.ensures c.requires.ready.some c.requires.out_len _ (rw c.approx_length-half.ensures at c.lay.ensures.from_unchanged)

pub returns-clause-two_unchanged : goal.returns-clause-two_unchanged
returns-clause-two_unchanged c = kept-behind _ _ _ _ c.approx_length-half.ensures c.lay.ensures.to_unchanged
