-- The levels below one. Looks into no filter.
use mathlib.Core.Path.{sym, ap, ◌∙◌}
use Prim.Native.Nat.{ℕ, ◌-◌, ◌<◌}
use native.Mathlib.Omega.{arith}
use lib.ListN.{take}
use Rattle.levels_filter.specs.Filters.{width_of}
use Rattle.levels_filter.specs.Pyramids.{count_size, laid_out}
use Rattle.levels_filter.proofs.Rooms.{room-below, kept-behind}
use Rattle.levels_forward.proofs.Laying.{laid_none, size_below, laid_more, area-kept}
use Rattle.levels_forward.proofs.bands.+lay.Goals as goal

-- the levels below a level have their part of the output
pub lay-requires : goal.lay-requires
lay-requires t c =
    let a = c.args in
    let r = c.requires.room in
    let lv = c.lay_level-at in
    let p : 0 < a.levels = omega (arith, c.if-levels-eq0.false) in
    let half = c.approx_length-half.ensures in (
      omega (arith, p),
      (
        rw half (room-below a.f r (a.levels - 1) (omega (arith, p)) (omega (arith, r, lv.auto)) (omega (arith, r, lv.auto))),
        rw half (size_below a.counted lv.ensures p c.requires.out_len lv.auto.out),
      ),
    )

pub returns-then-levels-eq0-clause-out_after : goal.returns-then-levels-eq0-clause-out_after
returns-then-levels-eq0-clause-out_after t c =
    let a = c.args in
    let k = count_size a.counted in
    c.lay_deepest.ensures
    ∙ sym (laid_none a.f k a.levels a.n (take c.bytes_of-all.result a.from.now) c.if-levels-eq0.true)
    ∙ ap (λ (i : ℕ). laid_out a.f k a.levels a.n (take i a.from.now)) c.bytes_of-all.ensures

pub returns-else-levels-eq0-clause-out_after : goal.returns-else-levels-eq0-clause-out_after
returns-else-levels-eq0-clause-out_after t c =
    let a = c.args in
    let p : 0 < a.levels = omega (arith, c.if-levels-eq0.false) in
    laid_more a.counted c.lay_level-at.ensures p c.requires.out_len _ (rw c.approx_length-half.ensures at c.lay.ensures.out_after)
    ∙ ap (λ (i : ℕ). laid_out a.f (count_size a.counted) a.levels a.n (take i a.from.now)) c.bytes_of-all.ensures

-- the two areas change roles at each level
pub returns-else-levels-eq0-clause-from_unchanged : goal.returns-else-levels-eq0-clause-from_unchanged
returns-else-levels-eq0-clause-from_unchanged t c = kept-behind _ _ _ _ c.approx_length-half.ensures c.lay.ensures.to_unchanged

pub returns-else-levels-eq0-clause-to_unchanged : goal.returns-else-levels-eq0-clause-to_unchanged
returns-else-levels-eq0-clause-to_unchanged t c =
    let p : 0 < c.args.levels = omega (arith, c.if-levels-eq0.false) in
    area-kept c.args.counted c.lay_level-at.ensures p c.requires.out_len _ (rw c.approx_length-half.ensures at c.lay.ensures.from_unchanged)
