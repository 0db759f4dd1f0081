-- `level_above` meets its contract: the front of `to` comes back as the approximations. Looks into no filter.
use mathlib.Core.Path.{◌≡◌, ◌∙◌}
use Prim.Native.Nat.{◌*◌}
use native.Mathlib.Omega.{arith}
use lib.ListN.{length, take}
use lib.Seq.{length-take-le}
use Rattle.levels_filter.specs.Filters.{width_of}
use Rattle.levels_filter.proofs.Lists.{put_front}
use Rattle.levels_filter.proofs.Rooms.{low-at}
use Rattle.levels_last.proofs.last.level_above.Goals as goal

-- the two parts that are lent
pub approximate-requires : goal.approximate-requires
approximate-requires c =
    let a = c.args in
    let read : length (take c.bytes_of-all.result a.from.now) ≡ c.bytes_of-all.result = length-take-le _ _ (omega arith) in
    let written : length (take c.cut_of-cut.result a.to.now) ≡ c.cut_of-cut.result = length-take-le _ _ (omega arith) in
    low-at _ c.requires (omega arith) (read ∙ c.bytes_of-all.ensures) (written ∙ c.cut_of-cut.ensures.place)
