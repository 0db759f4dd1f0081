-- `lay_file` meets its contract: the head, and the bands from there on. Looks into no filter.
use mathlib.Core.Path.{◌≡◌}
use Prim.Native.Nat.{◌-◌}
use native.Mathlib.Omega.{arith}
use Rattle.levels_filter.specs.Filters.{width_of}
use Rattle.file_open.specs.Files.{new_size, body_size}
use Rattle.file_open.proofs.Writing.{file-laid}
use Rattle.file_write.proofs.write.lay_file.Goals as goal

pub returns-clause-file_after : goal.returns-clause-file_after
returns-clause-file_after c =
    let a = c.args in
    let size = c.file_size-end in
    let m : size.result - new_size ≡ body_size (width_of a.f) a.levels a.n = omega (arith, size.ensures) in
    file-laid a.f a.levels a.n a.point a.rate (size.result - new_size) a.signal.now a.file.now c.lay_head.new.file c.lay_bands.new.out c.requires.rate_nonzero c.requires.ready.whole m (rw c.width.ensures.0 at c.lay_head.ensures)
    c.lay_bands.ensures.out_after
