-- `lay_deepest` meets its contract: a count, and a copy after it.
use mathlib.Core.List.{List, ◌++◌}
use mathlib.Core.Path.{◌∙◌, ap}
use Prim.Native.Nat.{ℕ}
use native.Mathlib.Omega.{arith}
use Rattle.base_samples.specs.Le.{le_bytes}
use Rattle.levels_filter.specs.Pyramids.{count_size}
use Rattle.levels_forward.proofs.Laying.{count-laid}
use Rattle.levels_forward.proofs.bands.lay_deepest.Goals as goal

pub returns : goal.returns
returns c =
    let a = c.args in
    let k = count_size a.counted in
    let pc = c.put_count-start in
    count-laid k a.out.now pc.new.out c.copy_from_slice.new.self 0 a.n pc.result pc.ensures.0 (omega (arith, c.requires)) pc.ensures.1
    ∙ ap (λ (l : List ℕ). le_bytes k a.n ++ l) c.copy_from_slice.ensures.after
