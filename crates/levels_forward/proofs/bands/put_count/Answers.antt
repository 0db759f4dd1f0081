-- `put_count` meets its contract: four bytes, or none.
use mathlib.Core.Path.{◌≡◌, sym, ap, ◌∙◌}
use Prim.Native.Nat.{ℕ}
use native.Mathlib.Omega.{arith}
use Rattle.base_samples.specs.Le.{stored}
use Rattle.levels_filter.specs.Pyramids.{count_size}
use Rattle.levels_forward.proofs.Laying.{stored-none}
use Rattle.levels_forward.proofs.bands.put_count.Goals as goal

pub returns : goal.returns
returns c =
    let a = c.args in
    let s : count_size a.counted ≡ 0 = ap count_size c.if-counted.false in
    (omega (arith, s), sym (ap (λ (k : ℕ). stored k a.out.now a.at a.n) s ∙ stored-none a.out.now a.at a.n))
