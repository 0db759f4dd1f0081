-- `write` meets its contract: four numbers, one after the other, are all that 16 bytes hold.
use mathlib.Core.List.{[], ◌∷◌}
use mathlib.Core.Path.{refl}
use native.Mathlib.Omega.{arith}
use lib.ListN.{get_or}
use Rattle.base_samples.specs.Words.{tabulate, put_at}
use Rattle.base_samples.proofs.Words.{holds}
use Rattle.base_samples.proofs.Fronts.{front-none, front-more, front-all}
use Rattle.stream_calls.specs.StateBytes.{state_bytes}
use Rattle.stream_calls.proofs.state.write.Goals as goal

pub returns : goal.returns
unfolding state_bytes tabulate put_at
returns c =
    let s = c.args.s in
    let none = front-none {k = 4} (λ i. get_or (s.total ∷ s.even ∷ s.odd ∷ s.detail ∷ []) i 0) (holds (omega arith) c.args.b.now 4 c.requires) in
    let one = front-more none refl (omega arith) refl c.write_u32.ensures in
    let two = front-more one refl (omega arith) refl c.write_u32-2.ensures in
    let three = front-more two refl (omega arith) refl c.write_u32-3.ensures in
    front-all 4 (front-more three refl (omega arith) refl c.write_u32-4.ensures) refl refl
