-- The call of `odd_sample` is on one level less, which stands too.
use native.Mathlib.Omega.{arith}
use Rattle.file_sample.proofs.OneSample.{less}
use Rattle.file_sample.proofs.neighbours.+even_samples_odd_sample.Goals as goal

pub even_samples-odd_sample-t-requires : goal.even_samples-odd_sample-t-requires
even_samples-odd_sample-t-requires g t c =
    λ κs m. rw c.approx_length.ensures (omega (arith, c.decreases), (m, ((less c.args.levels (omega arith) c.requires.stands).1, omega arith)))
