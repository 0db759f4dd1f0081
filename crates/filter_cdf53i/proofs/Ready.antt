-- What the checks leave is what the steps ask.
use Rattle.std.proofs.Common.{ℕ, ◌/◌, List, length}
use Rattle.base_lengths.specs.declared.Wavelet.TheVariants.{Cdf53}
use Rattle.base_lengths.specs.Lengths.{approx_length}
use Rattle.base_lengths.specs.Calls.{Level}
use Rattle.base_samples.specs.Words.{Holds}
use Rattle.base_samples.specs.Integers.{Width}
use Rattle.base_samples.proofs.Words.{holds}
use Rattle.filter_cdf53i.specs.Bands.{Input, InputBands}

-- of the samples and the approximations, whatever d bytes the details have
pub ready-low : {k n d : ℕ} {x a : List ℕ} → Width k → Level Cdf53 k n (length x) (length a) d → Input k x × Holds k (approx_length (length x / k)) a
ready-low {n = n} {x = x} {a = a} w l =
    let s = holds w.some x n l.samples in
    (record { long = rw s.count l.long; samples = rw s.count s }, rw s.count (holds w.some a _ l.approx))

pub ready : {k : ℕ} {x a d : List ℕ} → Width k → Level Cdf53 k (length x / k) (length x) (length a) (length d) → InputBands k x a d
ready {d = d} w l = let p = ready-low w l in record { input = p.0; approx = p.1; details = holds w.some d _ l.details }
