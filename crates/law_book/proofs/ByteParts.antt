-- Lists of bytes: parts of one, zeros, and the bytes of a number.
use mathlib.Core.List.{List, ◌++◌}
use mathlib.Core.Path.{◌≡◌, refl, subst}
use Prim.Native.Nat.{ℕ, zero, suc}
use native.Mathlib.Omega.{arith}
use lib.ListN.{length, get_or, replicate}
use lib.Seq.{take-append_seam, drop-append_seam}
use Rattle.base_samples.specs.Le.{le_bytes, Bytes}
use Rattle.base_samples.proofs.LeLaws.{bytes-le_bytes}
use Rattle.law_levels.proofs.Undone.{bytes_take, bytes_drop}

-- both of two
pub bytes-parts : (s t : List ℕ) → Bytes (s ++ t) → Bytes s × Bytes t
bytes-parts s t h =
    (subst Bytes (take-append_seam s t) (bytes_take (length s) (s ++ t) h), subst Bytes (drop-append_seam s t) (bytes_drop (length s) (s ++ t) h))

-- zeros
zero-at : (n i : ℕ) → ◌≡◌ {A = ℕ} (get_or (replicate n 0) i 0) 0
zero-at zero i = refl
zero-at (suc n) zero = refl
zero-at (suc n) (suc i) = zero-at n i

pub bytes-zeros : (n : ℕ) → Bytes (replicate n 0)
bytes-zeros n = record { byte = λ i. omega (arith, zero-at n i) }

-- a number's
pub bytes-number : (k n : ℕ) → Bytes (le_bytes k n)
bytes-number k n = record { byte = bytes-le_bytes k n }
