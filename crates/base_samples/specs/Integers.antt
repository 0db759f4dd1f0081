-- Samples of 8, 16 and 32 bits, from document 01: "samples are two's complement, little-endian". Over the width k, in bytes.
use Rattle.std.specs.Prelude.{Bool, cond, ◌||◌, List, map, ◌⊎◌, refl, ◌≡◌, ℕ, suc, ◌-◌, ◌*◌, ◌/◌, ◌%◌, ◌^◌, ◌≤◌, ◌<◌, ltb, eqb, ℤ, pos, negsuc}
use Rattle.std.proofs.Common.{inl, inr, arith}
use Rattle.base_samples.specs.Words.{words_of, bytes_of}

-- the number that the word u stands for, of the M words 0 to M - 1: the upper half are the negative ones
unfoldable pub val : ℕ → ℕ → ℤ
val M u = cond (ltb u (M / 2)) (pos u) (negsuc (M - suc u))

-- the word that stands for z, or for what z is modulo M
unfoldable pub residue : ℕ → ℤ → ℕ
residue M (pos n) = n % M
residue M (negsuc n) = M - suc (n % M)

-- "kept modulo two to the width, as a signed number"
unfoldable pub wrap : ℕ → ℤ → ℤ
wrap k z = val (256 ^ k) (residue (256 ^ k) z)

-- the samples in s, and the bytes of the samples zs
unfoldable pub decode : ℕ → List ℕ → List ℤ
decode k s = map (val (256 ^ k)) (words_of k s)

unfoldable pub encode : ℕ → List ℤ → List ℕ
encode k zs = bytes_of k (map (residue (256 ^ k)) zs)

-- a quarter of the words of k bytes
unfoldable pub quarter : ℕ → ℕ
quarter k = 256 ^ k / 4

-- whether k is a width, in bytes: "1, 2 or 4"
abbrev pub is_width : ℕ → Bool
is_width k = eqb k 1 || (eqb k 2 || eqb k 4)

-- k is a width; what follows from that stands beside it, where `omega` finds it
pub record Width (k : ℕ) : Type 0 where
  pub which : (k ≡ 1) ⊎ ((k ≡ 2) ⊎ (k ≡ 4))
  pub some : 0 < k
  pub words : 256 ^ k ≡ 4 * quarter k
  pub many : 0 < quarter k
  pub most : 256 ^ k ≤ 4294967296

pub width-1 : Width 1
unfolding quarter
width-1 = record { which = inl refl; some = omega arith; words = refl; many = omega arith; most = omega arith }

pub width-2 : Width 2
unfolding quarter
width-2 = record { which = inr (inl refl); some = omega arith; words = refl; many = omega arith; most = omega arith }

pub width-4 : Width 4
unfolding quarter
width-4 = record { which = inr (inr refl); some = omega arith; words = refl; many = omega arith; most = omega arith }
