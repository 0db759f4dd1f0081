-- Little-endian numbers, for samples, counts and headers alike: the lowest byte comes first. Over the number of bytes.
use Rattle.std.specs.Prelude.{List, [], ◌∷◌, ℕ, zero, suc, ◌+◌, ◌*◌, ◌/◌, ◌%◌, ◌<◌, get_or}
use Rattle.std.proofs.lemmas.List.Edits.{sets}

-- the number in the k bytes of s from place p on
unfoldable pub le_at : ℕ → List ℕ → ℕ → ℕ
le_at zero s p = 0
le_at (suc k) s p = get_or s p 0 + 256 * le_at k s (p + 1)

-- the k bytes of n
unfoldable pub le_bytes : ℕ → ℕ → List ℕ
le_bytes zero n = []
le_bytes (suc k) n = n % 256 ∷ le_bytes k (n / 256)

-- s with n stored in the k bytes from place p on
unfoldable pub stored : ℕ → List ℕ → ℕ → ℕ → List ℕ
stored k s p n = sets s p (le_bytes k n)

-- s is a list of bytes, as every lent slice is
pub record Bytes (s : List ℕ) : Type 0 where
  pub byte : (i : ℕ) → get_or s i 0 < 256
