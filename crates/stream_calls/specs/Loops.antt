-- What the two loops of a piece ask and promise: they read samples and details, and know nothing of a state.
use Rattle.std.specs.Prelude.{List, ℕ, ◌+◌, ◌-◌, ◌*◌, ◌/◌, ◌^◌, ◌<◌, pos, ◌+ℤ◌, length}
use Rattle.base_samples.specs.Words.{word_at, Holds}
use Rattle.base_samples.specs.Integers.{Width, val, residue}
use Rattle.filter_cdf53i.specs.Lift.{floor_div}

-- where `out` has n words, z has 2 n + 1 samples or more: each of its first n odd samples stands between two even ones
pub record Inner (k : ℕ) (z out : List ℕ) : Type 0 where
  pub width : Width k
  pub samples : Holds k (length z / k) z
  pub words : Holds k (length out / k) out
  pub more : 2 * (length out / k) < length z / k

-- the word of the approximation of even sample j of z, between the details j and j + 1 of d
unfoldable pub approx_among : ℕ → List ℕ → List ℕ → ℕ → ℕ
approx_among k z d j =
    residue (256 ^ k) (val (256 ^ k) (word_at k z (2 * j)) +ℤ floor_div (val (256 ^ k) (word_at k d j) +ℤ val (256 ^ k) (word_at k d (j + 1)) +ℤ pos 2) 4)

-- areas of c words, of which the first is written, and the samples that the others read
pub record Others (k c : ℕ) (z a d : List ℕ) : Type 0 where
  pub width : Width k
  pub samples : Holds k (length z / k) z
  pub approx : Holds k c a
  pub details : Holds k c d
  pub some : 0 < c
  pub more : 2 * (c - 1) < length z / k
