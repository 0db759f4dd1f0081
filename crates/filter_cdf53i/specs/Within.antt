-- Where nothing wraps: the numbers of k bytes, and bytes that hold numbers as they are.
use Rattle.std.specs.Prelude.{◌≡◌, ℕ, ◌/◌, ◌^◌, ◌<◌, List, length, ℤ, pos, negsuc}
use Rattle.base_samples.specs.Integers.{decode, encode}
use Rattle.filter_cdf53i.specs.Lift.{at}

-- z is from -(256 ^ k / 2) to 256 ^ k / 2 - 1; negsuc n is -(n + 1)
unfoldable pub Within : ℕ → ℤ → Type 0
Within k (pos n) = n < 256 ^ k / 2
Within k (negsuc n) = n < 256 ^ k / 2

-- each of zs is
abbrev pub AllWithin : ℕ → List ℤ → Type 0
AllWithin k zs = (i : ℕ) → i < length zs → Within k (at zs i)

-- s is the bytes of zs, k to a number, and is read as zs
pub record Holding (k : ℕ) (zs : List ℤ) (s : List ℕ) : Type 0 where
  pub bytes : s ≡ encode k zs
  pub read : decode k s ≡ zs
