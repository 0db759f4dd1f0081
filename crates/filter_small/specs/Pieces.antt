-- Pieces of lists of floats, as a block of turns keeps them, and a lifting step on them. Over the format.
use Rattle.std.specs.Prelude.{List, ◌≡◌, ℕ, ◌+◌, ◌-◌, ◌≤◌, ◌<◌, Float, length, get_or}
use Rattle.std.specs.Float.{nan, Format}
use Rattle.filter_floats.specs.Steps.{lift}

-- entry j of u, of the first n, is the one of l at place i + j - m, or its first where m is more
pub record Piece (l : List Float) (m i n : ℕ) (u : List Float) : Type 0 where
  pub each : (j k : ℕ) → j < n → k ≡ i + j - m → get_or u j nan ≡ get_or l k nan

-- r is as long as s and starts with e, and a lifting step by c makes its entries 1 to n of two neighbours in p and of an entry of q
pub record Stepped (f : Format) (c : Float) (p q : List Float) (n : ℕ) (e : Float) (s r : List Float) : Type 0 where
  pub same : length r ≡ length s
  pub first : get_or r 0 nan ≡ e
  pub each : (j : ℕ) → j < n → get_or r (j + 1) nan ≡ lift f c (get_or p j nan) (get_or p (j + 1) nan) (get_or q j nan)

-- five lists of n entries or more
pub record Rooms {A : Type 0} (n : ℕ) (y z u v w : List A) : Type 0 where
  pub first : n ≤ length y
  pub second : n ≤ length z
  pub third : n ≤ length u
  pub fourth : n ≤ length v
  pub fifth : n ≤ length w
