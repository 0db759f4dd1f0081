-- The floats that the inverse of 5/3 restores, one by one. Over the format.
use Rattle.std.specs.Prelude.{true, false, List, ◌≡◌, ℕ, ◌*◌, Float, get_or}
use Rattle.std.specs.Float.{nan, Format}
use Rattle.base_samples.specs.Words.{Front}
use Rattle.base_samples.specs.Floats.{width, decode_floats}
use Rattle.filter_floats.specs.Steps.{lift, evens, odds}
use Rattle.filter_floats.specs.Filters.{decimal}
use Rattle.filter_small.specs.Lists.{in_turn}

-- the even samples whose bands are in a and d, and the odd ones
unfoldable pub evens_of : Format → List ℕ → List ℕ → List Float
evens_of f a d = evens (lift f (decimal f true 25 2)) nan (decode_floats f a) (decode_floats f d)

unfoldable pub odds_of : Format → List ℕ → List ℕ → List Float
odds_of f a d = odds (lift f (decimal f false 5 1)) nan (evens_of f a d) (decode_floats f d)

-- x holds the first 2 i of the n samples that it is to hold, and e is even sample i, which comes next
pub record Restoring (f : Format) (n : ℕ) (a d x : List ℕ) (i : ℕ) (e : Float) : Type 0 where
  pub front : Front (width f) n (2 * i) (in_turn f (evens_of f a d) (odds_of f a d)) x
  pub next : e ≡ get_or (evens_of f a d) i nan
