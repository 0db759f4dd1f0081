-- 5/3 forward on the samples in x, odds and then evens: as the blocks make them. Over the format.
use Rattle.std.specs.Prelude.{Bool, true, false, List, ◌≡◌, ℕ, ◌-◌, ◌*◌, ◌/◌, min, Float, length, get_or}
use Rattle.std.specs.Float.{nan, Format}
use Rattle.base_lengths.specs.Lengths.{approx_length, details_length}
use Rattle.base_samples.specs.Words.{Holds, Front}
use Rattle.base_samples.specs.Floats.{width, float_at, encode_floats}
use Rattle.filter_floats.specs.Filters.{decimal}
use Rattle.filter_floats.specs.Loops.{LentLow}
use Rattle.filter_small.specs.Lists.{odds_to, evens_to, pattern_of}

-- the odd entries and the even ones after the two steps
abbrev pub odds_53 : Format → List ℕ → List Float
odds_53 f x = odds_to f (decimal f true 5 1) x

abbrev pub evens_53 : Format → List ℕ → List Float
evens_53 f x = evens_to f (decimal f true 5 1) (decimal f false 25 2) x

-- x holds samples, a has room for the approximations and, where both are wanted, d for the details
pub record Ahead (both : Bool) (f : Format) (x a d : List ℕ) : Type 0 where
  pub lent : LentLow f x a
  pub details : both ≡ true → Holds (width f) (details_length (length x / width f)) d

-- the first i entries of the bands that are wanted are stored; e is even sample i, or the last where i is past it, and y odd entry i - 1, or entry 0 where i is 0
pub record Splitting (both : Bool) (f : Format) (x a d : List ℕ) (i : ℕ) (e y : Float) : Type 0 where
  pub approx : Front (width f) (approx_length (length x / width f)) i (pattern_of f (evens_53 f x)) a
  pub details : both ≡ true → Front (width f) (details_length (length x / width f)) i (pattern_of f (odds_53 f x)) d
  pub here : e ≡ float_at f x (2 * min i (approx_length (length x / width f) - 1))
  pub left : y ≡ get_or (odds_53 f x) (i - 1) nan

-- all entries of the bands that are wanted are stored
pub record Split (both : Bool) (f : Format) (x a d : List ℕ) : Type 0 where
  pub approx : a ≡ encode_floats f (evens_53 f x)
  pub details : both ≡ true → d ≡ encode_floats f (odds_53 f x)
