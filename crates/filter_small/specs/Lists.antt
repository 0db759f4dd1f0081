-- Lists of floats that lifting steps make, and how they are stored. Over the format.
use Rattle.std.specs.Prelude.{cond, List, ℕ, ◌/◌, ◌%◌, eqb, Float, get_or}
use Rattle.std.specs.Float.{nan, Format}
use Rattle.std.specs.Float.Ieee.{to_bits}
use Rattle.base_samples.specs.Halves.{even_of, odd_of}
use Rattle.base_samples.specs.Floats.{decode_floats}
use Rattle.filter_floats.specs.Steps.{lift, evens, odds}

-- the floats at the even places of x, and at the odd ones
unfoldable pub even_in : Format → List ℕ → List Float
even_in f x = even_of nan (decode_floats f x)

unfoldable pub odd_in : Format → List ℕ → List Float
odd_in f x = odd_of nan (decode_floats f x)

-- two lifting steps on them: the odds after the first, by c, and the evens after the second, by g
unfoldable pub odds_to : Format → Float → List ℕ → List Float
odds_to f c x = odds (lift f c) nan (even_in f x) (odd_in f x)

unfoldable pub evens_to : Format → Float → Float → List ℕ → List Float
evens_to f c g x = evens (lift f g) nan (even_in f x) (odds_to f c x)

-- the pattern of entry i of a list of floats
unfoldable pub pattern_of : Format → List Float → ℕ → ℕ
pattern_of f l i = to_bits f (get_or l i nan)

-- the pattern of entry j of two lists, an entry of each in turn
unfoldable pub in_turn : Format → List Float → List Float → ℕ → ℕ
in_turn f p q j = to_bits f (cond (eqb (j % 2) 0) (get_or p (j / 2) nan) (get_or q (j / 2) nan))
