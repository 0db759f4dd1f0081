-- Both bands in one list, an entry of each in turn: what the inverse works on, in the output itself. The neighbours of an entry are of the other band.
use Rattle.std.specs.Prelude.{cond, List, ◌≡◌, ℕ, ◌+◌, ◌-◌, ◌*◌, ◌/◌, ◌%◌, ◌≤◌, min, eqb, Float, length, get_or}
use Rattle.std.specs.Float.{nan, Format}
use Rattle.std.specs.Float.Ieee.{mul}
use Rattle.base_samples.specs.Words.{tabulate}
use Rattle.base_samples.specs.Halves.{even_of, odd_of, joined}
use Rattle.base_samples.specs.Floats.{width, decode_floats, encode_floats}
use Rattle.filter_floats.specs.Steps.{lift, Step, run_a, run_d}
use Rattle.filter_floats.specs.Loops.{Stored}

-- the place before j, mirrored at 0, and the place after it, mirrored at n - 1
abbrev pub left_of : ℕ → ℕ
left_of j = (j - 1) + (1 - j)

abbrev pub right_of : ℕ → ℕ → ℕ
right_of n j = min (j + 1) (2 * (n - 1) - (j + 1))

-- entry j after a lifting step on the places p, p + 2, ..
unfoldable pub lane_at : Format → Float → ℕ → List Float → ℕ → Float
lane_at f c p x j = cond (eqb (j % 2) p) (lift f c (get_or x (left_of j) nan) (get_or x (right_of (length x) j) nan) (get_or x j nan)) (get_or x j nan)

unfoldable pub lane : Format → Float → ℕ → List Float → List Float
lane f c p x = tabulate (length x) (lane_at f c p x)

-- entries at even places times p, the others times q
unfoldable pub scaled_lanes : Format → Float → Float → List Float → List Float
scaled_lanes f p q x = tabulate (length x) (λ j. mul f (get_or x j nan) (cond (eqb (j % 2) 0) p q))

-- the list after a schedule of steps
unfoldable pub run_on : Format → List Step → List Float → List Float
run_on f ss x = joined nan (run_a f ss (even_of nan x) (odd_of nan x)) (run_d f ss (even_of nan x) (odd_of nan x))

-- x holds the entries of both bands
pub record Lanes (f : Format) (x : List ℕ) : Type 0 where
  pub stored : Stored f (length x / width f) x
  pub long : 2 ≤ length x / width f

-- x' is what the steps ss leave of x
pub record RanOn (f : Format) (ss : List Step) (x x' : List ℕ) : Type 0 where
  pub output : x' ≡ encode_floats f (run_on f ss (decode_floats f x))
