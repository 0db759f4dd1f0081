-- What the inner functions of the float filters ask and promise, over the format: bands that hold floats as the port writes them, and what a schedule leaves.
use Rattle.std.specs.Prelude.{List, ◌≡◌, ℕ, ◌+◌, ◌/◌, ◌≤◌, ◌<◌, length}
use Rattle.std.specs.Float.{Format}
use Rattle.base_lengths.specs.Lengths.{approx_length, details_length}
use Rattle.base_samples.specs.Words.{Holds}
use Rattle.base_samples.specs.Floats.{width, decode_floats, encode_floats}
use Rattle.filter_floats.specs.Steps.{Step, run_a, run_d}

-- x holds 3 samples or more, and a as many as they have approximations
pub record LentLow (f : Format) (x a : List ℕ) : Type 0 where
  pub long : 3 ≤ length x / width f
  pub samples : Holds (width f) (length x / width f) x
  pub approx : Holds (width f) (approx_length (length x / width f)) a

-- and d as many as they have details
pub record Lent (f : Format) (x a d : List ℕ) : Type 0 where
  pub long : 3 ≤ length x / width f
  pub samples : Holds (width f) (length x / width f) x
  pub approx : Holds (width f) (approx_length (length x / width f)) a
  pub details : Holds (width f) (details_length (length x / width f)) d

-- s is n floats, each by the pattern that it is written by: a NaN by its one pattern
pub record Stored (f : Format) (n : ℕ) (s : List ℕ) : Type 0 where
  pub holds : Holds (width f) n s
  pub plain : encode_floats f (decode_floats f s) ≡ s

-- the two bands of a level
pub record StoredBands (f : Format) (a d : List ℕ) : Type 0 where
  pub approx : Stored f (length a / width f) a
  pub details : Stored f (length d / width f) d
  pub some : 0 < length d / width f
  pub fewer : length d / width f ≤ length a / width f
  pub near : length a / width f ≤ length d / width f + 1

-- a' and d' are what the steps ss leave of the bands a and d
pub record Ran (f : Format) (ss : List Step) (a d a' d' : List ℕ) : Type 0 where
  pub approx : a' ≡ encode_floats f (run_a f ss (decode_floats f a) (decode_floats f d))
  pub details : d' ≡ encode_floats f (run_d f ss (decode_floats f a) (decode_floats f d))
