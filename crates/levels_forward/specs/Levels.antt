-- What one level of many leaves: of the n samples in x, its approximations in front of the area t, its details after their count of c bytes at the end of o, from r on.
use Rattle.std.specs.Prelude.{List, ◌++◌, ◌≡◌, ℕ, ◌-◌, ◌*◌, length, take, drop}
use Rattle.base_samples.specs.Le.{le_bytes}
use Rattle.base_lengths.specs.Lengths.{approx_length, details_length}
use Rattle.levels_filter.specs.declared.filter.Filter.{Filter}
use Rattle.levels_filter.specs.Filters.{width_of, low_of, high_of}
use Rattle.levels_filter.specs.Pyramids.{laid_size}

pub record LevelLaid (f : Filter) (c l n : ℕ) (x t o : List ℕ) (r : ℕ) (t' o' : List ℕ) : Type 0 where
  pub place : r ≡ laid_size c (width_of f) (l - 1) (approx_length n)
  pub approx : t' ≡ low_of f x ++ drop (width_of f * approx_length n) t
  pub details : o' ≡ take r o ++ (le_bytes c (details_length n) ++ high_of f x)
  pub long : length (low_of f x) ≡ width_of f * approx_length n
