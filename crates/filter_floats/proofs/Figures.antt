-- Document 01's figure of a float filter, by computing: f32 1, 5, 2: a 2.75, 3.75; d 3.5. And back.
use mathlib.Core.Bool.{false}
use mathlib.Core.List.{List, [], ◌∷◌}
use mathlib.Core.Path.{◌≡◌, refl}
use lib.Ieee.{Float, binary32, add, mul, round}
use Rattle.base_lengths.specs.declared.Wavelet.TheVariants.{Cdf53}
use Rattle.base_samples.specs.Words.{tabulate}
use Rattle.base_samples.specs.Halves.{even_of, odd_of, joined}
use Rattle.filter_floats.specs.Steps.{odd_at, even_at, odds, evens, lift}
use Rattle.filter_floats.specs.Filters.{decimal, steps53, back53}
use Rattle.filter_floats.specs.Bands.{approxs, details, restored}

abbrev samples : List Float
samples = decimal binary32 false 1 0 ∷ decimal binary32 false 5 0 ∷ decimal binary32 false 2 0 ∷ []

abbrev low : List Float
low = decimal binary32 false 275 2 ∷ decimal binary32 false 375 2 ∷ []

abbrev high : List Float
high = decimal binary32 false 35 1 ∷ []

pub figure : (approxs binary32 Cdf53 samples ≡ low) × (details binary32 Cdf53 samples ≡ high) × (restored binary32 Cdf53 low high ≡ samples)
unfolding approxs details restored steps53 back53 decimal tabulate even_of odd_of joined odds evens odd_at even_at lift add mul round
figure = (refl, refl, refl)
