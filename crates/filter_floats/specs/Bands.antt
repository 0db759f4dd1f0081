-- The float filters on bytes: "start from evens and odds of x", run the schedule, and back. Over the format and the wavelet.
use Rattle.std.specs.Prelude.{List, ℕ, Float}
use Rattle.std.specs.Float.{nan, Format}
use Rattle.base_lengths.specs.declared.Wavelet.{Wavelet}
use Rattle.base_samples.specs.Halves.{even_of, odd_of, joined}
use Rattle.base_samples.specs.Floats.{decode_floats, encode_floats}
use Rattle.filter_floats.specs.Steps.{run_a, run_d}
use Rattle.filter_floats.specs.Filters.{steps_of, back_steps}

-- the approximations and the details of floats x
unfoldable pub approxs : Format → Wavelet → List Float → List Float
approxs f w x = run_a f (steps_of f w) (even_of nan x) (odd_of nan x)

unfoldable pub details : Format → Wavelet → List Float → List Float
details f w x = run_d f (steps_of f w) (even_of nan x) (odd_of nan x)

-- the floats whose bands are a and d
unfoldable pub restored : Format → Wavelet → List Float → List Float → List Float
restored f w a d = joined nan (run_a f (back_steps f w) a d) (run_d f (back_steps f w) a d)

-- the same on bytes
unfoldable pub low : Format → Wavelet → List ℕ → List ℕ
low f w x = encode_floats f (approxs f w (decode_floats f x))

unfoldable pub high : Format → Wavelet → List ℕ → List ℕ
high f w x = encode_floats f (details f w (decode_floats f x))

unfoldable pub back : Format → Wavelet → List ℕ → List ℕ → List ℕ
back f w a d = encode_floats f (restored f w (decode_floats f a) (decode_floats f d))
