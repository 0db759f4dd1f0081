-- How many bytes the bands of a float filter have, and the samples of two bands. Once over the format and the wavelet.
use mathlib.Core.List.{List}
use mathlib.Core.Path.{◌≡◌, ap, ◌∙◌}
use Prim.Native.Nat.{ℕ, ◌+◌, ◌*◌, ◌/◌}
use native.Mathlib.Nat.{mul-add}
use lib.Ieee.{Float, nan, Format}
use lib.ListN.{length}
use Rattle.base_lengths.specs.declared.Wavelet.{Wavelet}
use Rattle.base_lengths.specs.Lengths.{approx_length, details_length}
use Rattle.base_samples.specs.Floats.{width, decode_floats}
use Rattle.base_samples.proofs.Halves.{length-even, length-odd, length-joined}
use Rattle.base_samples.proofs.FloatLaws.{length-decode_floats, length-encode_floats}
use Rattle.filter_floats.specs.Filters.{steps_of, back_steps}
use Rattle.filter_floats.specs.Bands.{approxs, details, restored, low, high, back}
use Rattle.filter_floats.proofs.Runs.{length-run_a, length-run_d}

module _ (f : Format) (w : Wavelet) where
  -- ---- of floats

  -- the approximations
  pub length-approxs : (x : List Float) → length (approxs f w x) ≡ approx_length (length x)
  unfolding approxs
  length-approxs x = length-run_a f (steps_of f w) _ _ ∙ length-even nan x

  -- the details
  pub length-details : (x : List Float) → length (details f w x) ≡ details_length (length x)
  unfolding details
  length-details x = length-run_d f (steps_of f w) _ _ ∙ length-odd nan x

  -- the samples of two bands
  pub length-restored : (a d : List Float) → length (restored f w a d) ≡ length a + length d
  unfolding restored
  length-restored a d = length-joined nan _ _ ∙ rw (length-run_a f (back_steps f w) a d, length-run_d f (back_steps f w) a d)

  -- ---- of bytes

  -- the approximations of a list of bytes
  pub length-low : (x : List ℕ) → length (low f w x) ≡ width f * approx_length (length x / width f)
  unfolding low
  length-low x = length-encode_floats f _ ∙ ap (λ n. width f * n) (length-approxs (decode_floats f x) ∙ ap approx_length (length-decode_floats f x))

  -- its details
  pub length_high : (x : List ℕ) → length (high f w x) ≡ width f * details_length (length x / width f)
  unfolding high
  length_high x = length-encode_floats f _ ∙ ap (λ n. width f * n) (length-details (decode_floats f x) ∙ ap details_length (length-decode_floats f x))

  -- the samples of two bands
  pub length_back : (a d : List ℕ) → length (back f w a d) ≡ width f * (length a / width f) + width f * (length d / width f)
  unfolding back
  length_back a d =
      length-encode_floats f _
      ∙ ap (λ n. width f * n) (length-restored (decode_floats f a) (decode_floats f d))
      ∙ mul-add (width f) (length (decode_floats f a)) (length (decode_floats f d))
      ∙ rw (length-decode_floats f a, length-decode_floats f d)
