-- One level of any float filter, once over the format and the wavelet: what the checks leave is what the steps ask, and what the steps leave is the level.
use mathlib.Core.List.{List}
use mathlib.Core.Path.{◌≡◌, ◌∙◌}
use Prim.Native.Nat.{ℕ, ◌/◌, ◌≤◌}
use native.Mathlib.Omega.{arith}
use lib.Ieee.{nan, Format}
use lib.ListN.{length}
use Rattle.base_lengths.specs.declared.Wavelet.{Wavelet}
use Rattle.base_lengths.specs.declared.Wavelet.TheVariants.{Cdf53, Cdf97}
use Rattle.base_lengths.specs.Lengths.{approx_length, details_length, smallest_of}
use Rattle.base_lengths.specs.Calls.{Level}
use Rattle.base_samples.specs.Halves.{even_of, odd_of, joined}
use Rattle.base_samples.specs.Floats.{width, decode_floats, encode_floats}
use Rattle.base_samples.proofs.Words.{holds}
use Rattle.base_samples.proofs.Halves.{length-even, length-odd, length-joined, even-joined, odd-joined}
use Rattle.base_samples.proofs.FloatLaws.{width-pos, length-decode_floats}
use Rattle.filter_floats.specs.Steps.{Step}
use Rattle.filter_floats.specs.Filters.{steps_of, back_steps}
use Rattle.filter_floats.specs.Bands.{approxs, details, restored, low, high, back}
use Rattle.filter_floats.specs.Loops.{LentLow, Lent, StoredBands, Ran}
use Rattle.filter_floats.specs.Lanes.{run_on, Lanes, RanOn}
use Rattle.filter_floats.proofs.Fits.{Fit, stored-encode, fit-decode, fit-even, fit-odd, fit-joined}
use Rattle.filter_floats.proofs.Splits.{Split}

-- what the checks leave is what the steps ask: of the samples and the approximations, whatever d bytes the details have
pub ready-low : (w : Wavelet) (f : Format) {d : ℕ} {x a : List ℕ} → Level w (width f) (length x / width f) (length x) (length a) d → LentLow f x a
ready-low w f {x = x} {a = a} l = record { long = three w l.long; samples = holds (width-pos f) x _ l.samples; approx = holds (width-pos f) a _ l.approx }
  where
    three : (w : Wavelet) {n : ℕ} → smallest_of w ≤ n → 3 ≤ n
    three Cdf53 h = h
    three Cdf97 h = omega arith

pub ready : (w : Wavelet) (f : Format) {x a d : List ℕ} → Level w (width f) (length x / width f) (length x) (length a) (length d) → Lent f x a d
ready w f {d = d} l = let p = ready-low w f l in record { long = p.long; samples = p.samples; approx = p.approx; details = holds (width-pos f) d _ l.details }

module _ {f : Format} (x : List ℕ) {a d : List ℕ} (e : Split f x a d) where
  -- the evens and the odds of three samples or more are bands
  pub split-bands : 3 ≤ length x / width f → StoredBands f a d
  split-bands long =
      let sa = stored-encode f (approx_length (length x / width f)) _ a e.0 (length-even nan _ ∙ rw (length-decode_floats f x)) (fit-even f x) in
      let sd = stored-encode f (details_length (length x / width f)) _ d e.1 (length-odd nan _ ∙ rw (length-decode_floats f x)) (fit-odd f x) in
      let na = sa.holds.count in
      let nd = sd.holds.count in
      record { approx = rw na sa; details = rw nd sd; some = omega arith; fewer = omega arith; near = omega arith }

  -- and a filter's schedule makes the level of them
  pub run-level : (w : Wavelet) {ss : List Step} {a' d' : List ℕ} → ss ≡ steps_of f w → Ran f ss a d a' d' → (a' ≡ low f w x) × (d' ≡ high f w x)
  unfolding low high approxs details
  run-level w es r =
      let xa : decode_floats f a ≡ even_of nan (decode_floats f x) = rw e.0 (fit-even f x) in
      let xd : decode_floats f d ≡ odd_of nan (decode_floats f x) = rw e.1 (fit-odd f x) in
      (r.approx ∙ rw (es, xa, xd), r.details ∙ rw (es, xa, xd))

-- ---- the inverse

module _ {f : Format} {o a d : List ℕ} (l : Lent f o a d) {x : List ℕ} (e : x ≡ encode_floats f (joined nan (decode_floats f a) (decode_floats f d))) where
  fit : Fit f (joined nan (decode_floats f a) (decode_floats f d))
  fit = fit-joined f (decode_floats f a) (decode_floats f d) (fit-decode f a) (fit-decode f d)

  -- the two bands joined
  pub join-lanes : Lanes f x
  join-lanes =
      let s = stored-encode f (length o / width f) _ x e (length-joined nan _ _ ∙ rw (length-decode_floats f a, length-decode_floats f d) (omega (arith, l.approx.count, l.details.count))) fit in
      let n = s.holds.count in
      record { stored = rw n s; long = omega (arith, l.long) }

  -- and a filter's schedule of the inverse makes the samples of them
  pub run-back : (w : Wavelet) {ss : List Step} {x' : List ℕ} → ss ≡ back_steps f w → RanOn f ss x x' → x' ≡ back f w a d
  unfolding back restored run_on
  run-back w es r =
      let xs : decode_floats f x ≡ joined nan (decode_floats f a) (decode_floats f d) = rw e fit in
      let na : length (decode_floats f a) ≡ approx_length (length o / width f) = length-decode_floats f a ∙ l.approx.count in
      let nd : length (decode_floats f d) ≡ details_length (length o / width f) = length-decode_floats f d ∙ l.details.count in
      r.output ∙ rw (es, xs, even-joined nan (decode_floats f a) (decode_floats f d) (omega arith) (omega arith), odd-joined nan (decode_floats f a) (decode_floats f d) (omega arith) (omega arith))
