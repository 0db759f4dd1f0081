-- From floats to bytes: what the transforms' bytes decode to, for any wavelet and for many levels of 5/3, since every float that a step gives fits the format;
-- and the exact case said of bytes, whatever call made them. Over the format.
use mathlib.Core.List.{List}
use mathlib.Core.Path.{◌≡◌, refl, sym, ap, ◌∙◌}
use Prim.Native.Nat.{ℕ, zero, suc, ◌+◌, ◌-◌, ◌*◌, ◌/◌, ◌^◌, ◌≤◌, ◌<◌}
use native.Mathlib.Omega.{arith}
use lib.Dec.{T}
use lib.Ieee.{nan, Format, binary32, binary64, prec, eq}
use lib.IntN.{ℤ, pos}
use lib.ListN.{length, get_or, length-map}
use Rattle.base_lengths.specs.declared.Wavelet.{Wavelet}
use Rattle.base_lengths.specs.declared.Wavelet.TheVariants.{Cdf53}
use Rattle.base_lengths.specs.Levels.{after_levels, there_and_back, Runs, depth_of}
use Rattle.base_lengths.proofs.Depths.{depth-runs}
use Rattle.base_samples.specs.Floats.{width, decode_floats}
use Rattle.base_samples.proofs.FloatLaws.{length-decode_floats}
use Rattle.filter_floats.specs.Filters.{steps_of, back_steps}
use Rattle.filter_floats.specs.Bands.{approxs, details, restored, low, high, back}
use Rattle.filter_floats.proofs.Fits.{fit-decode, fit-even, fit-odd, fit-joined, fit-run_a, fit-run_d}
use Rattle.levels_filter.specs.Filters as filter
use Rattle.levels_filter.specs.Filters.{width_of, wavelet_of, low_of, high_of}
use Rattle.levels_filter.specs.Pyramids.{approx_at, round_trip}
use Rattle.law_levels.proofs.Lengths.{length-trip}
use Rattle.law_exact.specs.Exact.{Are, FormatHolds, Inputs, number, details2, approximations8}
use Rattle.law_exact.specs.Levels.{filter53, most, floats_at, floats_back, numbers_at, times, Exact, sample_count, numbers_in, ExactLevel, SameNumbers}
use Rattle.law_exact.proofs.Whole.{is_eq}
use Rattle.law_exact.proofs.Level.{details-exact, approximations-exact, inverse-exact}
use Rattle.law_exact.proofs.Inputs.{inputs-exact}

module _ (f : Format) where
  -- ---- one level, any wavelet

  -- the floats of the approximations
  pub decode-low : (w : Wavelet) (s : List ℕ) → decode_floats f (low f w s) ≡ approxs f w (decode_floats f s)
  unfolding low approxs
  decode-low w s = fit-run_a f (steps_of f w) _ _ (fit-even f s) (fit-odd f s)

  -- of the details
  pub decode-high : (w : Wavelet) (s : List ℕ) → decode_floats f (high f w s) ≡ details f w (decode_floats f s)
  unfolding high details
  decode-high w s = fit-run_d f (steps_of f w) _ _ (fit-even f s) (fit-odd f s)

  -- and of the samples of two bands
  pub decode-back : (w : Wavelet) (a d : List ℕ) → decode_floats f (back f w a d) ≡ restored f w (decode_floats f a) (decode_floats f d)
  unfolding back restored
  decode-back w a d = fit-joined f _ _ (fit-run_a f (back_steps f w) _ _ (fit-decode f a) (fit-decode f d)) (fit-run_d f (back_steps f w) _ _ (fit-decode f a) (fit-decode f d))

-- ---- one level of the 5/3 filter of the format

-- its approximations
pub low-53 : (f : Format) (s : List ℕ) → low_of (filter53 f) s ≡ low f Cdf53 s
low-53 binary32 s = refl
low-53 binary64 s = refl

-- its details
pub high-53 : (f : Format) (s : List ℕ) → high_of (filter53 f) s ≡ high f Cdf53 s
high-53 binary32 s = refl
high-53 binary64 s = refl

-- the samples of two bands
pub back-53 : (f : Format) (a d : List ℕ) → filter.back_of (filter53 f) a d ≡ back f Cdf53 a d
back-53 binary32 a d = refl
back-53 binary64 a d = refl

-- ---- and many

module _ (f : Format) where
  -- the approximations after l levels
  pub decode-approx : (l : ℕ) (s : List ℕ) → decode_floats f (approx_at (filter53 f) l s) ≡ floats_at f l (decode_floats f s)
  unfolding after_levels
  decode-approx zero s = refl
  decode-approx (suc l) s = rw (decode-approx l (low_of (filter53 f) s), low-53 f s, decode-low f Cdf53 s)

  -- their details
  pub decode-details : (l : ℕ) (s : List ℕ) → decode_floats f (high_of (filter53 f) (approx_at (filter53 f) l s)) ≡ details f Cdf53 (floats_at f l (decode_floats f s))
  decode-details l s = rw (high-53 f (approx_at (filter53 f) l s), decode-high f Cdf53 (approx_at (filter53 f) l s), decode-approx l s)

  -- l levels and back
  pub decode-trip : (l : ℕ) (s : List ℕ) → decode_floats f (round_trip (filter53 f) l s) ≡ floats_back f l (decode_floats f s)
  unfolding there_and_back
  decode-trip zero s = refl
  decode-trip (suc l) s =
      let a = round_trip (filter53 f) l (low_of (filter53 f) s) in
      let d = high_of (filter53 f) s in
      ap (decode_floats f) (back-53 f a d) ∙ decode-back f Cdf53 a d
      ∙ rw (decode-trip l (low_of (filter53 f) s), low-53 f s, decode-low f Cdf53 s, high-53 f s, decode-high f Cdf53 s)

-- ---- the exact case of one level, of bytes s whose floats are the whole numbers z over 2 ^ k

module _ (f : Format) (k b : ℕ) (room : FormatHolds f k b) (s : List ℕ) (z : List ℤ) (r : Are k b (decode_floats f s) z) where
  pub high-exact : Are (k + 1) (4 * b) (decode_floats f (high f Cdf53 s)) (details2 z)
  high-exact = rw (decode-high f Cdf53 s) (details-exact f k b room (decode_floats f s) z r)

  pub low-exact : 2 ≤ length z → Are (k + 3) (16 * b) (decode_floats f (low f Cdf53 s)) (approximations8 z)
  low-exact n = rw (decode-low f Cdf53 s) (approximations-exact f k b room (decode_floats f s) z n r)

  pub back-exact : 2 ≤ length z → Are k b (decode_floats f (back f Cdf53 (low f Cdf53 s) (high f Cdf53 s))) z
  back-exact n = rw (decode-back f Cdf53 (low f Cdf53 s) (high f Cdf53 s)) (inverse-exact f k b room _ _ z n (λ i h. (r.each i h).size) (low-exact n) high-exact)

  -- the inputs, numerically
  pub back-equal : 2 ≤ length z → (i : ℕ) → i < length z → T (eq (get_or (decode_floats f (back f Cdf53 (low f Cdf53 s) (high f Cdf53 s))) i nan) (get_or (decode_floats f s) i nan))
  back-equal n i l = is_eq _ _ (get_or z i (pos 0)) k ((back-exact n).each i l).is (r.each i l).is

-- ---- and of many levels

module _ (f : Format) (levels : ℕ) (s : List ℕ) (z : List ℤ) (e : Exact f levels (decode_floats f s) z) where
  pub lows-are : (l : ℕ) → l < levels → Are (3 * suc l) (2 ^ prec f) (decode_floats f (approx_at (filter53 f) (suc l) s)) (numbers_at (suc l) z)
  lows-are l h = rw (decode-approx f (suc l) s) (e.approximations-are l h)

  pub highs-are : (l : ℕ) → l < levels → Are (3 * suc l) (2 ^ prec f) (decode_floats f (high_of (filter53 f) (approx_at (filter53 f) l s))) (times 4 (details2 (numbers_at l z)))
  highs-are l h = rw (decode-details f l s) (e.details-are l h)

  pub bytes-equal : (i : ℕ) → i < length z → T (eq (get_or (decode_floats f (round_trip (filter53 f) levels s)) i nan) (get_or (decode_floats f s) i nan))
  bytes-equal i h = rw (decode-trip f levels s) (e.inputs-back i h)

-- ---- and of samples x, so many levels of which are within the depth

width-53 : (f : Format) → width_of (filter53 f) ≡ width f
width-53 binary32 = refl
width-53 binary64 = refl

wavelet-53 : (f : Format) → wavelet_of (filter53 f) ≡ Cdf53
wavelet-53 binary32 = refl
wavelet-53 binary64 = refl

-- how many floats the bytes of samples are
floats-in : (f : Format) (s : List ℕ) → length (decode_floats f s) ≡ sample_count f s
floats-in f s = length-decode_floats f s ∙ ap (λ (k : ℕ). length s / k) (sym (width-53 f))

-- inputs that are whole and small enough are the exact case
pub samples-exact : (f : Format) (levels : ℕ) (x : List ℕ) → levels ≤ depth_of (wavelet_of (filter53 f)) (sample_count f x) → 4 * levels ≤ prec f → Inputs (most f levels) (decode_floats f x)
    → Exact f levels (decode_floats f x) (numbers_in f x)
samples-exact f levels x deep few inputs =
    let runs : Runs 3 levels (length (decode_floats f x)) = rw (floats-in f x) (depth-runs 3 (omega arith) levels (sample_count f x) (rw (wavelet-53 f) at deep)) in
    inputs-exact f levels few (decode_floats f x) runs inputs

module _ (f : Format) (levels : ℕ) (x : List ℕ) (e : Exact f levels (decode_floats f x) (numbers_in f x)) where
  -- both bands of each level
  pub level-exact : (l : ℕ) → 0 < l → l ≤ levels → ExactLevel f l x (approx_at (filter53 f) l x) (high_of (filter53 f) (approx_at (filter53 f) (l - 1) x))
  level-exact zero h g = absurd (omega arith)
  level-exact (suc l) h g =
      let below : suc l - 1 ≡ l = omega arith in
      record { approximations-are = lows-are f levels x (numbers_in f x) e l g; details-are = rw below (highs-are f levels x (numbers_in f x) e l g) }

  -- all levels forward and back
  pub trip-same : length x ≡ width_of (filter53 f) * sample_count f x → SameNumbers f x (round_trip (filter53 f) levels x)
  trip-same whole = record {
    inputs-back = λ i h. bytes-equal f levels x (numbers_in f x) e i (rw (length-map (decode_floats f x) number, floats-in f x) h);
    lengths-back = length-trip (filter53 f) levels x (sample_count f x) whole;
  }
