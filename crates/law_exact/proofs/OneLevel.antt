-- The exact case of document 01 about the bytes of the one-level calls of the float 5/3 filter: forward, and the inverse on what it gave. Over the format, and
-- the two formats at the end.
use mathlib.Core.Bool.{true}
use mathlib.Core.List.{List}
use mathlib.Core.Path.{◌≡◌, ap, ◌∙◌}
use Prim.Native.Nat.{ℕ, ◌*◌, ◌^◌, ◌≤◌}
use native.Mathlib.Omega.{arith}
use lib.Ieee.{Format, binary32, binary64, prec}
use lib.ListN.{length}
use Rattle.base_answers.specs.declared.err.Answer.{Answer}
use Rattle.base_answers.specs.Answers.{answer_of, done}
use Rattle.base_lengths.specs.declared.Wavelet.TheVariants.{Cdf53}
use Rattle.base_lengths.specs.Levels.{after_levels, there_and_back, Runs}
use Rattle.base_lengths.specs.Calls.{say_forward, Level}
use Rattle.base_lengths.proofs.Depths.{two-below, runs-depth}
use Rattle.base_lengths.proofs.OneLevel.{forward-ready, forward-ran, inverse-fits, inverse-ran}
use Rattle.base_samples.specs.Floats.{decode_floats}
use Rattle.levels_filter.specs.declared.filter.Filter.TheVariants.{Cdf53F32, Cdf53F64}
use Rattle.levels_filter.specs.Filters.{width_of, wavelet_of, low_of, high_of, back_of}
use Rattle.levels_filter.specs.Pyramids.{approx_at, round_trip}
use Rattle.levels_filter.specs.Calls.{LevelOf, OneForward}
use Rattle.levels_filter.proofs.Cuts.{width-pos}
use Rattle.law_levels.proofs.Lengths.{length-low, length_high}
use Rattle.law_exact.specs.Exact.{Inputs}
use Rattle.law_exact.specs.Levels.{filter53, most, Exact, sample_count, numbers_in, ExactOne}
use Rattle.law_exact.proofs.Bytes.{samples-exact, level-exact, trip-same}

-- either format has room for one level
one-fits : (f : Format) → 4 * 1 ≤ prec f
one-fits binary32 = omega arith
one-fits binary64 = omega arith

-- the forward call is done with inputs that are whole and small enough
module _ (f : Format) (x : List ℕ) {a d : List ℕ} {r : Answer} {a' d' : List ℕ} (call : OneForward (filter53 f) x a d r a' d')
    (is_done : done (say_forward (wavelet_of (filter53 f)) (width_of (filter53 f)) (length x) (length a) (length d)) ≡ true) (inputs : Inputs (most f 1) (decode_floats f x)) where
  level : LevelOf (filter53 f) (length x) (length a) (length d)
  level = forward-ready (wavelet_of (filter53 f)) (width_of (filter53 f)) (length x) (length a) (length d) is_done

  is_exact : Exact f 1 (decode_floats f x) (numbers_in f x)
  unfolding Runs
  is_exact = samples-exact f 1 x (runs-depth _ (two-below (wavelet_of (filter53 f))) 1 (sample_count f x) (level.long, tt)) (one-fits f) inputs

  given : (a' ≡ low_of (filter53 f) x) × (d' ≡ high_of (filter53 f) x)
  given = forward-ran (wavelet_of (filter53 f)) (width_of (filter53 f)) (low_of (filter53 f)) (high_of (filter53 f)) x a d (sample_count f x) r a' d' (width-pos (filter53 f)) level call

  -- the bands that it gave have the lengths of a level
  bands : LevelOf (filter53 f) (length x) (length a') (length d')
  bands = record {
    long = level.long;
    short = level.short;
    samples = level.samples;
    approx = ap length given.0 ∙ length-low (filter53 f) x (sample_count f x) level.samples;
    details = ap length given.1 ∙ length_high (filter53 f) x (sample_count f x) level.samples;
  }

  -- both bands are the whole numbers, and the inverse gives the inputs back
  pub exact_one : ExactOne f x a' d'
  unfolding after_levels there_and_back
  exact_one =
      let w = wavelet_of (filter53 f) in
      let k = width_of (filter53 f) in
      let n = sample_count f x in
      let some = width-pos (filter53 f) in
      record {
        bands-are = rw (given.0, given.1) (level-exact f 1 x is_exact 1 (omega arith) (omega arith));
        back = λ {o} {q} {o'} e m.
            let fits : Level w k n (length o) (length a') (length d') = rw e bands in
            let ran : o' ≡ back_of (filter53 f) a' d' = inverse-ran w k (back_of (filter53 f)) a' d' o n q o' some fits m in (
              m.answer ∙ ap answer_of (inverse-fits w k n (length o) (length a') (length d') some fits),
              rw (ran, given.0, given.1) (trip-same f 1 x is_exact level.samples),
            );
      }

-- ---- in document 01's numbers

-- f32: inputs of size at most 2 ^ 20
pub exact32-one : (x : List ℕ) {a d : List ℕ} {r : Answer} {a' d' : List ℕ} → OneForward Cdf53F32 x a d r a' d' → done (say_forward Cdf53 4 (length x) (length a) (length d)) ≡ true
    → Inputs (2 ^ 20) (decode_floats binary32 x) → ExactOne binary32 x a' d'
exact32-one x = exact_one binary32 x

-- f64: inputs of size at most 2 ^ 49
pub exact64-one : (x : List ℕ) {a d : List ℕ} {r : Answer} {a' d' : List ℕ} → OneForward Cdf53F64 x a d r a' d' → done (say_forward Cdf53 8 (length x) (length a) (length d)) ≡ true
    → Inputs (2 ^ 49) (decode_floats binary64 x) → ExactOne binary64 x a' d'
exact64-one x = exact_one binary64 x
