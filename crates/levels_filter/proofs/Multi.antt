-- `multi_dwt` and writing a file: what a done call has passed. Looks into no filter.
use mathlib.Core.Bool.{Bool, true, false, cond}
use mathlib.Core.List.{[], ◌∷◌}
use mathlib.Core.Path.{◌≡◌, refl, ap, ◌∙◌}
use Prim.Native.Nat.{ℕ, zero, suc, ◌*◌, ◌/◌, ◌<◌}
use native.Mathlib.Nat.{mul-le-mul_left}
use native.Mathlib.Omega.{arith}
use lib.Dec.{eqb, eqb-suc-zero}
use Rattle.std.specs.Prelude.{Err}
use Rattle.base_answers.specs.declared.err.Refusal.TheVariants.{BufferWasTooSmallForLevel}
use Rattle.base_answers.specs.Answers.{told, says, done}
use Rattle.base_answers.specs.Checks.{ragged, two_areas}
use Rattle.base_answers.proofs.Passed.{Passing, passing, whole, roomy, right}
use Rattle.base_lengths.specs.Lengths.{most_samples}
use Rattle.base_lengths.specs.Levels.{depth_of, levels_of}
use Rattle.levels_filter.specs.declared.filter.Filter.{Filter}
use Rattle.levels_filter.specs.declared.filter.Filter.TheVariants.{Cdf53I8, Cdf53I16, Cdf53I32, Cdf53F32, Cdf53F64, Cdf97F32, Cdf97F64}
use Rattle.levels_filter.specs.Filters.{width_of, wavelet_of}
use Rattle.levels_filter.specs.Calls.{too_short, depth_checks, multi_checks, say_multi, Ready}

pub levels-pos : (l : ℕ) → 0 < levels_of l
levels-pos zero = omega arith
levels-pos (suc l) = simp (eqb-suc-zero l) (omega arith)

-- a depth below the levels is refused with 1 or 4, so with no number i that is neither
short-says : (i : ℕ) → eqb 1 i ≡ false → eqb 4 i ≡ false → (f : Filter) (n : ℕ) → says i (Err (too_short f n)) ≡ false
short-says i p q Cdf53I8 n = p
short-says i p q Cdf53I16 n = p
short-says i p q Cdf53I32 n = p
short-says i p q Cdf53F32 n = q
short-says i p q Cdf53F64 n = q
short-says i p q Cdf97F32 n = q
short-says i p q Cdf97F64 n = q

pub shallow-says : (i : ℕ) → eqb 1 i ≡ false → eqb 4 i ≡ false → (f : Filter) (n : ℕ) (t : Bool) → says i (Err (cond t (too_short f n) BufferWasTooSmallForLevel)) ≡ false
shallow-says i p q f n true = short-says i p q f n
shallow-says i p q f n false = q

pub shallow-refused : (f : Filter) (n : ℕ) (t : Bool) → done {A = ℕ × ℕ} (Err (cond t (too_short f n) BufferWasTooSmallForLevel)) ≡ false
shallow-refused f n t = refl

-- what checks that pass leave: x, u and v bytes are whole samples, the levels run, and two areas have room
pub checked-ready : (f : Filter) (l x u v : ℕ) → let k = width_of f in Passing (ragged k x ∷ ragged k u ∷ ragged k v ∷ []) → Passing (depth_checks f l (x / k)) → Passing (two_areas (u / k) (v / k) (x / k))
    → Ready f (levels_of l) (x / k) x u v
checked-ready f l x u v p q r =
    let k = width_of f in
    let eu = whole k u p.1.0 in
    let ev = whole k v p.1.1.0 in
    let lu = mul-le-mul_left k (roomy (u / k) (x / k) r.0) in
    let lv = mul-le-mul_left k (roomy (v / k) (x / k) r.1.0) in
    record {
      some = levels-pos l;
      deep = roomy (depth_of (wavelet_of f) (x / k)) (levels_of l) q.1.0;
      short = roomy most_samples (x / k) q.0;
      whole = whole k x p.0;
      first = omega arith;
      second = omega arith;
    }

-- of `multi_dwt`, whose output has its length too
pub multi-ready : (f : Filter) (l x o u v : ℕ) → done (say_multi f l x o u v) ≡ true → Ready f (levels_of l) (x / width_of f) x u v × (o ≡ width_of f * (x / width_of f))
unfolding say_multi
multi-ready f l x o u v h =
    let k = width_of f in
    let p = passing (ragged k x ∷ ragged k o ∷ ragged k u ∷ ragged k v ∷ multi_checks f l (x / k) (o / k) (u / k) (v / k)) (told 0 0) h in
    let q = p.1.1.1.1 in (
      checked-ready f l x u v (p.0, (p.1.1.0, (p.1.1.1.0, tt))) (q.0, (q.1.0, tt)) q.1.1.1,
      whole k o p.1.0 ∙ ap (λ n. k * n) (right (o / k) (x / k) q.1.1.0),
    )
