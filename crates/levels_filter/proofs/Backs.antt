-- `multi_idwt`: what its checks leave. Looks into no filter.
use mathlib.Core.Bool.{true}
use mathlib.Core.List.{List, [], ◌∷◌, ◌++◌}
use mathlib.Core.Path.{◌≡◌, refl, sym, ap, ◌∙◌}
use Prim.Native.Nat.{ℕ, ◌+◌, ◌*◌, ◌/◌, ◌<◌}
use native.Mathlib.Nat.{mul-add, mul-le-mul_left}
use native.Mathlib.Omega.{arith}
use borrow.Author.Tests.{eqb-false}
use lib.ListN.{length}
use Rattle.base_answers.specs.Answers.{told, done}
use Rattle.base_answers.proofs.Passed.{Passing, passing, both-pass, whole, roomy, right}
use Rattle.base_lengths.specs.declared.Wavelet.{Wavelet}
use Rattle.base_lengths.specs.Lengths.{most_samples, expected_approx, expected_details}
use Rattle.base_lengths.proofs.OneLevel.{expected}
use Rattle.base_samples.specs.Words.{words_of}
use Rattle.base_samples.proofs.Words.{length-words}
use Rattle.levels_filter.specs.declared.filter.Filter.{Filter}
use Rattle.levels_filter.specs.Filters.{width_of, wavelet_of}
use Rattle.levels_filter.specs.Calls.{room_checks}
use Rattle.levels_filter.specs.Backward.{total, band_checks, whole_checks, back_checks, say_back, Fits, Rising}

-- bands that pass the checks are those of levels
pub bands-fit : (w : Wavelet) (a : ℕ) (ms : List ℕ) → Passing (band_checks w a ms) → Fits w a ms
unfolding band_checks Fits
bands-fit w a [] h = tt
bands-fit w a (m ∷ ms) h =
    let e = expected w a m (a + m) refl (right a (expected_approx (a + m)) h.0) (right m (expected_details w (a + m)) h.1.0) in
    (e.0, e.1, e.2, bands-fit w (a + m) ms h.1.1)

-- what the checks leave: the levels rise, there is a level, and the output is as long as the bands
pub back-ready : (f : Filter) (a d : ℕ) (ls : List ℕ) (o u v : ℕ) → done (say_back f a d ls o u v) ≡ true
    → Rising f (a / width_of f) (words_of 4 ls) d u v o × (0 < length ls / 4) × (a ≡ width_of f * (a / width_of f)) × (o ≡ a + d)
unfolding say_back
back-ready f a d ls o u v h =
    let k = width_of f in
    let ms = words_of 4 ls in
    let bands = band_checks (wavelet_of f) (a / k) ms in
    let room = room_checks (a / k + d / k) (o / k) (u / k) (v / k) in
    let p = passing (whole_checks k a d (length ls) o u v ++ back_checks f (a / k) (d / k) ms (o / k) (u / k) (v / k)) (told 0 0) h in
    let q = p.1.1.1.1.1.1 in
    let b = both-pass bands room q.1.1.1.1.1.1.1 in
    let ea = whole k a p.0 in
    let ed = whole k d p.1.0 in
    let eo = whole k o p.1.1.1.0 in
    let eu = whole k u p.1.1.1.1.0 in
    let ev = whole k v p.1.1.1.1.1.0 in
    let es = right (total ms) (d / k) q.1.1.1.1.1.1.0 in
    let en = right (o / k) (a / k + d / k) b.1.0 in
    let all : a / k + total ms ≡ a / k + d / k = ap (λ n. a / k + n) es in
    let lu = mul-le-mul_left k (roomy (u / k) (a / k + d / k) b.1.1.0) in
    let lv = mul-le-mul_left k (roomy (v / k) (a / k + d / k) b.1.1.1.0) in
    let none = eqb-false (length ms) 0 q.1.1.1.1.0 in (
      record {
        fits = bands-fit (wavelet_of f) (a / k) ms b.0;
        short = omega (arith, all, en, roomy most_samples (o / k) q.0);
        details = ed ∙ ap (λ n. k * n) (sym es);
        first = rw all (omega (arith, lu, eu));
        second = rw all (omega (arith, lv, ev));
        output = eo ∙ ap (λ n. k * n) (en ∙ sym all);
      },
      omega (arith, none, length-words 4 ls),
      ea,
      eo ∙ ap (λ n. k * n) en ∙ mul-add k (a / k) (d / k) ∙ omega (arith, ea, ed),
    )
