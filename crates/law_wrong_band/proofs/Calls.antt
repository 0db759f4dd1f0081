-- Forward, inverse and `dwt`: 2 is said of wrong approximations, 17 of wrong details, and neither elsewhere. Looks into no filter.
use mathlib.Core.List.{List, [], ◌∷◌}
use mathlib.Core.Path.{◌≡◌, refl}
use mathlib.Core.Bool.{false, not}
use Prim.Native.Nat.{ℕ, ◌+◌, ◌-◌, ◌*◌, ◌/◌, ◌%◌}
use borrow.Author.Tests.{le-ltb}
use lib.Dec.{ltb, eqb}
use lib.ListN.{length}
use Rattle.base_answers.specs.declared.err.Answer.{Answer}
use Rattle.base_answers.specs.declared.err.Refusal.TheVariants.{MinFilterSize, OutputSizeIsNotValid, BufferWasTooSmallForLevel, TooLong}
use Rattle.base_answers.specs.Checks.{ragged, two_areas}
use Rattle.base_answers.proofs.Chain.{same}
use Rattle.base_answers.proofs.Passed.{whole, roomy, right}
use Rattle.base_lengths.specs.declared.Wavelet.{Wavelet}
use Rattle.base_lengths.specs.Lengths.{most_samples, approx_length, details_length, smallest_of, expected_approx, expected_details}
use Rattle.base_lengths.specs.Levels.{count_at, depth_of, levels_of}
use Rattle.base_lengths.specs.Calls.{say_forward, say_inverse, Forward, Inverse}
use Rattle.base_lengths.proofs.OneLevel.{whole-passes}
use Rattle.levels_filter.specs.declared.filter.Filter.{Filter}
use Rattle.levels_filter.specs.Filters.{width_of, wavelet_of}
use Rattle.levels_filter.specs.Calls.{say_dwt, Dwt}
use Rattle.law_wrong_band.specs.WrongBand.{ForwardBefore, DwtBefore, InverseBefore, Names}
use Rattle.law_wrong_band.proofs.TwoBands.{names}

-- a whole byte length passes
pub is_whole : (k b : ℕ) → b ≡ k * (b / k) → not (eqb (b % k) 0) ≡ false
is_whole k b e = whole-passes k (b / k) b e

pub forward-names : (w : Wavelet) (k : ℕ) (low high : List ℕ → List ℕ) (x a d : List ℕ) (r : Answer) (a' d' : List ℕ) → Forward w k low high x a d r a' d'
    → let n = length x / k in
    let i = length a / k in
    let j = length d / k in
    Names (ForwardBefore w k (length x) (length a) (length d)) i (approx_length n) j (details_length n) (i, n) (j, n) r
unfolding say_forward
forward-names w k low high x a d r a' d' h =
    let n = length x / k in
    let i = length a / k in
    let j = length d / k in
    names (ragged k (length x) ∷ ragged k (length a) ∷ ragged k (length d) ∷ (ltb most_samples n, TooLong) ∷ (ltb n (smallest_of w), MinFilterSize n (smallest_of w)) ∷ []) []
    i (approx_length n) j (details_length n) (i, n) (j, n) r
    (λ b. (is_whole k (length x) b.samples, (is_whole k (length a) b.approx, (is_whole k (length d) b.details, (le-ltb most_samples n b.short, (le-ltb n (smallest_of w) b.long, tt))))))
    (λ p.
    let q = p.1.1.1 in
    record { samples = whole k (length x) p.0; approx = whole k (length a) p.1.0; details = whole k (length d) p.1.1.0; short = roomy most_samples n q.0; long = roomy n (smallest_of w) q.1.0 })
    (refl, (refl, (refl, (refl, (refl, tt))))) (refl, (refl, (refl, (refl, (refl, tt))))) tt tt h.answer

pub dwt-names : (f : Filter) (l : ℕ) (x a d u v : List ℕ) (r : Answer) (a' d' u' v' : List ℕ) → Dwt f l x a d u v r a' d' u' v'
    → let k = width_of f in
    let m = count_at (levels_of l - 1) (length x / k) in
    let i = length a / k in
    let j = length d / k in
    Names (DwtBefore f l (length x) (length a) (length d) (length u) (length v)) i (approx_length m) j (details_length m) (i, m) (j, m) r
unfolding say_dwt
dwt-names f l x a d u v r a' d' u' v' h =
    let k = width_of f in
    let n = length x / k in
    let w = wavelet_of f in
    let m = count_at (levels_of l - 1) n in
    let i = length a / k in
    let j = length d / k in
    names
    (ragged k (length x) ∷ ragged k (length a) ∷ ragged k (length d) ∷ ragged k (length u) ∷ ragged k (length v)
    ∷ (ltb most_samples n, TooLong) ∷ (ltb (depth_of w n) (levels_of l), BufferWasTooSmallForLevel) ∷ [])
    (two_areas (length u / k) (length v / k) n)
    i (approx_length m) j (details_length m) (i, m) (j, m) r
    (λ b. (
      is_whole k (length x) b.samples,
      (
        is_whole k (length a) b.approx,
        (is_whole k (length d) b.details, (is_whole k (length u) b.first, (is_whole k (length v) b.second, (le-ltb most_samples n b.short, (le-ltb (depth_of w n) (levels_of l) b.deep, tt))))),
      ),
    ))
    (λ p.
    let q = p.1.1.1.1.1 in
    record {
      samples = whole k (length x) p.0;
      approx = whole k (length a) p.1.0;
      details = whole k (length d) p.1.1.0;
      first = whole k (length u) p.1.1.1.0;
      second = whole k (length v) p.1.1.1.1.0;
      short = roomy most_samples n q.0;
      deep = roomy (depth_of w n) (levels_of l) q.1.0;
    })
    (refl, (refl, (refl, (refl, (refl, (refl, (refl, tt))))))) (refl, (refl, (refl, (refl, (refl, (refl, (refl, tt))))))) (refl, (refl, tt)) (refl, (refl, tt)) h.answer

pub inverse-names : (w : Wavelet) (k : ℕ) (back : List ℕ → List ℕ → List ℕ) (a d o : List ℕ) (r : Answer) (o' : List ℕ) → Inverse w k back a d o r o'
    → let n = length o / k in
    let i = length a / k in
    let j = length d / k in
    Names (InverseBefore k (length a) (length d) (length o)) i (expected_approx n) j (expected_details w n) (expected_approx n, i) (expected_details w n, j) r
unfolding say_inverse
inverse-names w k back a d o r o' h =
    let n = length o / k in
    let i = length a / k in
    let j = length d / k in
    names
    (ragged k (length a) ∷ ragged k (length d) ∷ ragged k (length o) ∷ (ltb most_samples i, TooLong) ∷ (ltb most_samples j, TooLong) ∷ (ltb most_samples n, TooLong)
    ∷ (not (eqb n (i + j)), OutputSizeIsNotValid n (i + j)) ∷ [])
    [] i (expected_approx n) j (expected_details w n) (expected_approx n, i) (expected_details w n, j) r
    (λ b. (
      is_whole k (length a) b.approx,
      (
        is_whole k (length d) b.details,
        (
          is_whole k (length o) b.output,
          (le-ltb most_samples i b.approx-short, (le-ltb most_samples j b.details-short, (le-ltb most_samples n b.output-short, (same n (i + j) b.sum, tt)))),
        ),
      ),
    ))
    (λ p.
    let q = p.1.1.1 in
    record {
      approx = whole k (length a) p.0;
      details = whole k (length d) p.1.0;
      output = whole k (length o) p.1.1.0;
      approx-short = roomy most_samples i q.0;
      details-short = roomy most_samples j q.1.0;
      output-short = roomy most_samples n q.1.1.0;
      sum = right n (i + j) q.1.1.1.0;
    })
    (refl, (refl, (refl, (refl, (refl, (refl, (refl, tt))))))) (refl, (refl, (refl, (refl, (refl, (refl, (refl, tt))))))) tt tt h.answer
