-- "Every driver passes it on unchanged", both ways: a 17 of `dwt` and of `multi_idwt` is the answer that the call of one level gives on that level's bands, and where
-- that call says 17, and nothing before the driver's bands is wrong, the driver says it; and `multi_dwt`, which is lent no band, says neither 2 nor 17. Looks into no filter.
use mathlib.Core.List.{List, ◌∷◌}
use mathlib.Core.Path.{◌≡◌, refl, sym, ap, ◌∙◌}
use Prim.Native.Nat.{ℕ, ◌+◌, ◌-◌, ◌*◌, ◌/◌, ◌≤◌, ◌<◌}
use native.Mathlib.Nat.{mul-add}
use native.Mathlib.Omega.{arith}
use lib.ListN.{length, get_or}
use lib.Dec.{leb}
use Rattle.base_answers.specs.declared.err.Answer.{Answer}
use Rattle.base_answers.specs.Answers.{told, say}
use Rattle.base_answers.specs.Checks.{first_refusal, ragged}
use Rattle.base_answers.proofs.Endings.{said-number}
use Rattle.base_lengths.specs.declared.Wavelet.{Wavelet}
use Rattle.base_lengths.specs.declared.Wavelet.TheVariants.{Cdf53, Cdf97}
use Rattle.base_lengths.specs.Lengths.{smallest_of, least_details}
use Rattle.base_lengths.specs.Levels.{count_at, levels_of}
use Rattle.base_lengths.proofs.Counts.{count-at-le}
use Rattle.base_lengths.proofs.Depths.{two-below, long-enough}
use Rattle.base_lengths.proofs.OneLevel.{count-is}
use Rattle.base_samples.specs.Words.{words_of}
use Rattle.levels_filter.specs.declared.filter.Filter.{Filter}
use Rattle.levels_filter.specs.Filters.{width_of, wavelet_of, low_of, high_of, back_of}
use Rattle.levels_filter.specs.Calls.{multi_checks, say_multi, OneForward, OneInverse, Dwt, Multi}
use Rattle.levels_filter.specs.Backward.{MultiBack}
use Rattle.levels_filter.proofs.Cuts.{width-pos}
use Rattle.levels_filter.proofs.Multi.{levels-pos, shallow-says}
use Rattle.law_wrong_band.specs.WrongBand.{ForwardBefore, DwtBefore, InverseBefore, BackBefore}
use Rattle.law_wrong_band.proofs.TwoBands.{quiet}
use Rattle.law_wrong_band.proofs.Calls.{forward-names, dwt-names}
use Rattle.law_wrong_band.proofs.Levels.{back-names}
use Rattle.law_wrong_band.proofs.Few.{inverse-few, few-inverse, back-few, few-back}

-- y is any recording as long as the last level's input
pub dwt-passes-on : (f : Filter) (l : ℕ) (x a d u v : List ℕ) (r : Answer) (a' d' u' v' : List ℕ) → Dwt f l x a d u v r a' d' u' v' → r.number ≡ 17
    → (y : List ℕ) → length y ≡ width_of f * count_at (levels_of l - 1) (length x / width_of f) → (q : Answer) (a'' d'' : List ℕ) → OneForward f y a d q a'' d'' → q ≡ r
dwt-passes-on f l x a d u v r a' d' u' v' h g y e q a'' d'' t =
    let k = width_of f in
    let w = wavelet_of f in
    let n = length x / k in
    let m = count_at (levels_of l - 1) n in
    let s = dwt-names f l x a d u v r a' d' u' v' h in
    let p = s.says-seventeen g in
    let c : length y / k ≡ m = count-is k m (length y) (width-pos f) e in
    let z = levels-pos l in
    let b : ForwardBefore w k (length y) (length a) (length d) =
    record {
      samples = e ∙ ap (λ (i : ℕ). k * i) (sym c);
      approx = p.0.approx;
      details = p.0.details;
      short = rw c (omega (arith, count-at-le (levels_of l - 1) n, p.0.short));
      long = rw c (long-enough (smallest_of w) (two-below w) (levels_of l) (levels_of l - 1) n p.0.deep (omega arith));
    } in
    (forward-names w k (low_of f) (high_of f) y a d q a'' d'' t).wrong.details-wrong b (rw c p.1) (rw c p.2) ∙ rw c (sym (s.wrong.details-wrong p.0 p.1 p.2))

-- and the other way: where nothing before the bands is wrong, a 17 of that call is the answer of `dwt`
pub dwt-from-forward : (f : Filter) (l : ℕ) (x a d u v : List ℕ) (r : Answer) (a' d' u' v' : List ℕ) → Dwt f l x a d u v r a' d' u' v'
    → DwtBefore f l (length x) (length a) (length d) (length u) (length v) → (y : List ℕ) → length y ≡ width_of f * count_at (levels_of l - 1) (length x / width_of f)
    → (q : Answer) (a'' d'' : List ℕ) → OneForward f y a d q a'' d'' → q.number ≡ 17 → r ≡ q
dwt-from-forward f l x a d u v r a' d' u' v' h b y e q a'' d'' t g =
    let k = width_of f in
    let m = count_at (levels_of l - 1) (length x / k) in
    let s = forward-names (wavelet_of f) k (low_of f) (high_of f) y a d q a'' d'' t in
    let p = s.says-seventeen g in
    let c : length y / k ≡ m = count-is k m (length y) (width-pos f) e in
    (dwt-names f l x a d u v r a' d' u' v' h).wrong.details-wrong b (rw c at p.1) (rw c at p.2) ∙ sym (rw c at (s.wrong.details-wrong p.0 p.1 p.2))

least-most : (w : Wavelet) → least_details w ≤ 2
least-most Cdf53 = omega arith
least-most Cdf97 = omega arith

-- the deepest level's approximations are a themselves, and e are any details as many as the list's first length
pub back-passes-on : (f : Filter) (a d ls o u v : List ℕ) (r : Answer) (o' u' v' : List ℕ) → MultiBack f a d ls o u v r o' u' v' → r.number ≡ 17
    → (m : ℕ) (rest : List ℕ) → words_of 4 ls ≡ m ∷ rest → (e s : List ℕ) → length e ≡ width_of f * m → length s ≡ length a + length e → (q : Answer) (s' : List ℕ) → OneInverse f a e s q s' → q ≡ r
back-passes-on f a d ls o u v r o' u' v' h g m rest lm e s ee es q s' t =
    let k = width_of f in
    let w = wavelet_of f in
    let i = length a / k in
    let j = length e / k in
    let c = ((back-names f a d ls o u v r o' u' v' h).says-seventeen g).0 in
    let x = back-few f a d ls o u v r o' u' v' h g in
    let same : x.deepest ≡ m = ap (λ (l : List ℕ). get_or l 0 0) (sym x.lengths ∙ lm) in
    let cj : j ≡ m = count-is k m (length e) (width-pos f) ee in
    let few : j < least_details w = rw (cj, sym same) x.few.details in
    let two : i ≡ 2 = x.few.approx in
    let all : length s ≡ k * (i + j) = es ∙ ap (λ (n : ℕ). n + length e) c.approx ∙ ap (λ (n : ℕ). k * i + n) (ee ∙ ap (λ (n : ℕ). k * n) (sym cj)) ∙ sym (mul-add k i j) in
    let n : length s / k ≡ i + j = count-is k (i + j) (length s) (width-pos f) all in
    let most = least-most w in
    let b : InverseBefore k (length a) (length e) (length s) =
    record {
      approx = c.approx;
      details = ee ∙ ap (λ (n : ℕ). k * n) (sym cj);
      output = all ∙ ap (λ (l : ℕ). k * l) (sym n);
      approx-short = omega (arith, two);
      details-short = omega (arith, few, most);
      output-short = omega (arith, n, two, few, most);
      sum = n;
    } in
    few-inverse w k (back_of f) a e s q s' t b two few ∙ ap (λ (i : ℕ). say 17 (least_details w) i) (cj ∙ sym same) ∙ sym x.few.answer

-- and the other way: where nothing before the bands is wrong, a 17 of that call, whatever its output, is the answer of `multi_idwt`
pub back-from-inverse : (f : Filter) (a d ls o u v : List ℕ) (r : Answer) (o' u' v' : List ℕ) → MultiBack f a d ls o u v r o' u' v'
    → BackBefore (width_of f) (length a) (length d) ls (length o) (length u) (length v) → (m : ℕ) (rest : List ℕ) → words_of 4 ls ≡ m ∷ rest
    → (e s : List ℕ) → length e ≡ width_of f * m → (q : Answer) (s' : List ℕ) → OneInverse f a e s q s' → q.number ≡ 17 → r ≡ q
back-from-inverse f a d ls o u v r o' u' v' h b m rest lm e s ee q s' t g =
    let k = width_of f in
    let w = wavelet_of f in
    let x = inverse-few w k (back_of f) a e s q s' t g in
    let cj : length e / k ≡ m = count-is k m (length e) (width-pos f) ee in
    few-back f a d ls o u v r o' u' v' h b m rest lm x.approx (rw cj at x.details) ∙ sym (rw cj at x.answer)

-- ---- `multi_dwt`

pub multi-never : (f : Filter) (l : ℕ) (x o u v : List ℕ) (r : Answer) (o' u' v' : List ℕ) → Multi f l x o u v r o' u' v' → (r.number ≡ 2 → ⊥) × (r.number ≡ 17 → ⊥)
unfolding say_multi
multi-never f l x o u v r o' u' v' h =
    let k = width_of f in
    let n = length x / k in
    let t = leb l 1 in
    let all = ragged k (length x) ∷ ragged k (length o) ∷ ragged k (length u) ∷ ragged k (length v) ∷ multi_checks f l (length x / k) (length o / k) (length u / k) (length v / k) in (
      (λ g. quiet 2 all (refl, (refl, (refl, (refl, (refl, (shallow-says 2 refl refl f n t, (refl, (refl, (refl, tt))))))))) refl (said-number 2 (first_refusal all (told 0 0)) r h.answer g)),
      (λ g. quiet 17 all (refl, (refl, (refl, (refl, (refl, (shallow-says 17 refl refl f n t, (refl, (refl, (refl, tt))))))))) refl (said-number 17 (first_refusal all (told 0 0)) r h.answer g)),
    )
