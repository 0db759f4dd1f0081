-- 17 of the inverse and of `multi_idwt`: 2 approximations with too few details, at the deepest level.
use mathlib.Core.List.{List, [], ◌∷◌, ◌++◌}
use mathlib.Core.Logic.{⊎_elim}
use mathlib.Core.Path.{◌≡◌, ap, ◌∙◌}
use Prim.Native.Nat.{ℕ, ◌+◌, ◌/◌, ◌≤◌, ◌<◌}
use native.Mathlib.Omega.{arith}
use lib.ListN.{length}
use Rattle.base_order.proofs.Order.{lt-or-le}
use Rattle.base_answers.specs.declared.err.Answer.{Answer}
use Rattle.base_answers.specs.Answers.{say}
use Rattle.base_lengths.specs.declared.Wavelet.{Wavelet}
use Rattle.base_lengths.specs.declared.Wavelet.TheVariants.{Cdf53, Cdf97}
use Rattle.base_lengths.specs.Lengths.{least_details, expected_details}
use Rattle.base_lengths.specs.Calls.{Inverse}
use Rattle.base_samples.specs.Words.{words_of}
use Rattle.levels_filter.specs.declared.filter.Filter.{Filter}
use Rattle.levels_filter.specs.Filters.{width_of, wavelet_of}
use Rattle.levels_filter.specs.Backward.{total, MultiBack, Fits}
use Rattle.law_wrong_band.specs.WrongBand.{InverseBefore, BackBefore, LevelAt, WrongDetails, Few, FewDeepest}
use Rattle.law_wrong_band.proofs.Calls.{inverse-names}
use Rattle.law_wrong_band.proofs.Levels.{back-names}

-- where the approximations are right, only these details are wrong
few : (w : Wavelet) (a d : ℕ) → WrongDetails w a d → (a ≡ 2) × (d < least_details w) × (expected_details w (a + d) ≡ least_details w)
few Cdf53 a d h = ⊎_elim (λ l. (omega (arith, h.0), l, omega (arith, h.0))) (λ l. absurd (h.1 (omega (arith, h.0)))) (lt-or-le d 1)
few Cdf97 a d h = ⊎_elim (λ l. (omega (arith, h.0), l, omega (arith, h.0))) (λ l. absurd (h.1 (omega (arith, h.0)))) (lt-or-le d 2)

-- and they are
few-wrong : (w : Wavelet) (a d : ℕ) → a ≡ 2 → d < least_details w → WrongDetails w a d
few-wrong Cdf53 a d e h = (omega arith, λ z. omega arith)
few-wrong Cdf97 a d e h = (omega arith, λ z. omega arith)

module _ (w : Wavelet) (k : ℕ) (back : List ℕ → List ℕ → List ℕ) (a d o : List ℕ) (r : Answer) (o' : List ℕ) (h : Inverse w k back a d o r o') where
  abbrev i : ℕ
  i = length a / k

  abbrev j : ℕ
  j = length d / k

  -- the answer of an inverse whose details alone are wrong
  few-says : InverseBefore k (length a) (length d) (length o) → WrongDetails w i j → r ≡ say 17 (least_details w) j
  few-says b g =
      let e : length o / k ≡ i + j = b.sum in
      (inverse-names w k back a d o r o' h).wrong.details-wrong b (rw e g.0) (rw e g.1) ∙ ap (λ (m : ℕ). say 17 m j) (ap (expected_details w) e ∙ (few w i j g).2)

  pub inverse-few : r.number ≡ 17 → Few w i j r
  inverse-few g =
      let s = (inverse-names w k back a d o r o' h).says-seventeen g in
      let e : length o / k ≡ i + j = s.0.sum in
      let x : WrongDetails w i j = (rw e at s.1, rw e at s.2) in
      let f = few w i j x in
      record { approx = f.0; details = f.1; answer = few-says s.0 x }

  pub few-inverse : InverseBefore k (length a) (length d) (length o) → i ≡ 2 → j < least_details w → r ≡ say 17 (least_details w) j
  few-inverse b e g = few-says b (few-wrong w i j e g)

-- levels that fit restore 3 or more
restores : (w : Wavelet) (a m : ℕ) (ms : List ℕ) → Fits w a (m ∷ ms) → 3 ≤ a + total (m ∷ ms)
unfolding Fits total
restores Cdf53 a m ms h = omega (arith, h.0)
restores Cdf97 a m ms h = omega (arith, h.0)

-- so the level with 2 approximations is the deepest
first-level : (w : Wavelet) (a : ℕ) (ms : List ℕ) (t : LevelAt w a ms) → t.approx ≡ 2 → (a ≡ 2) × (ms ≡ t.details ∷ t.finer)
unfolding total
first-level w a ms t e = none t.deeper t.fits t.lengths t.restored
  where
    none : (xs : List ℕ) → Fits w a xs → ms ≡ xs ++ (t.details ∷ t.finer) → t.approx ≡ a + total xs → (a ≡ 2) × (ms ≡ t.details ∷ t.finer)
    none [] f l s = (omega (arith, e, s), l)
    none (x ∷ xs) f l s = absurd (omega (arith, e, s, restores w a x xs f))

module _ (f : Filter) (a d ls o u v : List ℕ) (r : Answer) (o' u' v' : List ℕ) (h : MultiBack f a d ls o u v r o' u' v') where
  abbrev held : ℕ
  held = length a / width_of f

  abbrev ms : List ℕ
  ms = words_of 4 ls

  -- the answer of a `multi_idwt` that finds the details of a level alone wrong
  level-says : BackBefore (width_of f) (length a) (length d) ls (length o) (length u) (length v) → (t : LevelAt (wavelet_of f) held ms) → WrongDetails (wavelet_of f) t.approx t.details
      → r ≡ say 17 (least_details (wavelet_of f)) t.details
  level-says b t g =
      ((back-names f a d ls o u v r o' u' v' h).wrong t).details-wrong b g.0 g.1 ∙ ap (λ (m : ℕ). say 17 m t.details) (few (wavelet_of f) t.approx t.details g).2

  pub back-few : r.number ≡ 17 → FewDeepest (wavelet_of f) held ms r
  back-few g =
      let s = (back-names f a d ls o u v r o' u' v' h).says-seventeen g in
      let t = s.1.level in
      let x = few (wavelet_of f) t.approx t.details s.1.wrong in
      let z = first-level (wavelet_of f) held ms t x.0 in
      record { deepest = t.details; finer = t.finer; lengths = z.1; few = record { approx = z.0; details = x.1; answer = level-says s.0 t s.1.wrong } }

  pub few-back : BackBefore (width_of f) (length a) (length d) ls (length o) (length u) (length v) → (m : ℕ) (rest : List ℕ) → ms ≡ m ∷ rest → held ≡ 2 → m < least_details (wavelet_of f)
      → r ≡ say 17 (least_details (wavelet_of f)) m
  unfolding Fits total
  few-back b m rest l e g =
      level-says b (record { deeper = []; details = m; finer = rest; lengths = l; fits = tt; approx = held; restored = omega arith }) (few-wrong (wavelet_of f) held m e g)
