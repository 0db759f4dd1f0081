-- One level forward and back: what a done call has passed and leaves, and that two results which a statement allows are equal.
-- Looks into no filter.
use mathlib.Core.Bool.{true, false, not}
use mathlib.Core.List.{List, ◌∷◌}
use mathlib.Core.Path.{◌≡◌, refl, sym, ap, ◌∙◌}
use Prim.Native.Nat.{ℕ, ◌+◌, ◌*◌, ◌/◌, ◌%◌, ◌≤◌, ◌<◌}
use native.Mathlib.Nat.{mul-mod_right, mul-div_right}
use native.Mathlib.Omega.{arith}
use borrow.Author.Tests.{le-ltb}
use lib.Dec.{eqb}
use lib.ListN.{length}
use Rattle.base_answers.specs.declared.err.Answer.{Answer}
use Rattle.base_answers.specs.Answers.{Outcome, told, done}
use Rattle.base_answers.specs.Checks.{ragged}
use Rattle.base_answers.proofs.Passed.{passing, through, whole, roomy, right}
use Rattle.base_answers.proofs.Chain.{same}
use Rattle.base_answers.proofs.Endings.{left-done}
use Rattle.base_lengths.specs.declared.Wavelet.{Wavelet}
use Rattle.base_lengths.specs.declared.Wavelet.TheVariants.{Cdf53, Cdf97}
use Rattle.base_lengths.specs.Lengths.{most_samples, approx_length, details_length, smallest_of, expected_approx, expected_details}
use Rattle.base_lengths.specs.Calls.{forward_checks, say_forward, inverse_checks, say_inverse, Level, Forward, Inverse}

-- lengths that an inverse expects are those of a level
pub expected : (w : Wavelet) (a d n : ℕ) → n ≡ a + d → a ≡ expected_approx n → d ≡ expected_details w n → (smallest_of w ≤ n) × (a ≡ approx_length n) × (d ≡ details_length n)
expected Cdf53 a d n e p q = (omega arith, omega arith, omega arith)
expected Cdf97 a d n e p q = (omega arith, omega arith, omega arith)

pub forward-ready : (w : Wavelet) (k x a d : ℕ) → done (say_forward w k x a d) ≡ true → Level w k (x / k) x a d
unfolding say_forward
forward-ready w k x a d h =
    let p = passing (ragged k x ∷ ragged k a ∷ ragged k d ∷ forward_checks w (x / k) (a / k) (d / k)) (told 0 0) h in
    let q = p.1.1.1 in
    record {
      long = roomy (x / k) (smallest_of w) q.1.0;
      short = roomy most_samples (x / k) q.0;
      samples = whole k x p.0;
      approx = whole k a p.1.0 ∙ ap (λ n. k * n) (right (a / k) (approx_length (x / k)) q.1.1.0);
      details = whole k d p.1.1.0 ∙ ap (λ n. k * n) (right (d / k) (details_length (x / k)) q.1.1.1.0);
    }

pub inverse-ready : (w : Wavelet) (k a d o : ℕ) → done (say_inverse w k a d o) ≡ true → Level w k (o / k) o a d
unfolding say_inverse
inverse-ready w k a d o h =
    let p = passing (ragged k a ∷ ragged k d ∷ ragged k o ∷ inverse_checks w (a / k) (d / k) (o / k)) (told 0 0) h in
    let q = p.1.1.1 in
    let r = q.1.1.1 in
    let e =
    expected w (a / k) (d / k) (o / k) (right (o / k) (a / k + d / k) r.0) (right (a / k) (expected_approx (o / k)) r.1.0) (right (d / k) (expected_details w (o / k)) r.1.1.0) in
    record {
      long = e.0;
      short = roomy most_samples (o / k) q.1.1.0;
      samples = whole k o p.1.1.0;
      approx = whole k a p.0 ∙ ap (λ n. k * n) e.1;
      details = whole k d p.1.0 ∙ ap (λ n. k * n) e.2;
    }

-- and a call on lengths that fit is done
pub whole-passes : (k n b : ℕ) → b ≡ k * n → not (eqb (b % k) 0) ≡ false
whole-passes k n b e = same (b % k) 0 (rw e (mul-mod_right k n))

pub count-is : (k n b : ℕ) → 0 < k → b ≡ k * n → b / k ≡ n
count-is k n b p e = rw e (mul-div_right n p)

pub forward-fits : (w : Wavelet) (k n x a d : ℕ) → 0 < k → Level w k n x a d → say_forward w k x a d ≡ told 0 0
unfolding say_forward
forward-fits w k n x a d p l =
    through (ragged k x ∷ ragged k a ∷ ragged k d ∷ forward_checks w (x / k) (a / k) (d / k)) (told 0 0)
    (rw (count-is k n x p l.samples, count-is k (approx_length n) a p l.approx, count-is k (details_length n) d p l.details) (
      whole-passes k n x l.samples,
      (
        whole-passes k (approx_length n) a l.approx,
        (
          whole-passes k (details_length n) d l.details,
          (le-ltb most_samples n l.short, (le-ltb n (smallest_of w) l.long, (same (approx_length n) (approx_length n) refl, (same (details_length n) (details_length n) refl, tt)))),
        ),
      ),
    ))

-- and the other way
pub expects : (w : Wavelet) (n : ℕ) → smallest_of w ≤ n → (n ≡ approx_length n + details_length n) × (approx_length n ≡ expected_approx n) × (details_length n ≡ expected_details w n)
expects Cdf53 n h = (omega arith, omega arith, omega arith)
expects Cdf97 n h = (omega arith, omega arith, omega arith)

pub inverse-fits : (w : Wavelet) (k n x a d : ℕ) → 0 < k → Level w k n x a d → say_inverse w k a d x ≡ told 0 0
unfolding say_inverse
inverse-fits w k n x a d p l =
    let e = expects w n l.long in
    through (ragged k a ∷ ragged k d ∷ ragged k x ∷ inverse_checks w (a / k) (d / k) (x / k)) (told 0 0)
    (rw (count-is k n x p l.samples, count-is k (approx_length n) a p l.approx, count-is k (details_length n) d p l.details) (
      whole-passes k (approx_length n) a l.approx,
      (
        whole-passes k (details_length n) d l.details,
        (
          whole-passes k n x l.samples,
          (
            le-ltb most_samples (approx_length n) (omega (arith, l.short)),
            (
              le-ltb most_samples (details_length n) (omega (arith, l.short)),
              (
                le-ltb most_samples n l.short,
                (same n (approx_length n + details_length n) e.0, (same (approx_length n) (expected_approx n) e.1, (same (details_length n) (expected_details w n) e.2, tt))),
              ),
            ),
          ),
        ),
      ),
    ))

module _ (w : Wavelet) (k : ℕ) (low high : List ℕ → List ℕ) (x a d : List ℕ) where
  abbrev said : Outcome
  said = say_forward w k (length x) (length a) (length d)

  -- what a call on lengths that fit leaves
  pub forward-ran : (n : ℕ) (r : Answer) (a' d' : List ℕ) → 0 < k → Level w k n (length x) (length a) (length d) → Forward w k low high x a d r a' d' → (a' ≡ low x) × (d' ≡ high x)
  forward-ran n r a' d' p l h =
      let t = ap done (forward-fits w k n (length x) (length a) (length d) p l) in
      (h.approx ∙ left-done said (low x) a t, h.details ∙ left-done said (high x) d t)

  -- two results that the statement allows are equal
  pub forward-decides : (r s : Answer) (a₁ d₁ a₂ d₂ : List ℕ) → Forward w k low high x a d r a₁ d₁ → Forward w k low high x a d s a₂ d₂ → (r ≡ s) × (a₁ ≡ a₂) × (d₁ ≡ d₂)
  forward-decides r s a₁ d₁ a₂ d₂ p q = (p.answer ∙ sym q.answer, p.approx ∙ sym q.approx, p.details ∙ sym q.details)

module _ (w : Wavelet) (k : ℕ) (back : List ℕ → List ℕ → List ℕ) (a d o : List ℕ) where
  abbrev said_back : Outcome
  said_back = say_inverse w k (length a) (length d) (length o)

  pub inverse-ran : (n : ℕ) (r : Answer) (o' : List ℕ) → 0 < k → Level w k n (length o) (length a) (length d) → Inverse w k back a d o r o' → o' ≡ back a d
  inverse-ran n r o' p l h = h.output ∙ left-done said_back (back a d) o (ap done (inverse-fits w k n (length o) (length a) (length d) p l))

  pub inverse-decides : (r s : Answer) (o₁ o₂ : List ℕ) → Inverse w k back a d o r o₁ → Inverse w k back a d o s o₂ → (r ≡ s) × (o₁ ≡ o₂)
  inverse-decides r s o₁ o₂ p q = (p.answer ∙ sym q.answer, p.output ∙ sym q.output)
