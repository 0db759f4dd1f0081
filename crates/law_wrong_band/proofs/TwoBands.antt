-- A list of checks with the two of a level's bands in it: what it says of a wrong band, and of which band a 2 or a 17 is.
use mathlib.Core.Bool.{Bool, true, false, not}
use mathlib.Core.List.{List, [], ◌∷◌, ◌++◌, append-nil}
use mathlib.Core.Logic.{◌⊎◌, inl, inr, ⊎_elim}
use mathlib.Core.Path.{◌≡◌, refl, sym, ap, ◌∙◌}
use Prim.Native.Nat.{ℕ}
use borrow.Author.Tests.{eqb-false, not-true}
use lib.Dec.{eqb}
use Rattle.base_answers.specs.declared.err.Answer.{Answer}
use Rattle.base_answers.specs.declared.err.Refusal.TheVariants.{ApproxSizeNotMatches, DetailsSizeNotMatches}
use Rattle.std.specs.Prelude.{Err}
use Rattle.base_answers.specs.declared.err.Refusal.{Refusal}
use Rattle.base_answers.specs.Answers.{Outcome, told, answer_of, says}
use Rattle.base_answers.specs.Checks.{Check, first_refusal}
use Rattle.base_answers.proofs.Chain.{by, stop, same, other}
use Rattle.base_answers.proofs.Endings.{said-number}
use Rattle.base_answers.proofs.Passed.{off, Without, Passing, passed-before, pass_on, right}
use Rattle.law_wrong_band.specs.WrongBand.{Named, Names}

-- which of the two says n, or that the rest does
pub either : (n : ℕ) (b c : Bool) (x y : Refusal) (m : List Check) (e : Outcome) → says n (first_refusal ((b, x) ∷ (c, y) ∷ m) e) ≡ true
    → ((b ≡ true) × (says n (Err x) ≡ true)) ⊎ (((b ≡ false) × (c ≡ true) × (says n (Err y) ≡ true)) ⊎ ((b ≡ false) × (c ≡ false) × (says n (first_refusal m e) ≡ true)))
either n true c x y m e h = inl (refl, h)
either n false true x y m e h = inr (inl (refl, refl, h))
either n false false x y m e h = inr (inr (refl, refl, h))

-- what a length that is wrong tells
pub differs : (x y : ℕ) → not (eqb x y) ≡ true → x ≡ y → ⊥
differs x y h = eqb-false x y (not-true (eqb x y) h)

-- a list in which no check says n, and that a done call ends, does not say n
pub quiet : {A : Type 0} (n : ℕ) (m : List Check) → Without n m → says n (told 0 0) ≡ false → says n (first_refusal m (told 0 0)) ≡ true → A
quiet n m o z h = off z (passed-before n m [] (told 0 0) o (ap (λ (l : List Check). says n (first_refusal l (told 0 0))) (append-nil m) ∙ h)).1

-- a level has a approximations and d details where `right_a` and `right_d` are right
abbrev pub bands : (a right_a d right_d : ℕ) (p q : ℕ × ℕ) → List Check
bands a right_a d right_d p q = (not (eqb a right_a), ApproxSizeNotMatches p.0 p.1) ∷ (not (eqb d right_d), DetailsSizeNotMatches q.0 q.1) ∷ []

-- l is what is looked at before them
pub named : {Before : Type 0} (l m : List Check) (a right_a d right_d : ℕ) (p q : ℕ × ℕ) (r : Answer) → (Before → Passing l) → r ≡ answer_of (first_refusal (l ++ (bands a right_a d right_d p q ++ m)) (told 0 0))
    → Named Before a right_a d right_d p q r
named l m a right_a d right_d p q r to e =
    let rest = bands a right_a d right_d p q ++ m in
    record {
      approx-wrong = λ b h. e ∙ ap answer_of (pass_on l rest (told 0 0) (to b) ∙ sym (stop _ (other a right_a h) refl));
      details-wrong = λ b g h. e ∙ ap answer_of (pass_on l rest (told 0 0) (to b) ∙ sym (by _ (same a right_a g) (stop _ (other d right_d h) refl)));
    }

-- and m after them; no check of either says 2 or 17
pub names : {Before : Type 0} (l m : List Check) (a right_a d right_d : ℕ) (p q : ℕ × ℕ) (r : Answer) → (Before → Passing l) → (Passing l → Before) → Without 2 l → Without 17 l → Without 2 m → Without 17 m
    → r ≡ answer_of (first_refusal (l ++ (bands a right_a d right_d p q ++ m)) (told 0 0)) → Names Before a right_a d right_d p q r
names l m a right_a d right_d p q r to from l2 l17 m2 m17 e =
    let rest = bands a right_a d right_d p q ++ m in
    let s = first_refusal (l ++ rest) (told 0 0) in
    let two = ApproxSizeNotMatches p.0 p.1 in
    let seventeen = DetailsSizeNotMatches q.0 q.1 in
    record {
      wrong = named l m a right_a d right_d p q r to e;
      says_two = λ h.
          let o = passed-before 2 l rest (told 0 0) l2 (said-number 2 s r e h) in
          (from o.0, ⊎_elim (λ t. differs a right_a t.0) (λ f. ⊎_elim (λ t. off refl t.2) (λ t. quiet 2 m m2 refl t.2) f) (either 2 (not (eqb a right_a)) (not (eqb d right_d)) two seventeen m (told 0 0) o.1));
      says-seventeen = λ h.
          let o = passed-before 17 l rest (told 0 0) l17 (said-number 17 s r e h) in
          let f : (a ≡ right_a) × (d ≡ right_d → ⊥) =
          ⊎_elim (λ t. off refl t.1) (λ f. ⊎_elim (λ t. (right a right_a t.0, differs d right_d t.1)) (λ t. quiet 17 m m17 refl t.2) f)
          (either 17 (not (eqb a right_a)) (not (eqb d right_d)) two seventeen m (told 0 0) o.1) in
          (from o.0, f.0, f.1);
    }
