-- From what a call says to the facts: it has passed each check before the one that says it, and a call that is done has passed them all.
use mathlib.Core.Bool.{Bool, true, false, cond, not}
use mathlib.Core.List.{List, [], ◌∷◌, ◌++◌, append-nil}
use mathlib.Core.Path.{◌≡◌, refl, sym, ap, subst, ◌∙◌}
use Prim.Native.Nat.{ℕ, ◌*◌, ◌/◌, ◌%◌, ◌≤◌}
use native.Mathlib.Nat.{div-add-mod}
use native.Mathlib.Omega.{arith}
use borrow.Author.Tests.{ltb-false, eqb-true, not-false}
use lib.Dec.{T, ltb, eqb}
use Rattle.base_answers.specs.declared.err.Refusal.{Refusal}
use Rattle.std.specs.Prelude.{Result, Ok, Err}
use Rattle.base_answers.specs.Answers.{Outcome, says, done}
use Rattle.base_answers.specs.Checks.{Check, first_refusal, passes}

-- a test that passes does not refuse
pub off : {A : Type 0} {t : Bool} → t ≡ false → t ≡ true → A
off p q = let z : true ≡ false = sym q ∙ p in absurd (subst T z tt)

-- each check of the list passes
abbrev pub Passing : List Check → Type 0
Passing [] = Unit {0}
Passing (p ∷ rest) = (p.0 ≡ false) × Passing rest

-- where a list lets a call be done, each check passes
pub passing : {A : Type 0} (l : List Check) (s : Result A Refusal) → done (first_refusal l s) ≡ true → Passing l
passing [] s h = tt
passing (p ∷ l) s h = pick p.0 (passing l s) h
  where
    pick : (t : Bool) → (done (first_refusal l s) ≡ true → Passing l) → done (cond t (Err p.1) (first_refusal l s)) ≡ true → (t ≡ false) × Passing l
    pick true f h = off (sym h) refl
    pick false f h = (refl, f h)

-- of two lists, both
pub both-pass : (l m : List Check) → Passing (l ++ m) → Passing l × Passing m
both-pass [] m h = (tt, h)
both-pass (p ∷ l) m h = let b = both-pass l m h.1 in ((h.0, b.0), b.1)

pub pass-both : (l m : List Check) → Passing l → Passing m → Passing (l ++ m)
pass-both [] m h g = g
pass-both (p ∷ l) m h g = (h.0, pass-both l m h.1 g)

-- and a call whose checks all pass says s
pub through : {A : Type 0} (l : List Check) (s : Result A Refusal) → Passing l → first_refusal l s ≡ s
through [] s h = refl
through (p ∷ rest) s h = ap (λ t. cond t (Err p.1) (first_refusal rest s)) h.0 ∙ through rest s h.1

-- checks that all pass leave the rest to decide
pub pass_on : {A : Type 0} (l m : List Check) (s : Result A Refusal) → Passing l → first_refusal (l ++ m) s ≡ first_refusal m s
pass_on [] m s h = refl
pass_on (p ∷ l) m s h = ap (λ t. cond t (Err p.1) (first_refusal (l ++ m) s)) h.0 ∙ pass_on l m s h.1

-- ---- a call that asks a first part of its checks and goes on with `?`

-- the first part passes: all of its checks do
pub passed : {B : Type 0} (l : List Check) (v : B) {w : B} → first_refusal l (Ok v) ≡ Ok w → Passing l
passed l v e = passing l (Ok v) (ap done e)

-- and the rest decides
pub goes : {A B : Type 0} (l m : List Check) (v : B) (s : Result A Refusal) {w : B} → first_refusal l (Ok v) ≡ Ok w → first_refusal (l ++ m) s ≡ first_refusal m s
goes l m v s e = pass_on l m s (passed l v e)

-- the first part refuses: so does the whole, whatever comes after it
pub stops : {A B : Type 0} (l m : List Check) (v : B) (s : Result A Refusal) {e : Refusal} → first_refusal l (Ok v) ≡ Err e → first_refusal (l ++ m) s ≡ Err e
stops [] m v s h = absurd (cc)
stops (p ∷ l) m v s {e} h = pick p.0 (stops l m v s) h
  where
    pick : (t : Bool) → (first_refusal l (Ok v) ≡ Err e → first_refusal (l ++ m) s ≡ Err e) → cond t (Err p.1) (first_refusal l (Ok v)) ≡ Err e → cond t (Err p.1) (first_refusal (l ++ m) s) ≡ Err e
    pick true f h = let q : p.1 ≡ e = cc in ap Err q
    pick false f h = f h

-- however a list ends that refuses, it says the same
pub stops-so : {A B : Type 0} (l : List Check) (v : B) (s : Result A Refusal) {e : Refusal} → first_refusal l (Ok v) ≡ Err e → first_refusal l s ≡ Err e
stops-so l v s h = ap (λ (m : List Check). first_refusal m s) (sym (append-nil l)) ∙ stops l [] v s h

-- a list, and what is said after it, as a call asks them that goes on with `?`. A lemma that says this of a definition of specs/ is what the check needs at the exits
pub joined : {A : Type 0} (l m : List Check) (s : Result A Refusal) → first_refusal (l ++ m) s ≡ first_refusal l (first_refusal m s)
joined [] m s = refl
joined (p ∷ l) m s = ap (cond p.0 (Err p.1)) (joined l m s)

abbrev pub and_then : {A B : Type 0} → Result B Refusal → (B → Result A Refusal) → Result A Refusal
and_then (Ok v) f = f v
and_then (Err e) f = Err e

pub asked : {A B : Type 0} (l : List Check) (v : B) (f : B → Result A Refusal) → first_refusal l (f v) ≡ and_then (first_refusal l (Ok v)) f
asked [] v f = refl
asked (p ∷ l) v f = pick p.0 (asked l v f)
  where
    pick : (t : Bool) → first_refusal l (f v) ≡ and_then (first_refusal l (Ok v)) f → cond t (Err p.1) (first_refusal l (f v)) ≡ and_then (cond t (Err p.1) (first_refusal l (Ok v))) f
    pick true h = refl
    pick false h = h

-- of a list in two parts
pub in_turn : {A B : Type 0} (l m : List Check) (v : B) (s : Result A Refusal) → first_refusal (l ++ m) s ≡ and_then (first_refusal l (Ok v)) (λ _. first_refusal m s)
in_turn l m v s = joined l m s ∙ asked l v (λ _. first_refusal m s)

-- ---- a number that only some checks refuse with

-- no check of the list refuses with the number n
abbrev pub Without : ℕ → List Check → Type 0
Without n [] = Unit {0}
Without n (p ∷ rest) = (says n (Err p.1) ≡ false) × Without n rest

-- a first part that does not say n has passed where the list says n, and the rest says it
pub passed-before : (n : ℕ) (l m : List Check) (s : Outcome) → Without n l → says n (first_refusal (l ++ m) s) ≡ true → Passing l × (says n (first_refusal m s) ≡ true)
passed-before n [] m s r h = (tt, h)
passed-before n (p ∷ l) m s r h = pick p.0 (passed-before n l m s r.1) r.0 h
  where
    pick : (t : Bool) → (says n (first_refusal (l ++ m) s) ≡ true → Passing l × (says n (first_refusal m s) ≡ true)) → says n (Err p.1) ≡ false
        → says n (cond t (Err p.1) (first_refusal (l ++ m) s)) ≡ true → ((t ≡ false) × Passing l) × (says n (first_refusal m s) ≡ true)
    pick true f q h = off q h
    pick false f q h = let o = f h in ((refl, o.0), o.1)

-- what a byte length that is not ragged tells
pub whole : (k b : ℕ) → not (eqb (b % k) 0) ≡ false → b ≡ k * (b / k)
whole k b h =
    let z : b % k ≡ 0 = eqb-true (b % k) 0 (not-false (eqb (b % k) 0) h) in
    omega (arith, div-add-mod b k)

-- what an area that is not tight tells
pub roomy : (have need : ℕ) → ltb have need ≡ false → need ≤ have
roomy have need h = ltb-false have need h

-- what a length that is not wrong tells
pub right : (x y : ℕ) → not (eqb x y) ≡ false → x ≡ y
right x y h = eqb-true x y (not-false (eqb x y) h)
