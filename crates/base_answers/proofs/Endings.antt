-- The two ends of a call, done and refused; and from "refused" to "nothing changed".
use mathlib.Core.Bool.{true, false, cond}
use mathlib.Core.List.{List}
use mathlib.Core.Path.{◌≡◌, refl, sym, ap, ◌∙◌}
use Prim.Native.Nat.{ℕ}
use borrow.Author.Tests.{eq-eqb, ne_eqb}
use lib.ListN.{drop}
use Rattle.std.specs.Prelude.{Result, Ok, Err}
use Rattle.base_answers.specs.declared.err.Refusal.{Refusal}
use Rattle.base_answers.specs.declared.err.Answer.{Answer}
use Rattle.base_answers.specs.Answers.{Outcome, answer_of, says, done}
use Rattle.base_answers.specs.Checks.{left, Spared, Call}
use Rattle.base_answers.proofs.Tells.{done-number}

-- the number tells what the call says, and whether it is done
pub said-number : (n : ℕ) (s : Outcome) (r : Answer) → r ≡ answer_of s → r.number ≡ n → says n s ≡ true
said-number n s r e h = eq-eqb (answer_of s).number n (sym (ap (λ (q : Answer). q.number) e) ∙ h)

pub is-done : (s : Outcome) (r : Answer) → r ≡ answer_of s → r.number ≡ 0 → done s ≡ true
is-done s r e z = sym (done-number s) ∙ said-number 0 s r e z

pub not_done : (s : Outcome) (r : Answer) → r ≡ answer_of s → (r.number ≡ 0 → ⊥) → done s ≡ false
not_done s r e z = sym (done-number s) ∙ ne_eqb (answer_of s).number 0 (λ q. z (ap (λ (q : Answer). q.number) e ∙ q))

-- a lent slice after a done call, and after a refused one
pub left-done : (s : Outcome) (new old : List ℕ) → done s ≡ true → left s new old ≡ new
left-done s new old e = ap (λ t. cond t new old) e

pub left-refused : (s : Outcome) (new old : List ℕ) → done s ≡ false → left s new old ≡ old
left-refused s new old e = ap (λ t. cond t new old) e

-- a work area that is as it was from k on
pub spared : (s : Outcome) (k : ℕ) (before after : List ℕ) → done s ≡ true → drop k after ≡ drop k before → Spared s k before after
unfolding Spared
spared s k before after e h = rw e h

-- a work area that was not touched
pub untouched : (s : Outcome) (k : ℕ) (a : List ℕ) → Spared s k a a
unfolding Spared
untouched s k a = refl

-- after a refused call a work area is what it was
pub spared-refused : (s : Outcome) (k : ℕ) (before after : List ℕ) → done s ≡ false → Spared s k before after → after ≡ before
unfolding Spared
spared-refused s k before after e h = rw e at h

-- ---- a call with an output and two work areas

pub call-done : {s : Outcome} {v : ℕ × ℕ} {r : Answer} {k : ℕ} {new o u w o' u' w' : List ℕ} → s ≡ Ok v → r ≡ answer_of s → o' ≡ new → drop k u' ≡ drop k u → drop k w' ≡ drop k w
    → Call s k new o u w r o' u' w'
call-done {s} {k = k} {new = new} {o = o} {u = u} {w = w} {u' = u'} {w' = w'} es er e hu hw =
    let d : done s ≡ true = ap done es in
    record { answer = er; output = e ∙ sym (left-done s new o d); first = spared s k u u' d hu; second = spared s k w w' d hw }

pub call-refused : {s : Outcome} {e : Refusal} {r : Answer} {k : ℕ} {new o u v : List ℕ} → s ≡ Err e → r ≡ answer_of s → Call s k new o u v r o u v
call-refused {s} {k = k} {new = new} {o = o} {u = u} {v = v} es er =
    record { answer = er; output = sym (left-refused s new o (ap done es)); first = untouched s k u; second = untouched s k v }

-- two results that it allows are equal, the fronts of the work areas apart
pub call-decides : {s : Outcome} {k : ℕ} {new o u v : List ℕ} {r q : Answer} {o₁ u₁ v₁ o₂ u₂ v₂ : List ℕ} → Call s k new o u v r o₁ u₁ v₁ → Call s k new o u v q o₂ u₂ v₂
    → let m = cond (done s) k 0 in (r ≡ q) × (o₁ ≡ o₂) × (drop m u₁ ≡ drop m u₂) × (drop m v₁ ≡ drop m v₂)
unfolding Spared
call-decides a b = (a.answer ∙ sym b.answer, a.output ∙ sym b.output, a.first ∙ sym b.first, a.second ∙ sym b.second)
