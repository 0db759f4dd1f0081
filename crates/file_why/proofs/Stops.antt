-- Any list of checks: what holds of each refusal holds of what the list says; and the check that decides, with those before it, which all pass.
use mathlib.Core.Bool.{Bool, true, false, cond}
use mathlib.Core.List.{List, [], ◌∷◌}
use mathlib.Core.Path.{◌≡◌, refl, ap}
use Rattle.std.specs.Prelude.{Err}
use Rattle.base_answers.specs.Answers.{Outcome, done}
use Rattle.base_answers.specs.Checks.{Check, first_refusal}
use Rattle.base_answers.proofs.Passed.{Passing, off}
use Rattle.file_why.specs.Laws.{StoppedBy}

-- of each refusal of the list, where its test refuses; and, where all checks pass, of what stands behind them
abbrev pub Every : (Outcome → Type 0) → List Check → Type 0
Every P [] = Unit {0}
Every P (c ∷ l) = (c.0 ≡ true → P (Err c.1)) × Every P l

pub first_by : (P : Outcome → Type 0) (l : List Check) (e : Outcome) → Every P l → (Passing l → P e) → P (first_refusal l e)
first_by P [] e a h = h tt
first_by P (c ∷ l) e a h = pick c.0 refl (λ k. first_by P l e a.1 k) h
  where
    pick : (t : Bool) → c.0 ≡ t → ((Passing l → P e) → P (first_refusal l e)) → (Passing (c ∷ l) → P e) → P (cond t (Err c.1) (first_refusal l e))
    pick true q rest h = a.0 q
    pick false q rest h = rest (λ k. h (q, k))

-- the check that decides
pub stopped : (l : List Check) (e : Outcome) → done e ≡ true → done (first_refusal l e) ≡ false → StoppedBy l (first_refusal l e)
stopped [] e z h = off h z
stopped (c ∷ l) e z h = pick c.0 refl (λ g. stopped l e z g) h
  where
    pick : (t : Bool) → c.0 ≡ t → (done (first_refusal l e) ≡ false → StoppedBy l (first_refusal l e)) → done (cond t (Err c.1) (first_refusal l e)) ≡ false → StoppedBy (c ∷ l) (cond t (Err c.1) (first_refusal l e))
    pick true q rest h = record { before = []; after = l; test = c.0; refusal = c.1; is = refl; says = refl; refuses = q; passed = tt }
    pick false q rest h =
        let i = rest h in
        record { before = c ∷ i.before; after = i.after; test = i.test; refusal = i.refusal; is = ap (λ m. c ∷ m) i.is; says = i.says; refuses = i.refuses; passed = (q, i.passed) }
