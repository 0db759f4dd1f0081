-- Checks in two parts, of which the first is asked by itself: where it passes the second decides, where it refuses so does the whole.
use mathlib.Core.Bool.{Bool, true, false, cond}
use mathlib.Core.List.{List, [], ◌∷◌, ◌++◌}
use mathlib.Core.Path.{◌≡◌, refl}
use Rattle.std.specs.Prelude.{Err}
use Rattle.base_answers.specs.Answers.{Outcome, told, done}
use Rattle.base_answers.specs.Checks.{Check, first_refusal}
use Rattle.base_answers.proofs.Passed.{off, passing, pass_on}

pub then-rest : (l m : List Check) (s : Outcome) → done (first_refusal l (told 0 0)) ≡ true → first_refusal (l ++ m) s ≡ first_refusal m s
then-rest l m s h = pass_on l m s (passing l (told 0 0) h)

pub then-stop : (l m : List Check) (s : Outcome) → done (first_refusal l (told 0 0)) ≡ false → first_refusal (l ++ m) s ≡ first_refusal l (told 0 0)
then-stop [] m s h = off h refl
then-stop (p ∷ l) m s h = pick p.0 (then-stop l m s) h
  where
    pick : (t : Bool) → (done (first_refusal l (told 0 0)) ≡ false → first_refusal (l ++ m) s ≡ first_refusal l (told 0 0)) → done (cond t (Err p.1) (first_refusal l (told 0 0))) ≡ false
        → cond t (Err p.1) (first_refusal (l ++ m) s) ≡ cond t (Err p.1) (first_refusal l (told 0 0))
    pick true f h = refl
    pick false f h = f h
