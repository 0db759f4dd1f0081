-- The order of a call's checks, and what a call leaves in what it was lent. Each call's own file has its list of checks.
use Rattle.std.specs.Prelude.{Bool, cond, not, List, [], ◌∷◌, ◌++◌, ◌≡◌, ℕ, Result, Ok, Err, ◌%◌, ltb, eqb, length, drop}
use Rattle.base_answers.specs.declared.err.Refusal.{Refusal}
use Rattle.base_answers.specs.declared.err.Refusal.TheVariants.{NoRoom, BadCount, NoSuchPlace}
use Rattle.base_answers.specs.declared.err.Answer.{Answer}
use Rattle.base_answers.specs.Answers.{Outcome, answer_of, done}

-- a check: the test that refuses, and the refusal
abbrev pub Check : Type 0
Check = Bool × Refusal

-- "first one wins"; s is what a call says that passes them all
abbrev pub first_refusal : {A : Type 0} → List Check → Result A Refusal → Result A Refusal
first_refusal [] s = s
first_refusal (p ∷ rest) s = cond p.0 (Err p.1) (first_refusal rest s)

-- what checks alone say
abbrev pub passes : List Check → Result (Unit {0}) Refusal
passes l = first_refusal l (Ok tt)

-- "a byte length of samples that isn't a multiple of the width is 9 (0, length)"
abbrev pub ragged : ℕ → ℕ → Check
ragged k b = (not (eqb (b % k) 0), BadCount 0 b)

-- "a lent area too short: have, need"
abbrev pub tight : ℕ → ℕ → Check
tight have need = (ltb have need, NoRoom have need)

-- "7, 7": two work areas
abbrev pub two_areas : ℕ → ℕ → ℕ → List Check
two_areas u v need = tight u need ∷ tight v need ∷ []

-- "place outside its range": place, limit
abbrev pub outside : ℕ → ℕ → Check
outside place limit = (not (ltb place limit), NoSuchPlace place limit)

-- what a lent slice holds after a call that says s: `new` where it is done; "a refusal changes no lent byte"
abbrev pub left : Outcome → List ℕ → List ℕ → List ℕ
left s new old = cond (done s) new old

-- an area with `new` at its front; behind it the bytes that were there
abbrev pub in_front : List ℕ → List ℕ → List ℕ
in_front new old = new ++ drop (length new) old

-- "after a done call work areas beyond their needed front are unchanged": the front is k bytes where the call is done, and nothing where it is refused
unfoldable pub Spared : Outcome → ℕ → List ℕ → List ℕ → Type 0
Spared s k before after = drop (cond (done s) k 0) after ≡ drop (cond (done s) k 0) before

-- the answer r, and the output and the two work areas that a call leaves which says s: `new` is the output of a done one, and it may use k bytes in front of each area
pub record Call (s : Outcome) (k : ℕ) (new o u v : List ℕ) (r : Answer) (o' u' v' : List ℕ) : Type 0 where
  pub answer : r ≡ answer_of s
  pub output : o' ≡ left s new o
  pub first : Spared s k u u'
  pub second : Spared s k v v'
