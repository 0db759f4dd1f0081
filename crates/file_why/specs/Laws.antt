-- What the laws about the reason say, in words of their own.
use Rattle.std.specs.Prelude.{Bool, true, false, cond, ◌||◌, List, [], ◌∷◌, ◌++◌, ◌⊎◌, ◌≡◌, ℕ, Err, ◌+◌, ◌-◌, ◌/◌, ◌≤◌, ◌<◌, ltb, eqb, length}
use Rattle.base_answers.specs.declared.err.Answer.{Answer}
use Rattle.base_answers.specs.declared.err.Refusal.{Refusal}
use Rattle.base_answers.specs.Answers.{Outcome, say}
use Rattle.base_answers.specs.Checks.{Check}
use Rattle.base_answers.proofs.Passed.{Passing}
use Rattle.base_samples.specs.Le.{le_at}
use Rattle.file_open.specs.declared.walk.Way.TheVariants.{Went}
use Rattle.file_open.specs.Opens.{head_in, head_checks, way_in, count_of, count_in}
use Rattle.file_why.specs.declared.Reason.{Reason}
use Rattle.file_why.specs.Reasons.{nothing, end_of, place_of}

-- whether x is one of these
abbrev pub among : List ℕ → ℕ → Bool
among [] x = false
among (k ∷ ks) x = eqb x k || among ks x

-- the numbers of a reason: those of the fields of section 0 and of a file that is too long, and those of the sections
abbrev pub field_numbers : List ℕ
field_numbers = 1 ∷ 4 ∷ 6 ∷ 8 ∷ 11 ∷ 18 ∷ []

abbrev pub section_numbers : List ℕ
section_numbers = 0 ∷ 9 ∷ 10 ∷ 12 ∷ []

-- the check of a list that says r: its test refuses, and all before it pass
pub record StoppedBy (l : List Check) (r : Outcome) : Type 0 where
  pub before : List Check
  pub after : List Check
  pub test : Bool
  pub refusal : Refusal
  pub is : l ≡ before ++ ((test, refusal) ∷ after)
  pub says : r ≡ Err refusal
  pub refuses : test ≡ true
  pub passed : Passing before

-- the answer of the opener that a reason stands for whose number is not 0: that number, and the two values that go with it
abbrev pub answer_by : Reason → Answer
answer_by r =
    say r.number
    (cond (among (1 ∷ 8 ∷ 11 ∷ []) r.number) r.found (cond (eqb r.number 9) r.section (cond (eqb r.number 10) r.place (cond (eqb r.number 12) (r.found - r.wanted) 0))))
    (cond (among (1 ∷ 8 ∷ 11 ∷ []) r.number) r.wanted (cond (eqb r.number 9) r.found 0))

-- room for the samples that opening gives back
abbrev pub Room : List ℕ → ℕ → ℕ → ℕ → ℕ → Type 0
Room s w o u v = (count_in s ≤ o / w) × (count_in s ≤ u / w) × (count_in s ≤ v / w)

-- section 0 passes, and sections 1 to j are there, each with the count that it must have
pub record Sound (s : List ℕ) (w p j : ℕ) : Type 0 where
  pub head : Passing (head_checks s w p)
  pub sections : (i : ℕ) → 1 ≤ i → i ≤ j → (le_at 4 s (place_of (head_in s) i) ≡ count_of (head_in s) i) × (end_of (head_in s) i ≤ length s)

-- a file that is whole: so are all its sections, and they end where it does
abbrev pub Ended : List ℕ → ℕ → ℕ → Type 0
Ended s w p = Passing (head_checks s w p) × (way_in s (head_in s) ≡ Went (length s))

-- where the field stands that a number is about: width, levels, point, rate, else the samples
abbrev pub field_place : ℕ → ℕ
field_place n = cond (eqb n 8) 4 (cond (eqb n 4) 5 (cond (eqb n 11) 10 (cond (eqb n 18) 14 6)))

-- r is about a field of section 0: the place is the field's, and what is found stands there. Width and levels have one byte, the others four
pub record OfField (s : List ℕ) (r : Reason) : Type 0 where
  pub number : among field_numbers r.number ≡ true
  pub section : r.section ≡ 0
  pub place : r.place ≡ field_place r.number
  pub found : le_at (cond (ltb r.place 6) 1 4) s r.place ≡ r.found

-- r is a wrong count, and m the reason of the file with the wanted count at the place: a 9 is of a later section. Behind section 0 the opener comes as far as before, and no
-- field is refused
pub record Mended (r m : Reason) : Type 0 where
  pub later : m.number ≡ 9 → r.section < m.section
  pub further : 1 ≤ r.section → (among section_numbers m.number ≡ true) × ((m ≡ nothing) ⊎ (r.section ≤ m.section))

-- t has the numbers of s, as far as they end at c or before
abbrev pub Agree : List ℕ → List ℕ → ℕ → Type 0
Agree s t c = (n q : ℕ) → q + n ≤ c → le_at n t q ≡ le_at n s q

-- t differs from s in samples alone: section 0 is the same, and so is each count that is there
pub record Alike (s t : List ℕ) : Type 0 where
  pub size : length t ≡ length s
  pub head : Agree s t (head_in s).body
  pub counts : (i : ℕ) → 1 ≤ i → i ≤ (head_in s).levels + 1 → place_of (head_in s) i + 4 ≤ length s → le_at 4 t (place_of (head_in s) i) ≡ le_at 4 s (place_of (head_in s) i)
