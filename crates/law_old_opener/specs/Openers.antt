-- The opener as it was before C-17, when no file had a rate: document 01's opening checks, by that document's numbers. What C-17 did not change is file_open's; a
-- later request that changes one of these keeps it here as it was.
use Rattle.std.specs.Prelude.{not, List, [], ◌∷◌, ◌++◌, ◌≡◌, ℕ, ◌-◌, ◌*◌, ◌≤◌, ◌<◌, ltb, eqb, length, drop}
use Rattle.base_answers.specs.declared.err.Answer.{Answer}
use Rattle.base_answers.specs.declared.err.Refusal.TheVariants.{TooLong, BadCount, CutShort}
use Rattle.base_answers.specs.Answers.{Outcome, told, say}
use Rattle.base_answers.specs.Checks.{Check, first_refusal, Call}
use Rattle.base_lengths.specs.Levels.{count_at}
use Rattle.base_samples.specs.Le.{le_at}
use Rattle.file_open.specs.declared.head.Head.{Head}
use Rattle.file_open.specs.Walks.{restored_at}
use Rattle.file_open.specs.Opens.{field_checks, way_in, way_checks, whole_details, area_checks, WholeAreas, rooms_for}

-- "at most 67,108,974"
abbrev pub most_before : ℕ
most_before = 67108974

-- what section 0 says: the sections after it start at byte 14
abbrev pub head_before : List ℕ → Head
head_before s = record { width = le_at 1 s 4; levels = le_at 1 s 5; samples = le_at 4 s 6; point = le_at 4 s 10; body = 14 }

-- "6 (over 67,108,974 bytes), 10 (under 14), 9 at section 0"
abbrev pub start_before : List ℕ → List Check
start_before s =
    (ltb most_before (length s), TooLong)
    ∷ (ltb (length s) 14, CutShort (length s))
    ∷ (not (eqb (le_at 4 s 0) 10), BadCount 0 (le_at 4 s 0))
    ∷ []

-- section 0 and the walk
abbrev pub file_before : List ℕ → ℕ → ℕ → List Check
file_before s w p = let h = head_before s in start_before s ++ (field_checks h w p ++ way_checks (way_in s h) (length s))

-- the level that is given back, how many samples it has, and which
abbrev pub level_before : List ℕ → ℕ
level_before s = let h = head_before s in h.levels - whole_details (way_in s h) h.levels

abbrev pub count_before : List ℕ → ℕ
count_before s = count_at (level_before s) (head_before s).samples

unfoldable pub samples_before : List ℕ → List ℕ
samples_before s = let h = head_before s in restored_at h.width s (whole_details (way_in s h) h.levels) (count_before s) h.body

-- what it said, and what it left of the areas
unfoldable pub say_before : List ℕ → ℕ → ℕ → ℕ → ℕ → ℕ → Outcome
say_before s w p o u v = first_refusal (area_checks w o u v ++ (file_before s w p ++ rooms_for w (count_before s) o u v)) (told (level_before s) (count_before s))

abbrev pub OpenBefore : List ℕ → ℕ → ℕ → List ℕ → List ℕ → List ℕ → Answer → List ℕ → List ℕ → List ℕ → Type 0
OpenBefore s w p o u v = Call (say_before s w p (length o) (length u) (length v)) (w * count_before s) (samples_before s ++ drop (w * count_before s) o) o u v

-- "an old opener meets a new file with refusal 9 (10 under 14 bytes, 6 over 67,108,974) and never a wrong sample": the answer r to a new file of c bytes, or
-- to its first c bytes, asked for the width w, and what is left of the areas
pub record Met (c w : ℕ) (o g h : List ℕ) (r : Answer) (o' g' h' : List ℕ) : Type 0 where
  pub nine : WholeAreas w (length o) (length g) (length h) → 14 ≤ c → c ≤ most_before → r ≡ say 9 0 14
  pub ten : WholeAreas w (length o) (length g) (length h) → c < 14 → r ≡ say 10 c 0
  pub six : WholeAreas w (length o) (length g) (length h) → most_before < c → r ≡ say 6 0 0
  -- whatever the areas are, it is refused, and no byte of them changes
  pub refused : r.number ≡ 0 → ⊥
  pub output : o' ≡ o
  pub first : g' ≡ g
  pub second : h' ≡ h
