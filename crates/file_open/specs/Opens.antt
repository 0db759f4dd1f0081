-- Opening a file, from document 01, "Opening checks", and C-17, for both kinds: the checks as one list in their order, and what the call promises.
use Rattle.std.specs.Prelude.{Bool, true, cond, not, ◌&&◌, List, [], ◌∷◌, ◌++◌, ◌≡◌, ℕ, ◌+◌, ◌-◌, ◌*◌, ◌/◌, ◌%◌, ◌<◌, ltb, eqb, length, take, drop}
use Rattle.std.specs.Borrow.{Bor}
use Rattle.base_answers.specs.declared.err.Answer.{Answer}
use Rattle.base_answers.specs.declared.err.Refusal.TheVariants.{MinFilterSize, BufferWasTooSmallForLevel, TooLong, OtherWidth, BadCount, CutShort, OtherPoint, Trailing, NoSuchPlace, NoRate}
use Rattle.base_answers.specs.Answers.{Outcome, told, done}
use Rattle.base_answers.specs.Checks.{Check, first_refusal, ragged, tight, two_areas, Call}
use Rattle.base_lengths.specs.declared.Wavelet.TheVariants.{Cdf53}
use Rattle.base_lengths.specs.Lengths.{most_samples}
use Rattle.base_lengths.specs.Levels.{count_at, depth_of}
use Rattle.base_samples.specs.Le.{le_at}
use Rattle.base_samples.specs.Integers.{is_width}
use Rattle.levels_filter.specs.declared.filter.Filter.{Filter}
use Rattle.levels_filter.specs.declared.filter.Filter.TheVariants.{Cdf53I8, Cdf53I16, Cdf53I32}
use Rattle.file_open.specs.declared.head.Head.{Head}
use Rattle.file_open.specs.declared.open.OpenAnswer.{OpenAnswer}
use Rattle.file_open.specs.declared.walk.Way.{Way}
use Rattle.file_open.specs.declared.walk.Way.TheVariants.{Went, Short, Wrong}
use Rattle.file_open.specs.Files.{most_bytes, is_count, new_count, common_size}
use Rattle.file_open.specs.Walks.{walk_of, last_count, restored_at}

-- the integer filter of a width
abbrev pub filter_of : ℕ → Filter
filter_of k = cond (eqb k 1) Cdf53I8 (cond (eqb k 2) Cdf53I16 Cdf53I32)

-- what section 0 of either kind says, and where the sections after it start: its count tells
abbrev pub head_in : List ℕ → Head
head_in s = record { width = le_at 1 s 4; levels = le_at 1 s 5; samples = le_at 4 s 6; point = le_at 4 s 10; body = 4 + le_at 4 s 0 }

-- h is read from bytes: its numbers are of one byte and of four
pub record Read (h : Head) : Type 0 where
  pub width : h.width < 256
  pub levels : h.levels < 256
  pub samples : h.samples < 4294967296
  pub point : h.point < 4294967296
  pub body : h.body < 4294967300

-- a file of the new kind, and the rate that a file stores: "0 for an old file"
abbrev pub is_new : List ℕ → Bool
is_new s = eqb (le_at 4 s 0) new_count

abbrev pub rate_in : List ℕ → ℕ
rate_in s = cond (is_new s) (le_at 4 s common_size) 0

-- "6 (over 67,108,974 bytes)", and 4 more; "under 4 bytes or fewer than section 0 needs is 10, with 9 tested between them"
abbrev pub start_checks : List ℕ → List Check
start_checks s =
    (ltb most_bytes (length s), TooLong)
    ∷ (ltb (length s) 4, CutShort (length s))
    ∷ (not (is_count (le_at 4 s 0)), BadCount 0 (le_at 4 s 0))
    ∷ (ltb (length s) (head_in s).body, CutShort (length s))
    ∷ []

-- "8 (also when the width asked isn't 1, 2 or 4), 1 (n, 3), 6 (n), 4 (levels 0 or above depth), 11"
abbrev pub field_checks : Head → ℕ → ℕ → List Check
field_checks h w p =
    (not (eqb h.width w), OtherWidth h.width w)
    ∷ (not (is_width w), OtherWidth h.width w)
    ∷ (ltb h.samples 3, MinFilterSize h.samples 3)
    ∷ (ltb most_samples h.samples, TooLong)
    ∷ (eqb h.levels 0, BufferWasTooSmallForLevel)
    ∷ (ltb (depth_of Cdf53 h.samples) h.levels, BufferWasTooSmallForLevel)
    ∷ (not (eqb h.point p), OtherPoint h.point p)
    ∷ []

-- "18 for a stored rate of 0 in a new file, right after 11"
abbrev pub rate_checks : List ℕ → List Check
rate_checks s = (is_new s && eqb (rate_in s) 0, NoRate) ∷ []

abbrev pub head_checks : List ℕ → ℕ → ℕ → List Check
head_checks s w p = start_checks s ++ (field_checks (head_in s) w p ++ rate_checks s)

-- the walk over all sections after section 0, which says h
abbrev pub way_in : List ℕ → Head → Way
way_in s h = walk_of s h.width h.levels h.samples h.body

-- "a cut in section 1 is 10; later it ends the file there, and the broken section is ignored. Then 12", for a file of b bytes
abbrev pub way_checks : Way → ℕ → List Check
way_checks (Went p) b = (ltb p b, Trailing (b - p)) ∷ []
way_checks (Short j) b = (eqb j 1, CutShort b) ∷ []
way_checks (Wrong j found) b = (true, BadCount j found) ∷ []

-- section 0 and the walk: what is checked of the file alone, without areas
abbrev pub file_checks : List ℕ → ℕ → ℕ → List Check
file_checks s w p = head_checks s w p ++ way_checks (way_in s (head_in s)) (length s)

-- how many detail sections are whole, of l levels
abbrev pub whole_details : Way → ℕ → ℕ
whole_details (Went p) l = l
whole_details (Short j) l = j - 2
whole_details (Wrong j found) l = 0

-- the level that is given back, and how many samples it has
abbrev pub level_in : List ℕ → ℕ
level_in s = let h = head_in s in h.levels - whole_details (way_in s h) h.levels

abbrev pub count_in : List ℕ → ℕ
count_in s = count_at (level_in s) (head_in s).samples

-- "it returns level and count": what is said of the file alone
unfoldable pub say_file : List ℕ → ℕ → ℕ → Outcome
say_file s w p = first_refusal (file_checks s w p) (told (level_in s) (count_in s))

-- the samples of that level
unfoldable pub samples_in : List ℕ → List ℕ
samples_in s = let h = head_in s in restored_at h.width s (whole_details (way_in s h) h.levels) (count_in s) h.body

-- the lent areas are whole samples; a width asked that is none has no sample size
abbrev pub area_checks : ℕ → ℕ → ℕ → ℕ → List Check
area_checks w o u v = cond (is_width w) (ragged w o ∷ ragged w u ∷ ragged w v ∷ []) []

-- what passes them
abbrev pub WholeAreas : ℕ → ℕ → ℕ → ℕ → Type 0
WholeAreas w o u v = is_width w ≡ true → (o % w ≡ 0) × (u % w ≡ 0) × (v % w ≡ 0)

-- "then 7 for output and both work areas (need for each: the count of samples given back)"
abbrev pub rooms_for : ℕ → ℕ → ℕ → ℕ → ℕ → List Check
rooms_for w c o u v = tight (o / w) c ∷ two_areas (u / w) (v / w) c

-- the areas, the file, and the room for what it gives back
unfoldable pub say_open : List ℕ → ℕ → ℕ → ℕ → ℕ → ℕ → Outcome
say_open s w p o u v = first_refusal (area_checks w o u v ++ (file_checks s w p ++ rooms_for w (count_in s) o u v)) (told (level_in s) (count_in s))

-- the answer r, and the output and the work areas that opening leaves: "output past the count is unchanged"
abbrev pub Open : List ℕ → ℕ → ℕ → List ℕ → List ℕ → List ℕ → Answer → List ℕ → List ℕ → List ℕ → Type 0
Open s w p o u v = Call (say_open s w p (length o) (length u) (length v)) (w * count_in s) (samples_in s ++ drop (w * count_in s) o) o u v

-- "the opener gives the rate beside its numbers, 0 for an old file", and 0 where it is refused
unfoldable pub rate_opened : List ℕ → ℕ → ℕ → ℕ → ℕ → ℕ → ℕ
rate_opened s w p o u v = cond (done (say_open s w p o u v)) (rate_in s) 0

-- all that opening gives: the answer with what it leaves of the areas, and the rate
pub record OpenGives (s : List ℕ) (w p : ℕ) (o u v : List ℕ) (t : OpenAnswer) (o' u' v' : List ℕ) : Type 0 where
  pub call : Open s w p o u v t.answer o' u' v'
  pub rate : t.rate ≡ rate_opened s w p (length o) (length u) (length v)

-- a file's own width and point: what its section 0 says, and 1 and 0 where it is too short to
unfoldable pub own_width : List ℕ → ℕ
own_width s = cond (ltb (length s) common_size) 1 (head_in s).width

unfoldable pub own_point : List ℕ → ℕ
own_point s = cond (ltb (length s) common_size) 0 (head_in s).point

-- ---- one section

-- how many samples the sections up to section j restore: as many as level L + 1 - j has approximations
abbrev pub samples_to : Head → ℕ → ℕ
samples_to h j = count_at (h.levels + 1 - j) h.samples

-- the walk through section j, which is one of j - 1 levels of those samples
abbrev pub way_to : List ℕ → Head → ℕ → Way
way_to s h j = walk_of s h.width (j - 1) (samples_to h j) h.body

-- "a cut at or before it is 10"
abbrev pub section_checks : Way → ℕ → List Check
section_checks (Went p) b = []
section_checks (Short j) b = (true, CutShort b) ∷ []
section_checks (Wrong j found) b = (true, BadCount j found) ∷ []

-- "number 0 or above L+1 is 13 (number, L+1), given after 11", and after 18
abbrev pub number_checks : ℕ → ℕ → List Check
number_checks j l = (eqb j 0, NoSuchPlace j (l + 1)) ∷ (ltb (l + 1) j, NoSuchPlace j (l + 1)) ∷ []

-- the count that section j has, how many bytes it has after that, and where they start
abbrev pub count_of : Head → ℕ → ℕ
count_of h j = last_count (j - 1) (samples_to h j)

abbrev pub length_of : Head → ℕ → ℕ
length_of h j = h.width * count_of h j

abbrev pub end_by : Way → ℕ
end_by (Went p) = p
end_by (Short j) = 0
end_by (Wrong j found) = 0

abbrev pub start_of : List ℕ → Head → ℕ → ℕ
start_of s h j = end_by (way_to s h j) - length_of h j

unfoldable pub say_section : List ℕ → ℕ → ℕ → ℕ → Outcome
say_section s w p j =
    let h = head_in s in
    first_refusal (head_checks s w p ++ (number_checks j h.levels ++ section_checks (way_to s h j) (length s))) (told (start_of s h j) (length_of h j))

-- what the call hands back; "when refused, .. an empty stretch"
unfoldable pub section_in : List ℕ → ℕ → ℕ → ℕ → List ℕ
section_in s w p j = cond (done (say_section s w p j)) (take (length_of (head_in s) j) (drop (start_of s (head_in s) j) s)) []

-- "that stretch of the caller's file itself, never a copy": the block and the offset where it lies are those of the file's own bytes, start_of on. An empty one lies at the file's start
unfoldable pub section_at : Bor (List ℕ) → ℕ → ℕ → ℕ → ℕ × ℕ
section_at s w p j = (s.ref_ptr.0, s.ref_ptr.1 + cond (done (say_section s.now w p j)) (start_of s.now (head_in s.now) j) 0)
