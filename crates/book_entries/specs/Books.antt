-- The route book, from C-14: "sections in a fixed order, each after its count: a directory of 64 fixed entries, then the data". As bytes, as read back, and which
-- directories and counts calls can leave.
use Rattle.std.specs.Prelude.{Bool, true, cond, not, ◌&&◌, List, [], ◌∷◌, ◌++◌, ℕ, zero, suc, ◌+◌, ◌-◌, ◌*◌, ltb, leb, eqb, length, take, drop, get_or, replicate}
use Rattle.std.specs.List.{list_all}
use Rattle.std.proofs.Math.Seq.{slice}
use Rattle.base_answers.specs.Answers.{told, done}
use Rattle.base_answers.specs.Checks.{first_refusal}
use Rattle.base_samples.specs.Le.{le_at}
use Rattle.file_open.specs.Files.{section_of, is_count, common_size, file_size}
use Rattle.file_open.specs.Opens.{head_in, field_checks}

-- "a directory of 64 fixed entries"
abbrev pub most : ℕ
most = 64

-- an entry is the first 14 bytes of the file that it stands for: the count of the file's section 0, width, levels, n and point. One that stands for none is 14 zeros.
-- They are what both kinds of file begin with: "the book of C-14 holds both". The rate is not in an entry
abbrev pub entry_size : ℕ
entry_size = common_size

-- where entry i starts, where the data's count stands (900), and where the data starts (904)
abbrev pub entry_start : ℕ → ℕ
entry_start i = 4 + entry_size * i

abbrev pub total_at : ℕ
total_at = entry_start most

abbrev pub data_at : ℕ
data_at = total_at + 4

-- the point of an entry, and how many bytes its file has
abbrev pub point_by : List ℕ → ℕ
point_by e = (head_in e).point

abbrev pub size_by : List ℕ → ℕ
size_by e = let h = head_in e in file_size h.body h.width h.levels h.samples

-- no entry says more, whatever its bytes are: 2 to the 41
abbrev pub most_size : ℕ
most_size = 2199023255552

-- ---- as bytes

unfoldable pub joined : List (List ℕ) → List ℕ
joined [] = []
joined (x ∷ xs) = x ++ joined xs

-- the directory of the entries es, and the data d
unfoldable pub book_of : List (List ℕ) → List ℕ → List ℕ
book_of es d = section_of most (joined es ++ replicate (entry_size * (most - length es)) 0) ++ section_of (length d) d

-- ---- read back

abbrev pub entry_at : List ℕ → ℕ → List ℕ
entry_at b i = take entry_size (drop (entry_start i) b)

-- an entry begins with the count of its file's section 0; it is 0 in one that stands for no file
abbrev pub is_used : List ℕ → Bool
is_used e = not (eqb (le_at 4 e 0) 0)

-- of n entries from entry i on, those before the first that is not used
unfoldable pub used_from : ℕ → ℕ → List ℕ → List (List ℕ)
used_from zero i b = []
used_from (suc n) i b = cond (is_used (entry_at b i)) (entry_at b i ∷ used_from n (suc i) b) []

unfoldable pub entries_in : List ℕ → List (List ℕ)
entries_in b = used_from most 0 b

unfoldable pub total_by : List (List ℕ) → ℕ
total_by [] = 0
total_by (e ∷ es) = size_by e + total_by es

abbrev pub total_in : List ℕ → ℕ
total_in b = total_by (entries_in b)

unfoldable pub data_in : List ℕ → List ℕ
data_in b = take (total_in b) (drop data_at b)

-- "free room": the data room less the sizes of the files that are held
abbrev pub free_in : List ℕ → ℕ
free_in b = length b - data_at - total_in b

-- ---- by point number

-- how many entries stand before that of point p: all of them where it has none
unfoldable pub slot_of : ℕ → List (List ℕ) → ℕ
slot_of p [] = 0
slot_of p (e ∷ es) = cond (eqb (point_by e) p) 0 (suc (slot_of p es))

abbrev pub is_held : ℕ → List (List ℕ) → Bool
is_held p es = ltb (slot_of p es) (length es)

-- where the file of entry i starts in the data, and how many bytes it has
abbrev pub place_at : ℕ → List (List ℕ) → ℕ
place_at i es = total_by (take i es)

abbrev pub size_at : ℕ → List (List ℕ) → ℕ
size_at i es = size_by (get_or es i [])

-- ---- "a directory or section count that no calls could have left"

-- what some file begins with: what opening asks of the count and the fields, for their own width and point; the rate is not among them
abbrev pub is_head : List ℕ → Bool
is_head e = let h = head_in e in is_count (le_at 4 e 0) && done (first_refusal (field_checks h h.width h.point) (told 0 0))

-- an entry is what some file begins with, and none of the entries es behind it has its point
abbrev pub is_only : List ℕ → List (List ℕ) → Bool
is_only e es = is_head e && not (is_held (point_by e) es)

unfoldable pub are_entries : List (List ℕ) → Bool
are_entries [] = true
are_entries (e ∷ es) = is_only e es && are_entries es

unfoldable pub all_zero : List ℕ → Bool
all_zero s = list_all (λ c. eqb c 0) s

-- the entries behind the held ones
abbrev pub unused_in : List ℕ → List ℕ
unused_in b = slice (entry_start (length (entries_in b))) total_at b

-- the data's count is that of the entries, and the area has so much
abbrev pub has_total : List ℕ → Bool
has_total b = eqb (le_at 4 b total_at) (total_in b) && leb (data_at + total_in b) (length b)

unfoldable pub could_be : List ℕ → Bool
could_be b =
    eqb (le_at 4 b 0) most
    && (are_entries (entries_in b)
    && (all_zero (unused_in b)
    && has_total b))
