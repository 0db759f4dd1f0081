-- A sequence of calls on a book, and the plain map from point numbers to files that it is to be, from C-14: "adding, withdrawing and finding a point behave as a
-- map from number to file over any sequence of calls on a fresh book".
use Rattle.std.specs.Prelude.{Err, Bool, true, false, cond, ◌||◌, List, [], ◌∷◌, ◌++◌, ◌≡◌, ℕ, ◌+◌, ◌-◌, ◌^◌, ◌≤◌, ◌<◌, ltb, leb, eqb, length, take, drop}
use Rattle.base_answers.specs.declared.err.Answer.{Answer}
use Rattle.base_answers.specs.declared.err.Refusal.TheVariants.{BookFull, AlreadyHeld, NotHeld}
use Rattle.base_answers.specs.Answers.{Outcome, told, say, answer_of, done}
use Rattle.base_answers.specs.Checks.{Check, first_refusal}
use Rattle.base_samples.specs.Le.{Bytes}
use Rattle.book_entries.specs.Books.{most, data_at, point_by, size_by, entries_in, data_in}
use Rattle.book_entries.specs.Checks.{Book, whole_checks, say_find, say_room}
use Rattle.book_calls.specs.Calls.{Fresh, Add, Withdraw}

-- ---- the calls

pub data BookCall : Type 0 where
  fresh : BookCall
  add : (point : ℕ) (file : List ℕ) → BookCall
  withdraw : (point : ℕ) → BookCall
  find : (point : ℕ) → BookCall
  room : BookCall

-- the answer r, and the area b' that the call leaves of the area b
abbrev pub Does : BookCall → List ℕ → Answer → List ℕ → Type 0
Does fresh b r b' = Fresh b r b'
Does (add p s) b r b' = Add b p s r b'
Does (withdraw p) b r b' = Withdraw b p r b'
Does (find p) b r b' = (r ≡ answer_of (say_find b p)) × (b' ≡ b)
Does room b r b' = (r ≡ answer_of (say_room b)) × (b' ≡ b)

-- these calls, one after the other, answer rs and leave b' of the area b
pub data Ran : List ℕ → List BookCall → List Answer → List ℕ → Type 0 where
  none : {b : List ℕ} → Ran b [] [] b
  next : {b b₁ b₂ : List ℕ} {c : BookCall} {cs : List BookCall} {r : Answer} {rs : List Answer} → Does c b r b₁ → Ran b₁ cs rs b₂ → Ran b (c ∷ cs) (r ∷ rs) b₂

-- every file that is lent is bytes
abbrev pub Lent : BookCall → Type 0
Lent fresh = Unit {0}
Lent (add p s) = Bytes s
Lent (withdraw p) = Unit {0}
Lent (find p) = Unit {0}
Lent room = Unit {0}

unfoldable pub AllLent : List BookCall → Type 0
AllLent [] = Unit {0}
AllLent (c ∷ cs) = Lent c × AllLent cs

-- every point is a number of four bytes, as the exported calls take it; the laws of the map hold of any number
abbrev pub Numbered : BookCall → Type 0
Numbered fresh = Unit {0}
Numbered (add p s) = p < 2 ^ 32
Numbered (withdraw p) = p < 2 ^ 32
Numbered (find p) = p < 2 ^ 32
Numbered room = Unit {0}

unfoldable pub AllNumbered : List BookCall → Type 0
AllNumbered [] = Unit {0}
AllNumbered (c ∷ cs) = Numbered c × AllNumbered cs

-- ---- the map: files by their points, in the order in which they were added

abbrev pub Map : Type 0
Map = List (ℕ × List ℕ)

unfoldable pub has : ℕ → Map → Bool
has p [] = false
has p (h ∷ hs) = eqb h.0 p || has p hs

-- the file of point p, and [] where there is none
unfoldable pub file_for : ℕ → Map → List ℕ
file_for p [] = []
file_for p (h ∷ hs) = cond (eqb h.0 p) h.1 (file_for p hs)

-- how many bytes all files have, and those before that of point p
unfoldable pub map_total : Map → ℕ
map_total [] = 0
map_total (h ∷ hs) = length h.1 + map_total hs

unfoldable pub bytes_before : ℕ → Map → ℕ
bytes_before p [] = 0
bytes_before p (h ∷ hs) = cond (eqb h.0 p) 0 (length h.1 + bytes_before p hs)

unfoldable pub removed : ℕ → Map → Map
removed p [] = []
removed p (h ∷ hs) = cond (eqb h.0 p) hs (h ∷ removed p hs)

-- ---- what a map of so much data room answers, and what a call leaves of it

-- "found .. as place and length", the files standing one after the other from the data's first byte on
abbrev pub place_for : ℕ → Map → ℕ
place_for p hs = data_at + bytes_before p hs

-- 15, and 14, of a file of m bytes
abbrev pub map_checks : ℕ → Map → ℕ → ℕ → List Check
map_checks n hs p m = (has p hs, AlreadyHeld) ∷ (leb most (length hs), BookFull) ∷ (ltb (n - map_total hs) m, BookFull) ∷ []

abbrev pub map_says : ℕ → Map → BookCall → Outcome
map_says n hs fresh = told 0 0
map_says n hs (add p s) = first_refusal (whole_checks s p ++ map_checks n hs p (length s)) (told 0 0)
map_says n hs (withdraw p) = cond (has p hs) (told 0 0) (Err NotHeld)
map_says n hs (find p) = cond (has p hs) (told (place_for p hs) (length (file_for p hs))) (Err NotHeld)
map_says n hs room = told (n - map_total hs) (length hs)

-- of a call that is done
abbrev pub changed : Map → BookCall → Map
changed hs fresh = []
changed hs (add p s) = hs ++ ((p, s) ∷ [])
changed hs (withdraw p) = removed p hs
changed hs (find p) = hs
changed hs room = hs

abbrev pub on_map : ℕ → Map → BookCall → Map
on_map n hs c = cond (done (map_says n hs c)) (changed hs c) hs

-- of a sequence of calls
unfoldable pub map_answers : ℕ → Map → List BookCall → List Answer
map_answers n hs [] = []
map_answers n hs (c ∷ cs) = answer_of (map_says n hs c) ∷ map_answers n (on_map n hs c) cs

unfoldable pub map_after : ℕ → Map → List BookCall → Map
map_after n hs [] = hs
map_after n hs (c ∷ cs) = map_after n (on_map n hs c) cs

-- ---- a book as a map

-- entries by their points, each with as many bytes of the data as it says
unfoldable pub files_by : List (List ℕ) → List ℕ → Map
files_by [] d = []
files_by (e ∷ es) d = (point_by e, take (size_by e) d) ∷ files_by es (drop (size_by e) d)

unfoldable pub map_in : List ℕ → Map
map_in b = files_by (entries_in b) (data_in b)

-- an area of bytes that passes the check
pub record Standing (b : List ℕ) : Type 0 where
  pub bytes : Bytes b
  pub book : Book b

-- what calls leave of the area b: it passes the check, is as long as it was, and is the map hs
pub record Onward (b : List ℕ) (hs : Map) (b' : List ℕ) : Type 0 where
  pub stands : Standing b'
  pub size : length b' ≡ length b
  pub map : map_in b' ≡ hs

-- the area b shows the map hs, of so much data room: what finding each point and asking for the room answer, and the bytes at the place that finding names
pub record Shows (b : List ℕ) (n : ℕ) (hs : Map) : Type 0 where
  pub absent : (q : ℕ) → has q hs ≡ false → say_find b q ≡ Err NotHeld
  pub present : (q : ℕ) → has q hs ≡ true → (say_find b q ≡ told (place_for q hs) (length (file_for q hs))) × (take (length (file_for q hs)) (drop (place_for q hs) b) ≡ file_for q hs)
  pub room : say_room b ≡ told (n - map_total hs) (length hs)
  pub fits : map_total hs ≤ n
  pub few : length hs ≤ most

-- finding q in the area b is done, and the bytes that it names are f
pub record Finds (b : List ℕ) (q : ℕ) (f : List ℕ) : Type 0 where
  pub place : ℕ
  pub says : say_find b q ≡ told place (length f)
  pub there : take (length f) (drop place b) ≡ f

-- ---- "no other point's bytes change"

-- a call that makes no fresh book, and neither adds nor withdraws q
abbrev pub Spares : ℕ → BookCall → Type 0
Spares q fresh = ⊥
Spares q (add p s) = p ≡ q → ⊥
Spares q (withdraw p) = p ≡ q → ⊥
Spares q (find p) = Unit {0}
Spares q room = Unit {0}

unfoldable pub AllSpare : ℕ → List BookCall → Type 0
AllSpare q [] = Unit {0}
AllSpare q (c ∷ cs) = Spares q c × AllSpare q cs

-- ---- "a directory or section count that no calls could have left"

-- some calls on a fresh book, in an area of n bytes, leave the directory and the counts d
pub record Reached (n : ℕ) (d : List ℕ) : Type 0 where
  pub area : List ℕ
  pub bytes : Bytes area
  pub size : length area ≡ n
  pub begun : List ℕ
  pub made : Fresh area (say 0 0 0) begun
  pub calls : List BookCall
  pub lent : AllLent calls
  pub numbered : AllNumbered calls
  pub answers : List Answer
  pub left : List ℕ
  pub ran : Ran begun calls answers left
  pub front : take data_at left ≡ d
