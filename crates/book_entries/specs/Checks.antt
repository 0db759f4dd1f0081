-- The checks of the book's calls, from C-14, in order, what each call says, and what is known where they pass. What a call leaves of the area is in `book_calls`.
use Rattle.std.specs.Prelude.{true, not, List, [], ◌∷◌, ◌++◌, ◌≡◌, ℕ, ◌+◌, ◌≤◌, ◌<◌, ltb, leb, length}
use Rattle.base_answers.specs.declared.err.Refusal.TheVariants.{TooLong, BadCount, CutShort, BookFull, AlreadyHeld, NotHeld}
use Rattle.base_answers.specs.Answers.{Outcome, told}
use Rattle.base_answers.specs.Checks.{Check, first_refusal, tight}
use Rattle.file_open.specs.Opens.{level_in, file_checks, own_width}
use Rattle.book_entries.specs.Books.{most, entry_size, data_at, entries_in, free_in, slot_of, is_held, place_at, size_at, could_be}

-- "6 an area over 4,294,967,295 bytes, 7 one too short for an empty book": of n bytes
abbrev pub most_area : ℕ
most_area = 4294967295

abbrev pub space_checks : ℕ → List Check
space_checks n = (ltb most_area n, TooLong) ∷ tight n data_at ∷ []

-- "and, but for making a fresh one, 9 (0, 0) a directory or section count that no calls could have left"
abbrev pub book_checks : List ℕ → List Check
book_checks b = space_checks (length b) ++ ((not (could_be b), BadCount 0 0) ∷ [])

-- what is known where they pass: room for a book, a length that a count of 4 bytes tells, and a book
pub record Book (b : List ℕ) : Type 0 where
  pub long : data_at ≤ length b
  pub short : length b ≤ most_area
  pub could : could_be b ≡ true

-- ---- a fresh book

unfoldable pub say_fresh : List ℕ → Outcome
say_fresh b = first_refusal (space_checks (length b)) (told 0 0)

-- ---- adding

-- "adding first opens the file in full for its own width and the point given; a cut file is refused with 10 here": only the whole file gives level 0
abbrev pub whole_checks : List ℕ → ℕ → List Check
whole_checks s p = file_checks s (own_width s) p ++ ((ltb 0 (level_in s), CutShort (length s)) ∷ [])

-- "15 already held, 14 no room (exactly when 64 are held or the size exceeds the free room)"
abbrev pub room_checks : List ℕ → ℕ → ℕ → List Check
room_checks b p n = (is_held p (entries_in b), AlreadyHeld) ∷ (leb most (length (entries_in b)), BookFull) ∷ (ltb (free_in b) n, BookFull) ∷ []

unfoldable pub say_add : List ℕ → ℕ → List ℕ → Outcome
say_add b p s = first_refusal (book_checks b ++ (whole_checks s p ++ room_checks b p (length s))) (told 0 0)

-- what laying a file in a book needs: the bytes of an entry, an entry that is free, and room
pub record Addable (b s : List ℕ) : Type 0 where
  pub book : Book b
  pub head : entry_size ≤ length s
  pub few : length (entries_in b) < most
  pub room : length s ≤ free_in b

-- ---- finding and withdrawing: "16 not held"

abbrev pub held_checks : List ℕ → ℕ → List Check
held_checks b p = book_checks b ++ ((not (is_held p (entries_in b)), NotHeld) ∷ [])

-- "found by point number only, as place and length": the place is from the area's first byte
unfoldable pub say_find : List ℕ → ℕ → Outcome
say_find b p =
    let es = entries_in b in
    let i = slot_of p es in
    first_refusal (held_checks b p) (told (data_at + place_at i es) (size_at i es))

unfoldable pub say_withdraw : List ℕ → ℕ → Outcome
say_withdraw b p = first_refusal (held_checks b p) (told 0 0)

-- ---- how much room is left, and how many points are held

unfoldable pub say_room : List ℕ → Outcome
say_room b = first_refusal (book_checks b) (told (free_in b) (length (entries_in b)))
