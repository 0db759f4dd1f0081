-- What the checks of the book's calls leave when they pass, and what adding says, in turn.
use mathlib.Core.Bool.{true, cond}
use mathlib.Core.List.{List, [], ◌∷◌, ◌++◌}
use mathlib.Core.Path.{◌≡◌, refl, sym, ap, ◌∙◌}
use Prim.Native.Nat.{ℕ, ◌<◌}
use borrow.Author.Tests.{ltb-true, leb-false, not-false}
use lib.Dec.{ltb}
use lib.ListN.{length}
use Rattle.std.specs.Prelude.{Result, Ok, Err}
use Rattle.std.specs.Result.{is_ok}
use Rattle.base_answers.specs.declared.err.Refusal.{Refusal}
use Rattle.base_answers.specs.declared.err.Refusal.TheVariants.{CutShort}
use Rattle.base_answers.specs.Answers.{Outcome, told, plain, done}
use Rattle.base_answers.specs.Checks.{Check, first_refusal, passes}
use Rattle.base_answers.proofs.Passed.{Passing, passing, both-pass, joined, and_then, asked, in_turn, roomy}
use Rattle.file_open.specs.Opens.{level_in, count_in, say_file, file_checks, head_checks, way_in, way_checks, head_in, own_width}
use Rattle.file_open.proofs.Opening.{head-passes}
use Rattle.book_entries.specs.Books.{most, data_at, entries_in, free_in, slot_of, is_held, could_be}
use Rattle.book_entries.specs.Checks.{most_area, Book, Addable, book_checks, whole_checks, room_checks, say_add}

-- whether a list lets a call be done does not depend on what it then says
pub is_ok-done : {A : Type 0} (l : List Check) (v : A) → is_ok (passes l) ≡ done (first_refusal l (Ok v))
is_ok-done l v = same (passes l) ∙ sym (ap done (asked l tt (λ _. Ok v)))
  where
    same : (r : Result (Unit {0}) Refusal) → is_ok r ≡ done (and_then r (λ _. Ok v))
    same (Ok u) = refl
    same (Err e) = refl

-- a call that has nothing to tell says what its checks say
plainly : (l : List Check) → first_refusal l (told 0 0) ≡ plain (passes l)
plainly l = asked l tt (λ _. told 0 0) ∙ same (passes l)
  where
    same : (r : Result (Unit {0}) Refusal) → and_then r (λ _. told 0 0) ≡ plain r
    same (Ok v) = refl
    same (Err e) = refl

-- what adding says, as the code asks: the book, the file, that it is whole, and the room
pub add_in_turn : (b : List ℕ) (p : ℕ) (s : List ℕ)
    → say_add b p s
    ≡ and_then (passes (book_checks b))
    (λ _. and_then (say_file s (own_width s) p) (λ (t : ℕ × ℕ). cond (ltb 0 t.0) (Err (CutShort (length s))) (plain (passes (room_checks b p (length s))))))
unfolding say_add say_file
add_in_turn b p s =
    let file = file_checks s (own_width s) p in
    let cut : List Check = (ltb 0 (level_in s), CutShort (length s)) ∷ [] in
    let room = plain (passes (room_checks b p (length s))) in
    let rest : ℕ × ℕ → Outcome = λ t. cond (ltb 0 t.0) (Err (CutShort (length s))) room in
    in_turn (book_checks b) (whole_checks s p ++ room_checks b p (length s)) tt (told 0 0)
    ∙ ap (λ (r : Outcome). and_then (passes (book_checks b)) (λ _. r))
    (joined (file ++ cut) (room_checks b p (length s)) (told 0 0) ∙ ap (first_refusal (file ++ cut)) (plainly (room_checks b p (length s))) ∙ joined file cut room ∙ asked file (level_in s, count_in s) rest)

pub book-passes : (b : List ℕ) → Passing (book_checks b) → Book b
book-passes b q = record { long = roomy (length b) data_at q.1.0; short = roomy most_area (length b) q.0; could = not-false (could_be b) q.1.1.0 }

pub held_below : (p : ℕ) (es : List (List ℕ)) → is_held p es ≡ true → slot_of p es < length es
held_below p es h = ltb-true (slot_of p es) (length es) h

pub add-passes : (b : List ℕ) (p : ℕ) (s : List ℕ) → done (say_add b p s) ≡ true → Addable b s
unfolding say_add
add-passes b p s h =
    let rest : List Check = whole_checks s p ++ room_checks b p (length s) in
    let q = both-pass (book_checks b) rest (passing (book_checks b ++ rest) (told 0 0) h) in
    let r = both-pass (whole_checks s p) (room_checks b p (length s)) q.1 in
    let file = both-pass (file_checks s (own_width s) p) ((ltb 0 (level_in s), CutShort (length s)) ∷ []) r.0 in
    let head = both-pass (head_checks s (own_width s) p) (way_checks (way_in s (head_in s)) (length s)) file.0 in
    record { book = book-passes b q.0; head = (head-passes s (own_width s) p head.0).common; few = leb-false most (length (entries_in b)) r.1.1.0; room = roomy (free_in b) (length s) r.1.1.1.0 }
