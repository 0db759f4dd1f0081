-- The check of a book is exact, from C-14: it passes just those directories and counts that some calls on a fresh book leave.
use mathlib.Core.Bool.{true, false, ◌||◌}
use mathlib.Core.List.{List, [], ◌∷◌, ◌++◌, append_assoc, append-nil}
use mathlib.Core.Path.{◌≡◌, refl, sym, ap, ap₂, subst, ◌∙◌}
use Prim.Native.Nat.{ℕ, suc, ◌+◌, ◌-◌, ◌≤◌}
use native.Mathlib.Omega.{arith}
use borrow.Author.Tests.{le-ltb, lt-leb}
use lib.Dec.{eqb}
use lib.ListN.{length, take, drop, replicate, length-append, length-drop, length-replicate, take-append-drop}
use lib.Seq.{take_at, length-take-le}
use Rattle.base_answers.specs.declared.err.Answer.{Answer}
use Rattle.base_answers.specs.Answers.{Outcome, told, say, answer_of, done}
use Rattle.base_answers.specs.Checks.{left}
use Rattle.base_answers.proofs.Passed.{Passing, pass-both, through}
use Rattle.base_samples.proofs.LeLaws.{le_at-lt}
use Rattle.base_samples.specs.Le.{le_bytes, Bytes}
use Rattle.file_open.specs.Files.{section_of}
use Rattle.book_entries.specs.Books.{most, entry_size, data_at, point_by, size_by, joined, book_of, entries_in, total_by, total_in, data_in, is_held, slot_of, is_head, are_entries, could_be}
use Rattle.book_entries.specs.Checks.{most_area, whole_checks, say_fresh}
use Rattle.book_entries.proofs.Laid.{AllSized, unused, book-length, book-is}
use Rattle.book_calls.specs.Calls.{Fresh, fresh_in, added_in, Add}
use Rattle.book_calls.proofs.Changed.{joined-append, sized-parts}
use Rattle.law_book.specs.PlainMap.{Standing, BookCall, add, Ran, none, next, AllLent, AllNumbered, map_total, map_checks, map_says, map_in, Reached}
use Rattle.law_book.proofs.ByteParts.{bytes-parts, bytes-zeros}
use Rattle.law_book.proofs.Files.{held_cons}
use Rattle.law_book.proofs.Changed.{none_of, held-append, heads-parts, apart, total-append}
use Rattle.law_book.proofs.Kept.{Kept}
use Rattle.law_book.proofs.ReadBack.{could-back}
use Rattle.law_book.proofs.Standing.{total-fits, kept, map-has, map-count, map-total}
use Rattle.law_book.proofs.Steps.{add-says, added, added-entries, fresh-book}
use Rattle.law_book.proofs.IsMap.{sequence}
use Rattle.law_book.proofs.EntryFile.{file_from, from_bytes, from-entry, from-size, from-taken}

-- ---- the directory and the counts of entries

-- all that stands before the data
unfoldable front_of : List (List ℕ) → List ℕ
front_of es = section_of most (joined es ++ unused (length es)) ++ le_bytes 4 (total_by es)

-- a book is that, and its data behind
book-front : (es : List (List ℕ)) (d : List ℕ) → length d ≡ total_by es → book_of es d ≡ front_of es ++ d
unfolding book_of front_of
book-front es d h =
    let dir = section_of most (joined es ++ unused (length es)) in
    ap (λ (n : ℕ). dir ++ (le_bytes 4 n ++ d)) h ∙ sym (append_assoc dir (le_bytes 4 (total_by es)) d)

front_length : (es : List (List ℕ)) (d : List ℕ) → Kept es d → length (front_of es) ≡ data_at
front_length es d k = omega (arith, length-append (front_of es) d, ap length (book-front es d k.all), book-length es d k.sized k.few)

-- an area that passes the check begins with those of its entries
front-in : (b : List ℕ) → Standing b → take data_at b ≡ front_of (entries_in b)
front-in b st =
    let es = entries_in b in
    let d = data_in b in
    let k = kept b st in
    let rest = drop (data_at + total_in b) b in
    ap (take data_at) (book-is b st.bytes st.book.long st.book.could ∙ ap (λ (l : List ℕ). l ++ rest) (book-front es d k.all) ∙ append_assoc (front_of es) d rest)
    ∙ take_at (front_of es) (d ++ rest) data_at (front_length es d k)

-- so the entries decide it
front_same : (b c : List ℕ) → Standing b → Standing c → entries_in b ≡ entries_in c → take data_at b ≡ take data_at c
front_same b c st su e = front-in b st ∙ ap front_of e ∙ sym (front-in c su)

-- and every area that begins so and is long enough passes the check
front-passes : (b : List ℕ) (es : List (List ℕ)) (d : List ℕ) → Kept es d → take data_at b ≡ front_of es → data_at + total_by es ≤ length b → length b ≤ most_area → could_be b ≡ true
front-passes b es d k front fits short =
    let n = total_by es in
    let behind = drop data_at b in
    let files = take n behind in
    let rest = drop n behind in
    let long : length files ≡ n = length-take-le n behind (omega (arith, length-drop data_at b)) in
    let is : b ≡ book_of es files ++ rest =
    sym (take-append-drop data_at b) ∙ ap₂ ◌++◌ front (sym (take-append-drop n behind)) ∙ sym (append_assoc (front_of es) files rest)
    ∙ ap (λ (l : List ℕ). l ++ rest) (sym (book-front es files long)) in
    ap could_be is ∙ could-back es files rest k.sized k.heads k.few long (omega arith)

-- ---- adding the files of entries, one after the other

-- the calls
unfoldable calls_for : List (List ℕ) → List BookCall
calls_for [] = []
calls_for (e ∷ es) = add (point_by e) (file_from e) ∷ calls_for es

-- what they lend is bytes
all-lent : (es : List (List ℕ)) → AllLent (calls_for es)
unfolding AllLent calls_for
all-lent [] = tt
all-lent (e ∷ es) = (from_bytes e, all-lent es)

-- and their points are numbers of four bytes
all-numbered : (es : List (List ℕ)) → Bytes (joined es) → AllNumbered (calls_for es)
unfolding AllNumbered calls_for joined
all-numbered [] h = tt
all-numbered (e ∷ es) h = let parts = bytes-parts e (joined es) h in (le_at-lt e parts.0 4 10, all-numbered es parts.1)

-- an entry among others begins a file, and none before it has its point
heads-at : (xs : List (List ℕ)) (y : List ℕ) (ys : List (List ℕ)) → are_entries (xs ++ (y ∷ ys)) ≡ true → (is_head y ≡ true) × (is_held (point_by y) xs ≡ false)
unfolding slot_of
heads-at [] y ys h = ((heads-parts y ys h).0, refl)
heads-at (x ∷ xs) y ys h =
    let first = heads-parts x (xs ++ (y ∷ ys)) h in
    let later = (none_of (is_held (point_by x) xs) (is_held (point_by x) (y ∷ ys)) (sym (held-append (point_by x) xs (y ∷ ys)) ∙ first.1)).1 in
    let other = (none_of (eqb (point_by y) (point_by x)) (is_held (point_by x) ys) (sym (held_cons (point_by x) y ys) ∙ later)).0 in
    let rest = heads-at xs y ys first.2 in
    (rest.0, held_cons (point_by y) x xs ∙ ap₂ (λ a b. a || b) (apart (point_by y) (point_by x) other) rest.1)

-- what adding them leaves of the area c
record Filled (c : List ℕ) (ys es : List (List ℕ)) : Type 0 where
  answers : List Answer
  area : List ℕ
  ran : Ran c (calls_for ys) answers area
  stands : Standing area
  size : length area ≡ length c
  entries : entries_in area ≡ es

-- one of them
record Added (c : List ℕ) (y : List ℕ) : Type 0 where
  does : Add c (point_by y) (file_from y) (say 0 0 0) (added_in c (file_from y))
  stands : Standing (added_in c (file_from y))
  size : length (added_in c (file_from y)) ≡ length c
  entries : entries_in (added_in c (file_from y)) ≡ entries_in c ++ (y ∷ [])

-- it is taken, since its entry begins a file, for a point that is new, and there is room for all
one : (y : List ℕ) (ys es : List (List ℕ)) (d c : List ℕ) → Kept es d → es ≡ entries_in c ++ (y ∷ ys) → Standing c → data_at + total_by es ≤ length c → Added c y
unfolding AllSized total_by joined
one y ys es d c k e st fits =
    let xs = entries_in c in
    let s = file_from y in
    let p = point_by y in
    let n = length c - data_at in
    let hs = map_in c in
    let at = heads-at xs y ys (ap are_entries (sym e) ∙ k.heads) in
    let sized : length y ≡ entry_size = (sized-parts xs (y ∷ ys) (subst AllSized e k.sized)).1.0 in
    let bytes : Bytes y = (bytes-parts y (joined ys) (bytes-parts (joined xs) (y ++ joined ys) (subst Bytes (ap joined e ∙ joined-append xs (y ∷ ys)) k.entries)).1).0 in
    let count : length es ≡ length xs + suc (length ys) = ap length e ∙ length-append xs (y ∷ ys) in
    let total : total_by es ≡ total_by xs + (size_by y + total_by ys) = ap total_by e ∙ total-append xs (y ∷ ys) in
    let long : length s ≡ size_by y = from-size y at.0 bytes sized in
    let room : Passing (map_checks n hs p (length s)) = (
      map-has c st p ∙ at.1,
      (lt-leb most (length hs) (omega (arith, map-count c st, k.few)), (le-ltb (n - map_total hs) (length s) (omega (arith, map-total c st)), tt)),
    ) in
    let says : map_says n hs (add p s) ≡ told 0 0 =
    through (whole_checks s p ++ map_checks n hs p (length s)) (told 0 0) (pass-both (whole_checks s p) (map_checks n hs p (length s)) (from-taken y at.0 bytes sized) room) in
    let yes : done (map_says n hs (add p s)) ≡ true = ap done says in
    let all = add-says c st p s ∙ says in
    let on = added c st p s (from_bytes y) yes in
    record {
      does = record { answer = sym (ap answer_of all); book = sym (ap (λ (m : Outcome). left m (added_in c s) c) all) };
      stands = on.stands;
      size = on.size;
      entries = added-entries c st p s (from_bytes y) yes ∙ ap (λ (x : List ℕ). xs ++ (x ∷ [])) (from-entry y at.0 bytes sized);
    }

-- and all of them
fill : (ys es : List (List ℕ)) (d c : List ℕ) → Kept es d → es ≡ entries_in c ++ ys → Standing c → data_at + total_by es ≤ length c → Filled c ys es
unfolding calls_for
fill [] es d c k e st fits = record { answers = []; area = c; ran = none; stands = st; size = refl; entries = sym (append-nil (entries_in c)) ∙ sym e }
fill (y ∷ ys) es d c k e st fits =
    let xs = entries_in c in
    let at = one y ys es d c k e st fits in
    let same : es ≡ entries_in (added_in c (file_from y)) ++ ys = e ∙ sym (append_assoc xs (y ∷ []) ys) ∙ ap (λ (l : List (List ℕ)). l ++ ys) (sym at.entries) in
    let more = fill ys es d (added_in c (file_from y)) k same at.stands (omega (arith, at.size)) in
    record {
      answers = say 0 0 0 ∷ more.answers;
      area = more.area;
      ran = next {c = add (point_by y) (file_from y)} at.does more.ran;
      stands = more.stands;
      size = more.size ∙ at.size;
      entries = more.entries;
    }

-- ---- both ways

-- a list of none is empty
none-held : (es : List (List ℕ)) → length es ≡ 0 → es ≡ []
none-held [] h = refl
none-held (e ∷ es) h = absurd (omega arith)

-- adding the files of its entries to a fresh book leaves the directory and the counts of any book that passes
reached : (b : List ℕ) → Standing b → Reached (length b) (take data_at b)
unfolding map_in
reached b st =
    let area : List ℕ = replicate (length b) 0 in
    let size : length area ≡ length b = length-replicate {A = ℕ} (length b) 0 in
    let begun = left (say_fresh area) (fresh_in area) area in
    let fresh : Fresh area (answer_of (say_fresh area)) begun = record { answer = refl; book = refl } in
    let book = fresh-book area (bytes-zeros (length b)) (omega (arith, st.book.long)) (omega (arith, st.book.short)) (answer_of (say_fresh area)) begun fresh in
    let on = book.1 in
    let empty : entries_in begun ≡ [] = none-held (entries_in begun) (sym (map-count begun on.stands) ∙ ap length on.map) in
    let es = entries_in b in
    let full = fill es es (data_in b) begun (kept b st) (ap (λ (l : List (List ℕ)). l ++ es) (sym empty)) on.stands (omega (arith, total-fits b st, on.size)) in
    record {
      area = area;
      bytes = bytes-zeros (length b);
      size = size;
      begun = begun;
      made = record { answer = sym book.0; book = refl };
      calls = calls_for es;
      lent = all-lent es;
      numbered = all-numbered es (kept b st).entries;
      answers = full.answers;
      left = full.area;
      ran = full.ran;
      front = front_same full.area b full.stands st full.entries;
    }

-- and what calls left passes, whatever stands in the data
passes : (b : List ℕ) → data_at ≤ length b → length b ≤ most_area → Reached (length b) (take data_at b) → could_be b ≡ true
passes b long short r =
    let begun = (fresh-book r.area r.bytes (omega (arith, r.size)) (omega (arith, r.size)) (say 0 0 0) r.begun r.made).1 in
    let last = (sequence r.ran (length r.begun - data_at) (map_in r.begun) begun.stands refl refl r.lent).1 in
    let st = last.stands in
    front-passes b (entries_in r.left) (data_in r.left) (kept r.left st) (sym r.front ∙ front-in r.left st)
    (omega (arith, total-fits r.left st, last.size, begun.size, r.size)) short

-- "9 (0, 0) a directory or section count that no calls could have left": any other is one that calls left, in an area of that size
pub could-be : (b : List ℕ) → Bytes b → data_at ≤ length b → length b ≤ most_area
    → (could_be b ≡ true → Reached (length b) (take data_at b)) × (Reached (length b) (take data_at b) → could_be b ≡ true)
could-be b h long short = (λ could. reached b (record { bytes = h; book = record { long = long; short = short; could = could } }), passes b long short)
