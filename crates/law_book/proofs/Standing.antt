-- An area that passes the check: what is known of it, what it is once a book is laid in it again, and that it shows its map.
use mathlib.Core.Bool.{Bool, true, false, cond, not}
use mathlib.Core.List.{List, [], ◌∷◌}
use mathlib.Core.Path.{◌≡◌, refl, sym, ap, ap₂, subst, ◌∙◌}
use Prim.Native.Nat.{ℕ, zero, suc, ◌+◌, ◌-◌, ◌*◌, ◌≤◌}
use native.Mathlib.Omega.{arith}
use borrow.Author.Tests.{le-ltb}
use lib.ListN.{length, take, drop, length-append, length-drop, take-append-drop}
use lib.Seq.{drop-drop}
use Rattle.std.specs.Prelude.{Err}
use Rattle.base_answers.specs.declared.err.Answer.{Answer}
use Rattle.base_answers.specs.declared.err.Refusal.TheVariants.{NotHeld}
use Rattle.base_answers.specs.Answers.{Outcome, told, answer_of}
use Rattle.base_answers.proofs.Passed.{Passing, passing, pass_on, through}
use Rattle.base_answers.proofs.Endings.{is-done}
use Rattle.base_samples.specs.Le.{Bytes}
use Rattle.filter_cdf53i.proofs.Lengths.{bytes-join}
use Rattle.law_levels.proofs.Undone.{bytes_take, bytes_drop}
use Rattle.book_entries.specs.Books.{most, entry_size, entry_start, data_at, joined, book_of, entry_at, is_used, used_from, entries_in, total_by, total_in, data_in, free_in, slot_of, is_held, place_at, size_at}
use Rattle.book_entries.specs.Checks.{most_area, book_checks, say_find, say_room}
use Rattle.book_entries.proofs.Passed.{book-passes}
use Rattle.book_entries.proofs.Entries.{entries-few}
use Rattle.book_entries.proofs.Laid.{book-length, entries-sized, data-length, checked}
use Rattle.book_calls.specs.Calls.{holding}
use Rattle.law_book.specs.PlainMap.{Standing, Onward, Map, has, file_for, map_total, bytes_before, place_for, map_says, find, room, files_by, map_in, Shows}
use Rattle.law_book.proofs.Files.{has-held, files-count, files-total, files-place, files-size, files-bytes, files-front}
use Rattle.law_book.proofs.ByteParts.{bytes-zeros, bytes-number}
use Rattle.law_book.proofs.Kept.{Kept}
use Rattle.law_book.proofs.ReadBack.{entries-back, data-back, could-back}

-- a book of bytes is bytes
bytes-book : (es : List (List ℕ)) (d : List ℕ) → Bytes (joined es) → Bytes d → Bytes (book_of es d)
unfolding book_of
bytes-book es d e h =
    bytes-join _ _ (bytes-join _ _ (bytes-number 4 most) (bytes-join _ _ e (bytes-zeros (entry_size * (most - length es))))) (bytes-join _ _ (bytes-number 4 (length d)) h)

-- ---- what is known

-- the bytes of the entries are the area's
used-bytes : (n i : ℕ) (b : List ℕ) → Bytes b → Bytes (joined (used_from n i b))
unfolding used_from joined
used-bytes zero i b h = record { byte = λ i. omega arith }
used-bytes (suc n) i b h = pick (is_used (entry_at b i)) (used-bytes n (suc i) b h)
  where
    pick : (t : Bool) → Bytes (joined (used_from n (suc i) b)) → Bytes (joined (cond t (entry_at b i ∷ used_from n (suc i) b) []))
    pick true g = bytes-join (entry_at b i) (joined (used_from n (suc i) b)) (bytes_take entry_size (drop (entry_start i) b) (bytes_drop (entry_start i) b h)) g
    pick false g = record { byte = λ i. omega arith }

-- 16 where the point is not held, and what is said where it is
pub if-held : (t : Bool) (x y : Outcome) → (t ≡ true → x ≡ y) → cond (not t) (Err NotHeld) x ≡ cond t y (Err NotHeld)
if-held true x y h = h refl
if-held false x y h = refl

module _ (b : List ℕ) (st : Standing b) where
  -- its entries pass the check, and its data is as long as their files
  entries-bytes : Bytes (joined (entries_in b))
  unfolding entries_in
  entries-bytes = used-bytes most 0 b st.bytes

  data-bytes : Bytes (data_in b)
  unfolding data_in
  data-bytes = bytes_take (total_in b) (drop data_at b) (bytes_drop data_at b st.bytes)

  pub total-fits : data_at + total_in b ≤ length b
  total-fits = (checked b st.book.could).within

  pub kept : Kept (entries_in b) (data_in b)
  kept = record { sized = entries-sized b st.book.long; heads = (checked b st.book.could).heads; few = entries-few b; all = data-length b total-fits; entries = entries-bytes; bytes = data-bytes }

  -- ---- what is asked of it is what is asked of its map

  abbrev es : List (List ℕ)
  es = entries_in b

  abbrev hs : Map
  hs = map_in b

  -- the points, how many there are, and how many bytes
  pub map-has : (p : ℕ) → has p hs ≡ is_held p es
  unfolding map_in
  map-has p = has-held p es (data_in b)

  pub map-count : length hs ≡ length es
  unfolding map_in
  map-count = files-count es (data_in b)

  enough : total_by es ≤ length (data_in b)
  enough = omega (arith, data-length b total-fits)

  pub map-total : map_total hs ≡ total_by es
  unfolding map_in
  map-total = files-total es (data_in b) enough

  -- its checks pass, so finding and asking for the room say what the map says
  pub checks-pass : Passing (book_checks b)
  checks-pass = (le-ltb most_area (length b) st.book.short, (le-ltb (length b) data_at st.book.long, (ap not st.book.could, tt)))

  pub find-says : (n p : ℕ) → say_find b p ≡ map_says n hs (find p)
  unfolding say_find map_in
  find-says n p =
      let i = slot_of p es in
      let there = told (data_at + place_at i es) (size_at i es) in
      pass_on (book_checks b) ((not (is_held p es), NotHeld) ∷ []) there checks-pass
      ∙ if-held (is_held p es) there (told (place_for p hs) (length (file_for p hs)))
      (λ h. ap₂ (λ a c. told (data_at + a) c) (sym (files-place p es (data_in b) enough)) (sym (files-size p es (data_in b) enough h)))
      ∙ ap (λ t. cond t (told (place_for p hs) (length (file_for p hs))) (Err NotHeld)) (sym (map-has p))

  pub room_says : (n : ℕ) → n ≡ length b - data_at → say_room b ≡ map_says n hs room
  unfolding say_room
  room_says n e =
      through (book_checks b) (told (free_in b) (length es)) checks-pass
      ∙ ap₂ (λ a c. told a c) (ap₂ (λ a c. a - c) (sym e) (sym map-total)) (sym map-count)

  -- ---- it shows its map

  -- the map is read from all bytes behind the counts
  map-behind : hs ≡ files_by es (drop data_at b)
  unfolding map_in data_in
  map-behind = sym (files-front es (take (total_in b) (drop data_at b)) (drop (total_in b) (drop data_at b)) enough) ∙ ap (files_by es) (take-append-drop (total_in b) (drop data_at b))

  -- what is found, at the place that is named
  pub shows : Shows b (length b - data_at) hs
  shows = record {
    absent = λ q h. find-says (length b - data_at) q ∙ ap (λ t. cond t (told (place_for q hs) (length (file_for q hs))) (Err NotHeld)) h;
    present = λ q h. (
      find-says (length b - data_at) q ∙ ap (λ t. cond t (told (place_for q hs) (length (file_for q hs))) (Err NotHeld)) h,
      ap (take (length (file_for q hs))) (sym (drop-drop (bytes_before q hs) data_at b))
          ∙ subst (λ (m : Map). take (length (file_for q m)) (drop (bytes_before q m) (drop data_at b)) ≡ file_for q m) (sym map-behind)
          (files-bytes q es (drop data_at b) (omega (arith, length-drop data_at b, total-fits))),
    );
    room = room_says (length b - data_at) refl;
    fits = omega (arith, map-total, total-fits);
    few = omega (arith, map-count, entries-few b);
  }

-- an area of which `room` is answered with 0 passes the check
pub asked-stands : (b : List ℕ) → Bytes b → (r : Answer) → r ≡ answer_of (say_room b) → r.number ≡ 0 → Standing b
unfolding say_room
asked-stands b h r e z = record { bytes = h; book = book-passes b (passing (book_checks b) (told (free_in b) (length (entries_in b))) (is-done (say_room b) r e z)) }

-- ---- a book laid in an area

-- its entries are read back, it stands, and its map is that of the entries and the data
pub laid-entries : (b : List ℕ) (es : List (List ℕ)) (d : List ℕ) → Kept es d → entries_in (holding b es d) ≡ es
laid-entries b es d k = entries-back es d (drop (length (book_of es d)) b) k.sized k.heads k.few k.all

pub laid : (b : List ℕ) → Bytes b → length b ≤ most_area → (es : List (List ℕ)) (d : List ℕ) → Kept es d → data_at + length d ≤ length b
    → Onward b (files_by es d) (holding b es d)
unfolding map_in
laid b h short es d k fits =
    let rest = drop (length (book_of es d)) b in
    let long = book-length es d k.sized k.few in
    let size : length (holding b es d) ≡ length b = length-append (book_of es d) rest ∙ omega (arith, length-drop (length (book_of es d)) b) in
    record {
      stands = record {
        bytes = bytes-join _ _ (bytes-book es d k.entries k.bytes) (bytes_drop (length (book_of es d)) b h);
        book = record { long = omega arith; short = omega arith; could = could-back es d rest k.sized k.heads k.few k.all (omega arith) };
      };
      size = size;
      map = ap₂ files_by (laid-entries b es d k) (data-back es d rest k.sized k.heads k.few k.all);
    }
