-- One call on an area that passes the check: it answers what the map answers, and leaves a book of the map that is left.
use mathlib.Core.Bool.{Bool, true, false, cond, not}
use mathlib.Core.List.{List, [], ◌∷◌, ◌++◌}
use mathlib.Core.Path.{◌≡◌, refl, sym, ap, ap₂, subst, ◌∙◌}
use Prim.Native.Nat.{ℕ, ◌-◌, ◌≤◌}
use native.Mathlib.Omega.{arith}
use borrow.Author.Tests.{le-ltb, ltb-false, leb-false}
use lib.Dec.{ltb, leb}
use lib.ListN.{length, take, length-append}
use Rattle.base_answers.specs.declared.err.Answer.{Answer}
use Rattle.std.specs.Prelude.{Err}
use Rattle.base_answers.specs.declared.err.Refusal.TheVariants.{BookFull, AlreadyHeld, NotHeld}
use Rattle.base_answers.specs.Answers.{Outcome, told, say, answer_of, done}
use Rattle.base_answers.specs.Checks.{first_refusal, left}
use Rattle.base_answers.proofs.Passed.{Passing, passing, both-pass, pass_on, through}
use Rattle.base_samples.specs.Le.{Bytes}
use Rattle.book_entries.specs.Books.{most, entry_size, data_at, entries_in, data_in, free_in, slot_of, is_held, place_at, size_at}
use Rattle.book_entries.specs.Checks.{most_area, space_checks, book_checks, whole_checks, room_checks, say_fresh, say_add, say_withdraw, say_find, say_room}
use Rattle.book_entries.proofs.Passed.{held_below}
use Rattle.book_calls.specs.Calls.{fresh_in, Fresh, added_in, withdrawn_in, without}
use Rattle.law_book.specs.PlainMap.{Standing, Onward, map_checks, BookCall, fresh, add, withdraw, find, room, Does, Lent, Map, has, map_total, removed, map_says, changed, on_map, files_by, map_in}
use Rattle.law_book.proofs.Changed.{files-more, less-length, place-within, files-less}
use Rattle.law_book.proofs.WholeFile.{whole-file}
use Rattle.law_book.proofs.Kept.{Kept, kept-none, kept_more, kept_less}
use Rattle.law_book.proofs.Standing.{total-fits, kept, map-has, map-count, map-total, checks-pass, if-held, find-says, room_says, laid-entries, laid}

-- ---- a fresh book

-- with room for one it is made, and holds none
fresh-says : (b : List ℕ) → data_at ≤ length b → length b ≤ most_area → say_fresh b ≡ told 0 0
unfolding say_fresh
fresh-says b long short = through (space_checks (length b)) (told 0 0) (le-ltb most_area (length b) short, (le-ltb (length b) data_at long, tt))

fresh-laid : (b : List ℕ) → Bytes b → data_at ≤ length b → length b ≤ most_area → Onward b [] (fresh_in b)
unfolding fresh_in files_by
fresh-laid b h long short = laid b h short [] [] kept-none long

pub fresh-book : (b : List ℕ) → Bytes b → data_at ≤ length b → length b ≤ most_area → (r : Answer) (b₀ : List ℕ) → Fresh b r b₀ → (r ≡ say 0 0 0) × Onward b [] b₀
fresh-book b h long short r b₀ f =
    let says = fresh-says b long short in
    (f.answer ∙ ap answer_of says, subst (Onward b []) (sym (f.book ∙ ap (λ (s : Outcome). left s (fresh_in b) b) says)) (fresh-laid b h long short))

-- ---- adding

module _ (b : List ℕ) (st : Standing b) where
  abbrev n : ℕ
  n = length b - data_at

  abbrev hs : Map
  hs = map_in b

  abbrev es : List (List ℕ)
  es = entries_in b

  abbrev d : List ℕ
  d = data_in b

  -- adding checks of the book what is checked of its map
  pub add-says : (p : ℕ) (s : List ℕ) → say_add b p s ≡ map_says n hs (add p s)
  unfolding say_add
  add-says p s =
      pass_on (book_checks b) (whole_checks s p ++ room_checks b p (length s)) (told 0 0) (checks-pass b st)
      ∙ ap (λ (t : Bool). first_refusal (whole_checks s p ++ ((t, AlreadyHeld) ∷ (leb most (length es), BookFull) ∷ (ltb (free_in b) (length s), BookFull) ∷ [])) (told 0 0)) (sym (map-has b st p))
      ∙ ap₂ (λ (c t : ℕ). first_refusal (whole_checks s p ++ ((has p hs, AlreadyHeld) ∷ (leb most c, BookFull) ∷ (ltb (n - t) (length s), BookFull) ∷ [])) (told 0 0))
      (sym (map-count b st)) (sym (map-total b st))

  -- a file that is taken: it is whole, its point is new, and there is room
  pub taken : (p : ℕ) (s : List ℕ) → done (map_says n hs (add p s)) ≡ true → Passing (whole_checks s p) × Passing (map_checks n hs p (length s))
  taken p s h =
      both-pass (whole_checks s p) (map_checks n hs p (length s))
      (passing (whole_checks s p ++ map_checks n hs p (length s)) (told 0 0) h)

  -- so it is the last of the entries and of the data, and of the map
  kept-added : (p : ℕ) (s : List ℕ) → Bytes s → done (map_says n hs (add p s)) ≡ true → Kept (es ++ (take entry_size s ∷ [])) (d ++ s)
  kept-added p s bs h =
      let q = taken p s h in
      kept_more es d s p (kept b st) (whole-file s p q.0) bs (sym (map-has b st p) ∙ q.1.0) (omega (arith, map-count b st, leb-false most (length hs) q.1.1.0))

  pub added : (p : ℕ) (s : List ℕ) → Bytes s → done (map_says n hs (add p s)) ≡ true → Onward b (hs ++ ((p, s) ∷ [])) (added_in b s)
  unfolding added_in map_in
  added p s bs h =
      let k = kept b st in
      let q = taken p s h in
      let w = whole-file s p q.0 in
      let fits = ltb-false (n - map_total hs) (length s) q.1.1.1.0 in
      subst (λ (m : Map). Onward b m (added_in b s)) (files-more es (take entry_size s) d s (sym k.all) w.size ∙ ap (λ (i : ℕ). files_by es d ++ ((i, s) ∷ [])) w.point)
      (laid b st.bytes st.book.short (es ++ (take entry_size s ∷ [])) (d ++ s) (kept-added p s bs h) (omega (arith, length-append d s, map-total b st, total-fits b st, k.all)))

  -- its first bytes are the last entry
  pub added-entries : (p : ℕ) (s : List ℕ) → Bytes s → done (map_says n hs (add p s)) ≡ true → entries_in (added_in b s) ≡ es ++ (take entry_size s ∷ [])
  unfolding added_in
  added-entries p s bs h = laid-entries b (es ++ (take entry_size s ∷ [])) (d ++ s) (kept-added p s bs h)

  -- ---- withdrawing

  pub withdraw-says : (p : ℕ) → say_withdraw b p ≡ map_says n hs (withdraw p)
  unfolding say_withdraw
  withdraw-says p =
      pass_on (book_checks b) ((not (is_held p es), NotHeld) ∷ []) (told 0 0) (checks-pass b st)
      ∙ if-held (is_held p es) (told 0 0) (told 0 0) (λ _. refl) ∙ ap (λ t. cond t (told 0 0) (Err NotHeld)) (sym (map-has b st p))

  -- a point that is withdrawn: the rest are packed together
  withdrawn : (p : ℕ) → has p hs ≡ true → Onward b (removed p hs) (withdrawn_in b p)
  unfolding withdrawn_in map_in
  withdrawn p h =
      let k = kept b st in
      let held : is_held p es ≡ true = sym (map-has b st p) ∙ h in
      let i = slot_of p es in
      let place = place_at i es in
      let size = size_at i es in
      let cut = less-length place size d (omega (arith, place-within i es (held_below p es held), k.all)) in
      subst (λ (m : Map). Onward b m (withdrawn_in b p)) (files-less p es d (omega (arith, k.all)) held)
      (laid b st.bytes st.book.short (without i 1 es) (without place size d) (kept_less es d p k held) (omega (arith, total-fits b st, k.all)))

-- ---- any call

done-has : (t : Bool) → done (cond t (told 0 0) (Err NotHeld)) ≡ true → t ≡ true
done-has true h = refl
done-has false h = h

pub stay : (b : List ℕ) → Standing b → Onward b (map_in b) b
stay b st = record { stands = st; size = refl; map = refl }

-- a call that says what the map says: it leaves the new area and map where it is done, and else those that were there
turn : (b : List ℕ) → Standing b → (c : BookCall) (s : Outcome) (new b' : List ℕ) → let n = length b - data_at in s ≡ map_says n (map_in b) c → b' ≡ left s new b
    → (done (map_says n (map_in b) c) ≡ true → Onward b (changed (map_in b) c) new) → Onward b (on_map n (map_in b) c) b'
turn b st c s new b' says book go =
    let m = map_says (length b - data_at) (map_in b) c in
    subst (Onward b (on_map (length b - data_at) (map_in b) c)) (sym (book ∙ ap (λ (m : Outcome). left m new b) says)) (pick (done m) go)
  where
    pick : (t : Bool) → (t ≡ true → Onward b (changed (map_in b) c) new) → Onward b (cond t (changed (map_in b) c) (map_in b)) (cond t new b)
    pick true go = go refl
    pick false go = stay b st

-- what is left of an area of which a call only tells
told_only : (t : Bool) (b b' : List ℕ) → b' ≡ b → b' ≡ cond t b b
told_only true b b' e = e
told_only false b b' e = e

-- the answer is the map's, and so is what is left
pub step : (b : List ℕ) → Standing b → (c : BookCall) → Lent c → (r : Answer) (b' : List ℕ) → Does c b r b'
    → let n = length b - data_at in (r ≡ answer_of (map_says n (map_in b) c)) × Onward b (on_map n (map_in b) c) b'
step b st fresh l r b' c = fresh-book b st.bytes st.book.long st.book.short r b' c
step b st (add p s) bs r b' c =
    let says = add-says b st p s in
    (c.answer ∙ ap answer_of says, turn b st (add p s) (say_add b p s) (added_in b s) b' says c.book (added b st p s bs))
step b st (withdraw p) l r b' c =
    let says = withdraw-says b st p in
    (c.answer ∙ ap answer_of says, turn b st (withdraw p) (say_withdraw b p) (withdrawn_in b p) b' says c.book (λ h. withdrawn b st p (done-has (has p (map_in b)) h)))
step b st (find p) l r b' c =
    let says = find-says b st (length b - data_at) p in
    (c.0 ∙ ap answer_of says, turn b st (find p) (say_find b p) b b' says (told_only (done (say_find b p)) b b' c.1) (λ _. stay b st))
step b st room l r b' c =
    let says = room_says b st (length b - data_at) refl in
    (c.0 ∙ ap answer_of says, turn b st room (say_room b) b b' says (told_only (done (say_room b)) b b' c.1) (λ _. stay b st))
