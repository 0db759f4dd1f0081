-- What finding names is the map's file: after adding a file it is that file, and after withdrawing its point there is none.
use mathlib.Core.Bool.{Bool, true, false, cond, ◌||◌}
use mathlib.Core.List.{List, [], ◌∷◌, ◌++◌}
use mathlib.Core.Path.{◌≡◌, refl, sym, ap, ap₂, subst, ◌∙◌}
use Prim.Native.Nat.{ℕ, ◌-◌}
use native.Mathlib.Omega.{arith}
use borrow.Author.Tests.{eq-eqb, eqb-true}
use lib.Dec.{eqb}
use lib.ListN.{length, take, drop}
use Rattle.std.specs.Prelude.{Err}
use Rattle.base_answers.specs.declared.err.Answer.{Answer}
use Rattle.base_answers.specs.declared.err.Refusal.TheVariants.{NotHeld}
use Rattle.base_answers.specs.Answers.{Outcome, told, answer_of, done}
use Rattle.base_answers.proofs.Endings.{is-done}
use Rattle.base_samples.specs.Le.{Bytes}
use Rattle.book_entries.specs.Books.{data_at, point_by, size_by, entries_in, data_in, is_held, are_entries}
use Rattle.book_entries.specs.Checks.{say_find}
use Rattle.book_calls.specs.Calls.{Add, Withdraw}
use Rattle.law_book.specs.PlainMap.{Standing, Finds, add, withdraw, Map, has, file_for, removed, place_for, map_says, files_by, map_in}
use Rattle.law_book.proofs.Files.{has-held}
use Rattle.law_book.proofs.Changed.{heads-parts}
use Rattle.law_book.proofs.Standing.{kept, find-says, shows}
use Rattle.law_book.proofs.Steps.{taken, step}

-- what finding names is the map's file
pub finds-file : (b : List ℕ) → Standing b → (q : ℕ) → has q (map_in b) ≡ true → Finds b q (file_for q (map_in b))
finds-file b st q h = let p = (shows b st).present q h in record { place = place_for q (map_in b); says = p.0; there = p.1 }

pub file-found : (b : List ℕ) → Standing b → (q : ℕ) (f : List ℕ) → Finds b q f → (has q (map_in b) ≡ true) × (file_for q (map_in b) ≡ f)
file-found b st q f w = pick (has q (map_in b)) refl (sym (find-says b st 0 q) ∙ w.says)
  where
    pick : (t : Bool) → has q (map_in b) ≡ t → cond t (told (place_for q (map_in b)) (length (file_for q (map_in b)))) (Err NotHeld) ≡ told w.place (length f)
        → (has q (map_in b) ≡ true) × (file_for q (map_in b) ≡ f)
    pick true e z =
        let place : place_for q (map_in b) ≡ w.place = ap (λ (s : Outcome). (answer_of s).first) z in
        let size : length (file_for q (map_in b)) ≡ length f = ap (λ (s : Outcome). (answer_of s).second) z in
        (e, sym ((shows b st).present q e).1 ∙ ap₂ (λ (n p : ℕ). take n (drop p b)) size place ∙ w.there)
    pick false e z = absurd (let y : 16 ≡ 0 = ap (λ (s : Outcome). (answer_of s).number) z in omega arith)

-- and where finding is 16 the map has none
pub not_found : (b : List ℕ) → Standing b → (q : ℕ) → say_find b q ≡ Err NotHeld → has q (map_in b) ≡ false
not_found b st q w = pick (has q (map_in b)) (sym (find-says b st 0 q) ∙ w)
  where
    pick : (t : Bool) → cond t (told (place_for q (map_in b)) (length (file_for q (map_in b)))) (Err NotHeld) ≡ (Err NotHeld) → t ≡ false
    pick true z = absurd (let y : 0 ≡ 16 = ap (λ (s : Outcome). (answer_of s).number) z in omega arith)
    pick false z = refl

-- ---- after adding

-- the last file of a map is that of its point, where no other is
last-file : (p : ℕ) (hs : Map) (s : List ℕ) → has p hs ≡ false → (has p (hs ++ ((p, s) ∷ [])) ≡ true) × (file_for p (hs ++ ((p, s) ∷ [])) ≡ s)
unfolding has file_for
last-file p [] s h = let same = eq-eqb p p refl in (ap (λ t. t || false) same, ap (λ t. cond t s []) same)
last-file p (x ∷ hs) s h = pick (eqb x.0 p) h (last-file p hs s)
  where
    pick : (t : Bool) → (t || has p hs) ≡ false → (has p hs ≡ false → (has p (hs ++ ((p, s) ∷ [])) ≡ true) × (file_for p (hs ++ ((p, s) ∷ [])) ≡ s))
        → ((t || has p (hs ++ ((p, s) ∷ []))) ≡ true) × (cond t x.1 (file_for p (hs ++ ((p, s) ∷ []))) ≡ s)
    pick true z f = absurd (let y : ◌≡◌ {A = ℕ} 0 1 = ap (λ t. cond t 0 1) z in omega arith)
    pick false z f = f z

-- finding names the file that was added
pub added-found : (b : List ℕ) → Standing b → (p : ℕ) (s : List ℕ) → Bytes s → (r : Answer) (b' : List ℕ) → Add b p s r b' → r.number ≡ 0 → Standing b' × Finds b' p s
added-found b st p s bs r b' a z =
    let n = length b - data_at in
    let hs = map_in b in
    let on = step b st (add p s) bs r b' a in
    let yes : done (map_says n hs (add p s)) ≡ true = is-done (map_says n hs (add p s)) r on.0 z in
    let map : map_in b' ≡ hs ++ ((p, s) ∷ []) = on.1.map ∙ ap (λ (t : Bool). cond t (hs ++ ((p, s) ∷ [])) hs) yes in
    let last = last-file p hs s (taken b st p s yes).1.0 in
    (on.1.stands, subst (Finds b' p) (ap (file_for p) map ∙ last.1) (finds-file b' on.1.stands p (ap (has p) map ∙ last.0)))

-- ---- after withdrawing

-- each point has one entry
removed-none : (p : ℕ) (es : List (List ℕ)) (d : List ℕ) → are_entries es ≡ true → has p (removed p (files_by es d)) ≡ false
unfolding has removed files_by
removed-none p [] d h = refl
removed-none p (e ∷ es) d h =
    let first = heads-parts e es h in
    pick (eqb (point_by e) p) refl first.1 (removed-none p es (drop (size_by e) d) first.2)
  where
    pick : (t : Bool) → eqb (point_by e) p ≡ t → is_held (point_by e) es ≡ false → has p (removed p (files_by es (drop (size_by e) d))) ≡ false
        → has p (cond t (files_by es (drop (size_by e) d)) ((point_by e, take (size_by e) d) ∷ removed p (files_by es (drop (size_by e) d)))) ≡ false
    pick true z new i = has-held p es (drop (size_by e) d) ∙ ap (λ (q : ℕ). is_held q es) (sym (eqb-true (point_by e) p z)) ∙ new
    pick false z new i = ap₂ (λ a c. a || c) z i

-- finding is 16
pub withdrawn-gone : (b : List ℕ) → Standing b → (p : ℕ) (r : Answer) (b' : List ℕ) → Withdraw b p r b' → r.number ≡ 0 → Standing b' × (say_find b' p ≡ Err NotHeld)
unfolding map_in
withdrawn-gone b st p r b' a z =
    let n = length b - data_at in
    let hs = map_in b in
    let on = step b st (withdraw p) tt r b' a in
    let yes : done (map_says n hs (withdraw p)) ≡ true = is-done (map_says n hs (withdraw p)) r on.0 z in
    let map : map_in b' ≡ removed p hs = on.1.map ∙ ap (λ (t : Bool). cond t (removed p hs) hs) yes in
    (on.1.stands, (shows b' on.1.stands).absent p (ap (has p) map ∙ removed-none p (entries_in b) (data_in b) (kept b st).heads))
