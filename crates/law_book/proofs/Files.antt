-- Entries and their data as a map: what is asked of the entries is what is asked of the map.
use mathlib.Core.Bool.{Bool, true, false, cond, ◌||◌}
use mathlib.Core.List.{List, [], ◌∷◌, ◌++◌}
use mathlib.Core.Path.{◌≡◌, refl, sym, ap, ap₂, ◌∙◌}
use Prim.Native.Nat.{ℕ, suc, ◌+◌, ◌≤◌}
use native.Mathlib.Omega.{arith}
use borrow.Author.Tests.{lt-ltb, ltb-true}
use lib.Dec.{ltb, eqb, leb-suc-suc}
use lib.ListN.{length, take, drop, length-drop}
use lib.Seq.{drop-drop, length-take-le, take-append-le, drop-append-le}
use Rattle.book_entries.specs.Books.{point_by, size_by, total_by, slot_of, is_held, place_at, size_at}
use Rattle.law_book.specs.PlainMap.{Map, has, file_for, map_total, bytes_before, files_by}

-- an entry in front has the point, or the others hold it
pub held_cons : (p : ℕ) (e : List ℕ) (es : List (List ℕ)) → is_held p (e ∷ es) ≡ (eqb (point_by e) p || is_held p es)
unfolding slot_of
held_cons p e es = pick (eqb (point_by e) p)
  where
    pick : (t : Bool) → ltb (cond t 0 (suc (slot_of p es))) (suc (length es)) ≡ (t || is_held p es)
    pick true = lt-ltb 0 (suc (length es)) (omega arith)
    pick false = leb-suc-suc (suc (slot_of p es)) (length es)

-- ---- what is asked

-- the map has the points that the entries hold, and as many
pub has-held : (p : ℕ) (es : List (List ℕ)) (d : List ℕ) → has p (files_by es d) ≡ is_held p es
unfolding has files_by slot_of
has-held p [] d = refl
has-held p (e ∷ es) d = ap (λ t. eqb (point_by e) p || t) (has-held p es (drop (size_by e) d)) ∙ sym (held_cons p e es)

pub files-count : (es : List (List ℕ)) (d : List ℕ) → length (files_by es d) ≡ length es
unfolding files_by
files-count [] d = refl
files-count (e ∷ es) d = ap suc (files-count es (drop (size_by e) d))

-- of data that has n bytes and m more: the first n, and that the rest has m
pub front-size : (n m : ℕ) (d : List ℕ) → n + m ≤ length d → length (take n d) ≡ n
front-size n m d h = length-take-le n d (omega arith)

pub rest-enough : (n m : ℕ) (d : List ℕ) → n + m ≤ length d → m ≤ length (drop n d)
rest-enough n m d h = omega (arith, length-drop n d)

-- its files have as many bytes as the entries say
pub files-total : (es : List (List ℕ)) (d : List ℕ) → total_by es ≤ length d → map_total (files_by es d) ≡ total_by es
unfolding files_by map_total total_by
files-total [] d h = refl
files-total (e ∷ es) d h = ap₂ (λ a b. a + b) (front-size (size_by e) (total_by es) d h) (files-total es (drop (size_by e) d) (rest-enough (size_by e) (total_by es) d h))

-- a point's file stands where its entry says
pub files-place : (p : ℕ) (es : List (List ℕ)) (d : List ℕ) → total_by es ≤ length d → bytes_before p (files_by es d) ≡ place_at (slot_of p es) es
unfolding files_by bytes_before total_by slot_of
files-place p [] d h = refl
files-place p (e ∷ es) d h = pick (eqb (point_by e) p) (files-place p es (drop (size_by e) d) (rest-enough (size_by e) (total_by es) d h))
  where
    pick : (t : Bool) → bytes_before p (files_by es (drop (size_by e) d)) ≡ place_at (slot_of p es) es
        → cond t 0 (length (take (size_by e) d) + bytes_before p (files_by es (drop (size_by e) d))) ≡ place_at (cond t 0 (suc (slot_of p es))) (e ∷ es)
    pick true i = refl
    pick false i = ap₂ (λ a b. a + b) (front-size (size_by e) (total_by es) d h) i

-- and is as long as its entry says
pub files-size : (p : ℕ) (es : List (List ℕ)) (d : List ℕ) → total_by es ≤ length d → is_held p es ≡ true → length (file_for p (files_by es d)) ≡ size_at (slot_of p es) es
unfolding files_by file_for total_by slot_of
files-size p [] d h q = absurd (omega (arith, ltb-true 0 0 q))
files-size p (e ∷ es) d h q =
    pick (eqb (point_by e) p) (files-size p es (drop (size_by e) d) (rest-enough (size_by e) (total_by es) d h)) (sym (held_cons p e es) ∙ q)
  where
    pick : (t : Bool) → (is_held p es ≡ true → length (file_for p (files_by es (drop (size_by e) d))) ≡ size_at (slot_of p es) es) → (t || is_held p es) ≡ true
        → length (cond t (take (size_by e) d) (file_for p (files_by es (drop (size_by e) d)))) ≡ size_at (cond t 0 (suc (slot_of p es))) (e ∷ es)
    pick true i q = front-size (size_by e) (total_by es) d h
    pick false i q = i q

-- and is the data there
pub files-bytes : (p : ℕ) (es : List (List ℕ)) (d : List ℕ) → total_by es ≤ length d
    → take (length (file_for p (files_by es d))) (drop (bytes_before p (files_by es d)) d) ≡ file_for p (files_by es d)
unfolding files_by file_for bytes_before total_by
files-bytes p [] d h = refl
files-bytes p (e ∷ es) d h = pick (eqb (point_by e) p) (files-bytes p es (drop (size_by e) d) (rest-enough (size_by e) (total_by es) d h))
  where
    here : length (take (size_by e) d) ≡ size_by e
    here = front-size (size_by e) (total_by es) d h

    pick : (t : Bool)
        → take (length (file_for p (files_by es (drop (size_by e) d)))) (drop (bytes_before p (files_by es (drop (size_by e) d))) (drop (size_by e) d)) ≡ file_for p (files_by es (drop (size_by e) d))
        → let f = cond t (take (size_by e) d) (file_for p (files_by es (drop (size_by e) d))) in
        take (length f) (drop (cond t 0 (length (take (size_by e) d) + bytes_before p (files_by es (drop (size_by e) d)))) d) ≡ f
    pick true i = ap (λ n. take n d) here
    pick false i =
        let more = bytes_before p (files_by es (drop (size_by e) d)) in
        let f = file_for p (files_by es (drop (size_by e) d)) in
        ap (λ n. take (length f) (drop (n + more) d)) here ∙ ap (take (length f)) (sym (drop-drop more (size_by e) d)) ∙ i

-- what stands behind the data is no part of it
pub files-front : (es : List (List ℕ)) (d t : List ℕ) → total_by es ≤ length d → files_by es (d ++ t) ≡ files_by es d
unfolding files_by total_by
files-front [] d t h = refl
files-front (e ∷ es) d t h =
    let n = size_by e in
    let few : n ≤ length d = omega arith in
    ap₂ (λ (f r : List ℕ). (point_by e, f) ∷ files_by es r) (take-append-le n d t few) (drop-append-le n d t few)
    ∙ ap (λ (m : Map). (point_by e, take n d) ∷ m) (files-front es (drop n d) t (rest-enough n (total_by es) d h))
