-- What adding and withdrawing leave of the entries, of the data, and of the map that both are.
use mathlib.Core.Bool.{Bool, true, false, cond, not, ◌&&◌, ◌||◌, and-eq-true_iff, or_assoc}
use mathlib.Core.List.{List, [], ◌∷◌, ◌++◌, append_assoc}
use mathlib.Core.Path.{◌≡◌, refl, sym, ap, ap₂, ◌∙◌}
use Prim.Native.Nat.{ℕ, zero, suc, ◌+◌, ◌≤◌, ◌<◌}
use native.Mathlib.Nat.{zero-add, suc-add, add_assoc}
use native.Mathlib.Omega.{arith}
use borrow.Author.Tests.{ltb-true, ne_eqb, eqb-true, eqb-false, not-true}
use lib.Dec.{eqb}
use lib.ListN.{length, take, drop, length-append, length-drop, take-append-drop}
use lib.Seq.{take_at, drop_at, drop-drop, take-add, take-nil, drop-nil, take-length, length-take-le, take-append-le, drop-append-le}
use Rattle.book_entries.specs.Books.{point_by, size_by, total_by, slot_of, is_held, place_at, size_at, is_head, are_entries}
use Rattle.book_entries.proofs.Entries.{place-next, place-most}
use Rattle.book_calls.specs.Calls.{without}
use Rattle.law_book.specs.PlainMap.{Map, has, file_for, removed, files_by}
use Rattle.law_book.proofs.Files.{held_cons, front-size, rest-enough}

-- neither of two
pub none_of : (a b : Bool) → (a || b) ≡ false → (a ≡ false) × (b ≡ false)
none_of true b h = absurd (let z : ◌≡◌ {A = ℕ} 0 1 = ap (λ t. cond t 0 1) h in omega arith)
none_of false b h = (refl, h)

-- ---- points

-- joined entries hold the points of both
pub held-append : (p : ℕ) (xs ys : List (List ℕ)) → is_held p (xs ++ ys) ≡ (is_held p xs || is_held p ys)
unfolding slot_of
held-append p [] ys = refl
held-append p (x ∷ xs) ys =
    held_cons p x (xs ++ ys)
    ∙ ap (λ t. eqb (point_by x) p || t) (held-append p xs ys)
    ∙ sym (or_assoc (eqb (point_by x) p) (is_held p xs) (is_held p ys))
    ∙ ap (λ t. t || is_held p ys) (sym (held_cons p x xs))

-- a point that is not held is not held by some of the entries
held-less : (p i n : ℕ) (es : List (List ℕ)) → is_held p es ≡ false → is_held p (without i n es) ≡ false
held-less p i n es h =
    let part : (j : ℕ) → (is_held p (take j es) ≡ false) × (is_held p (drop j es) ≡ false) =
    λ j. none_of (is_held p (take j es)) (is_held p (drop j es)) (sym (held-append p (take j es) (drop j es)) ∙ ap (is_held p) (take-append-drop j es) ∙ h) in
    held-append p (take i es) (drop (i + n) es) ∙ ap₂ (λ a b. a || b) (part i).0 (part (i + n)).1

-- ---- entries that begin files, each for a point of its own

module _ (e : List ℕ) (es : List (List ℕ)) where
  pub heads-parts : are_entries (e ∷ es) ≡ true → (is_head e ≡ true) × (is_held (point_by e) es ≡ false) × (are_entries es ≡ true)
  unfolding are_entries
  heads-parts h =
      let both = (and-eq-true_iff (is_head e && not (is_held (point_by e) es)) (are_entries es)).0 h in
      let first = (and-eq-true_iff (is_head e) (not (is_held (point_by e) es))).0 both.0 in
      (first.0, not-true (is_held (point_by e) es) first.1, both.1)

  pub heads-join : is_head e ≡ true → is_held (point_by e) es ≡ false → are_entries es ≡ true → are_entries (e ∷ es) ≡ true
  unfolding are_entries
  heads-join h new more =
      (and-eq-true_iff (is_head e && not (is_held (point_by e) es)) (are_entries es)).1 ((and-eq-true_iff (is_head e) (not (is_held (point_by e) es))).1 (h, ap not new), more)

-- two points that are not the same, either way round
pub apart : (p q : ℕ) → eqb p q ≡ false → eqb q p ≡ false
apart p q h = ne_eqb q p (λ z. eqb-false p q h (sym z))

-- ---- adding

-- an entry for another point may follow
pub heads-more : (es : List (List ℕ)) (e : List ℕ) → are_entries es ≡ true → is_head e ≡ true → is_held (point_by e) es ≡ false → are_entries (es ++ (e ∷ [])) ≡ true
unfolding are_entries slot_of
heads-more [] e a h q = heads-join e [] h refl refl
heads-more (x ∷ xs) e a h q =
    let first = heads-parts x xs a in
    let others = none_of (eqb (point_by x) (point_by e)) (is_held (point_by e) xs) (sym (held_cons (point_by e) x xs) ∙ q) in
    let new : is_held (point_by x) (xs ++ (e ∷ [])) ≡ false =
    held-append (point_by x) xs (e ∷ []) ∙ ap₂ (λ a b. a || b) first.1 (held_cons (point_by x) e [] ∙ ap (λ t. t || is_held (point_by x) []) (apart (point_by x) (point_by e) others.0)) in
    heads-join x (xs ++ (e ∷ [])) first.0 new (heads-more xs e first.2 h others.1)

-- joined entries have the bytes of both
pub total-append : (xs ys : List (List ℕ)) → total_by (xs ++ ys) ≡ total_by xs + total_by ys
unfolding total_by
total-append [] ys = sym (zero-add (total_by ys))
total-append (x ∷ xs) ys = ap (λ n. size_by x + n) (total-append xs ys) ∙ sym (add_assoc (size_by x) (total_by xs) (total_by ys))

-- the map has its file last
pub files-more : (es : List (List ℕ)) (e d s : List ℕ) → total_by es ≡ length d → length s ≡ size_by e → files_by (es ++ (e ∷ [])) (d ++ s) ≡ files_by es d ++ ((point_by e, s) ∷ [])
unfolding files_by total_by
files-more [] e [] s h z = ap (λ (f : List ℕ). (point_by e, f) ∷ []) (ap (λ n. take n s) (sym z) ∙ take-length s)
files-more [] e (c ∷ d) s h z = absurd (omega arith)
files-more (x ∷ xs) e d s h z =
    let n = size_by x in
    let few : n ≤ length d = omega arith in
    ap₂ (λ (f r : List ℕ). (point_by x, f) ∷ files_by (xs ++ (e ∷ [])) r) (take-append-le n d s few) (drop-append-le n d s few)
    ∙ ap (λ (m : Map). (point_by x, take n d) ∷ m) (files-more xs e (drop n d) s (omega (arith, length-drop n d)) z)

-- ---- withdrawing

-- of the entry behind the first, the rest without the first
less-next : (i : ℕ) (e : List ℕ) (es : List (List ℕ)) → without (suc i) 1 (e ∷ es) ≡ e ∷ without i 1 es
less-next i e es = ap (λ n. e ∷ (take i es ++ drop n (e ∷ es))) (suc-add i 1)

-- and each still begins a file, for a point of its own
pub heads-less : (i : ℕ) (es : List (List ℕ)) → are_entries es ≡ true → are_entries (without i 1 es) ≡ true
heads-less i [] a = ap₂ (λ (x y : List (List ℕ)). are_entries (x ++ y)) (take-nil i) (drop-nil (i + 1)) ∙ a
heads-less zero (e ∷ es) a = (heads-parts e es a).2
heads-less (suc i) (e ∷ es) a =
    let first = heads-parts e es a in
    ap are_entries (less-next i e es) ∙ heads-join e (without i 1 es) first.0 (held-less (point_by e) i 1 es first.1) (heads-less i es first.2)

-- how long a list is without some
pub less-length : {A : Type 0} (i n : ℕ) (l : List A) → i + n ≤ length l → length (without i n l) + n ≡ length l
less-length i n l h = omega (arith, length-append (take i l) (drop (i + n) l), length-take-le i l (omega arith), length-drop (i + n) l)

-- the bytes of the files that stay, and of the one that goes
pub total-less : (i : ℕ) (es : List (List ℕ)) → i < length es → total_by (without i 1 es) + size_at i es ≡ total_by es
unfolding total_by
total-less i [] h = absurd (omega arith)
total-less zero (e ∷ es) h = omega arith
total-less (suc i) (e ∷ es) h =
    ap (λ (l : List (List ℕ)). total_by l + size_at i es) (less-next i e es) ∙ add_assoc (size_by e) (total_by (without i 1 es)) (size_at i es)
    ∙ ap (λ n. size_by e + n) (total-less i es (omega arith))

-- and its file ends within all
pub place-within : (i : ℕ) (es : List (List ℕ)) → i < length es → place_at i es + size_at i es ≤ total_by es
place-within i es h = omega (arith, place-next es i h, place-most (suc i) es)

-- the map is without the point's file
pub files-less : (p : ℕ) (es : List (List ℕ)) (d : List ℕ) → total_by es ≤ length d → is_held p es ≡ true
    → let i = slot_of p es in files_by (without i 1 es) (without (place_at i es) (size_at i es) d) ≡ removed p (files_by es d)
unfolding files_by total_by removed slot_of
files-less p [] d h q = absurd (omega (arith, ltb-true 0 0 q))
files-less p (e ∷ es) d h q =
    pick (eqb (point_by e) p) (files-less p es (drop (size_by e) d) (rest-enough (size_by e) (total_by es) d h)) (sym (held_cons p e es) ∙ q)
  where
    pick : (t : Bool)
        → (is_held p es ≡ true → let i = slot_of p es in files_by (without i 1 es) (without (place_at i es) (size_at i es) (drop (size_by e) d)) ≡ removed p (files_by es (drop (size_by e) d)))
        → (t || is_held p es) ≡ true
        → let i = cond t 0 (suc (slot_of p es)) in
        files_by (without i 1 (e ∷ es)) (without (place_at i (e ∷ es)) (size_at i (e ∷ es)) d)
        ≡ cond t (files_by es (drop (size_by e) d)) ((point_by e, take (size_by e) d) ∷ removed p (files_by es (drop (size_by e) d)))
    pick true f q = ap (λ m. files_by es (drop m d)) (zero-add (size_by e))
    pick false f q =
        let i = slot_of p es in
        let a = place_at i es in
        let c = size_at i es in
        let left = without a c (drop (size_by e) d) in
        let long = front-size (size_by e) (total_by es) d h in
        let bytes : without (size_by e + a) c d ≡ take (size_by e) d ++ left =
        ap₂ (λ (x y : List ℕ). x ++ y) (take-add (size_by e) a d) (ap (λ m. drop m d) (add_assoc (size_by e) a c) ∙ sym (drop-drop (a + c) (size_by e) d))
        ∙ append_assoc (take (size_by e) d) (take a (drop (size_by e) d)) (drop (a + c) (drop (size_by e) d)) in
        ap₂ (λ (x : List (List ℕ)) (y : List ℕ). files_by x y) (less-next i e es) bytes
        ∙ ap₂ (λ (x y : List ℕ). (point_by e, x) ∷ files_by (without i 1 es) y) (take_at (take (size_by e) d) left (size_by e) long) (drop_at (take (size_by e) d) left (size_by e) long)
        ∙ ap (λ (m : Map). (point_by e, take (size_by e) d) ∷ m) (f q)

-- ---- the other points

-- the two maps have the same file of q, or none
abbrev pub SameFile : ℕ → Map → Map → Type 0
SameFile q hs hs' = (has q hs' ≡ has q hs) × (file_for q hs' ≡ file_for q hs)

module _ (p q : ℕ) (other : p ≡ q → ⊥) where
  pub same-removed : (hs : Map) → SameFile q hs (removed p hs)
  unfolding has file_for removed
  same-removed [] = (refl, refl)
  same-removed (h ∷ hs) = pick (eqb h.0 p) refl (same-removed hs)
    where
      pick : (t : Bool) → eqb h.0 p ≡ t → SameFile q hs (removed p hs) → SameFile q (h ∷ hs) (cond t hs (h ∷ removed p hs))
      pick true z i = let no = sym (ne_eqb h.0 q (λ y. other (sym (eqb-true h.0 p z) ∙ y))) in (ap (λ t. t || has q hs) no, ap (λ t. cond t h.1 (file_for q hs)) no)
      pick false z i = (ap (λ t. eqb h.0 q || t) i.0, ap (λ (f : List ℕ). cond (eqb h.0 q) h.1 f) i.1)

  pub same-added : (hs : Map) (s : List ℕ) → SameFile q hs (hs ++ ((p, s) ∷ []))
  unfolding has file_for
  same-added [] s = let no = ne_eqb p q other in (ap (λ t. t || false) no, ap (λ t. cond t s []) no)
  same-added (h ∷ hs) s = let i = same-added hs s in (ap (λ t. eqb h.0 q || t) i.0, ap (λ (f : List ℕ). cond (eqb h.0 q) h.1 f) i.1)
