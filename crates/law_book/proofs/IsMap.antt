-- The book is a map, from C-14: over any sequence of calls, on a fresh book or on any area that passes the check, every answer is the map's, and finding shows the map.
use mathlib.Core.Bool.{Bool, true, false, cond}
use mathlib.Core.List.{List, [], ◌∷◌}
use mathlib.Core.Logic.{◌⊎◌, inl, inr, ⊎_elim}
use mathlib.Core.Path.{◌≡◌, refl, sym, ap, ap₂, subst, ◌∙◌}
use Prim.Native.Nat.{ℕ, ◌-◌, ◌≤◌, ◌<◌}
use native.Mathlib.Omega.{arith}
use borrow.Author.Tests.{ltb-true, ltb-false, leb-true, leb-false}
use lib.Dec.{ltb, leb}
use lib.ListN.{length}
use Rattle.std.specs.Prelude.{Err}
use Rattle.base_answers.specs.declared.err.Answer.{Answer}
use Rattle.base_answers.specs.declared.err.Refusal.TheVariants.{BookFull, AlreadyHeld}
use Rattle.base_answers.specs.Answers.{told, say, answer_of}
use Rattle.base_answers.specs.Checks.{first_refusal}
use Rattle.base_answers.proofs.Passed.{Passing, pass_on}
use Rattle.base_samples.specs.Le.{Bytes}
use Rattle.book_entries.specs.Books.{most, data_at}
use Rattle.book_entries.specs.Checks.{most_area, whole_checks}
use Rattle.book_calls.specs.Calls.{Fresh, Add}
use Rattle.law_book.specs.PlainMap.{Standing, Onward, map_checks, BookCall, Ran, none, next, AllLent, Map, has, map_total, map_says, on_map, map_answers, map_after, map_in, Shows}
use Rattle.law_book.proofs.Standing.{shows}
use Rattle.law_book.proofs.Steps.{add-says, fresh-book, stay, step}

-- the calls, one after the other, on the map hs
pub sequence : {b : List ℕ} {cs : List BookCall} {rs : List Answer} {b' : List ℕ} → Ran b cs rs b' → (n : ℕ) (hs : Map) → Standing b → n ≡ length b - data_at → map_in b ≡ hs → AllLent cs
    → (rs ≡ map_answers n hs cs) × Onward b (map_after n hs cs) b'
unfolding map_answers map_after AllLent
sequence (none {b}) n hs st en eh l = (refl, subst (λ (m : Map). Onward b m b) eh (stay b st))
sequence (next {b} {b₁} {b₂} {c} {cs} {r} {rs} d ran) n hs st en eh l =
    let one = step b st c l.0 r b₁ d in
    let on = one.1 in
    let same : on_map (length b - data_at) (map_in b) c ≡ on_map n hs c = ap₂ (λ (k : ℕ) (m : Map). on_map k m c) (sym en) eh in
    let rest = sequence ran n (on_map n hs c) on.stands (en ∙ ap (λ (k : ℕ). k - data_at) (sym on.size)) (on.map ∙ same) l.1 in (
      ap₂ (λ (a : Answer) (more : List Answer). a ∷ more) (one.0 ∙ ap₂ (λ (k : ℕ) (m : Map). answer_of (map_says k m c)) (sym en) eh) rest.0,
      record { stands = rest.1.stands; size = rest.1.size ∙ on.size; map = rest.1.map },
    )

-- an area shows the map that is left in it, and the data room stays
shows_left : (b : List ℕ) (hs : Map) (b' : List ℕ) → Onward b hs b' → Shows b' (length b - data_at) hs
shows_left b hs b' on =
    subst (λ (m : Map). Shows b' (length b - data_at) m) on.map (subst (λ (k : ℕ). Shows b' (k - data_at) (map_in b')) on.size (shows b' on.stands))

-- of any area that passes the check
pub stays-map : (b : List ℕ) → Standing b → (cs : List BookCall) → AllLent cs → (rs : List Answer) (b' : List ℕ) → Ran b cs rs b'
    → let n = length b - data_at in (rs ≡ map_answers n (map_in b) cs) × Shows b' n (map_after n (map_in b) cs) × Onward b (map_after n (map_in b) cs) b'
stays-map b st cs l rs b' ran =
    let n = length b - data_at in
    let all = sequence ran n (map_in b) st refl refl l in
    (all.0, shows_left b (map_after n (map_in b) cs) b' all.1, all.1)

-- "adding, withdrawing and finding a point behave as a map from number to file over any sequence of calls on a fresh book"
pub is-map : (b : List ℕ) → Bytes b → data_at ≤ length b → length b ≤ most_area → (r : Answer) (b₀ : List ℕ) → Fresh b r b₀
    → (cs : List BookCall) → AllLent cs → (rs : List Answer) (b' : List ℕ) → Ran b₀ cs rs b'
    → let n = length b - data_at in (r ≡ say 0 0 0) × (rs ≡ map_answers n [] cs) × Shows b' n (map_after n [] cs) × Onward b (map_after n [] cs) b'
is-map b h long short r b₀ f cs l rs b' ran =
    let n = length b - data_at in
    let begun = fresh-book b h long short r b₀ f in
    let on = begun.1 in
    let e : length b₀ ≡ length b = on.size in
    let all = sequence ran n [] on.stands (ap (λ (k : ℕ). k - data_at) (sym e)) on.map l in
    let left = all.1 in
    (begun.0, all.0, subst (λ (k : ℕ). Shows b' (k - data_at) (map_after n [] cs)) e (shows_left b₀ (map_after n [] cs) b' left), record { stands = left.stands; size = left.size ∙ e; map = left.map })

-- ---- adding a whole file

-- what its checks leave to the map
left-to-map : (b : List ℕ) → Standing b → (p : ℕ) (s : List ℕ) → Passing (whole_checks s p) → (r : Answer) (b' : List ℕ) → Add b p s r b'
    → r ≡ answer_of (first_refusal (map_checks (length b - data_at) (map_in b) p (length s)) (told 0 0))
left-to-map b st p s c r b' a = a.answer ∙ ap answer_of (add-says b st p s ∙ pass_on (whole_checks s p) (map_checks (length b - data_at) (map_in b) p (length s)) (told 0 0) c)

-- it is taken, or refused with 15 or 14
pub whole-answers : (b : List ℕ) → Standing b → (p : ℕ) (s : List ℕ) → Passing (whole_checks s p) → (r : Answer) (b' : List ℕ) → Add b p s r b'
    → (r ≡ say 0 0 0) ⊎ ((r ≡ say 15 0 0) ⊎ (r ≡ say 14 0 0))
whole-answers b st p s c r b' a =
    let hs = map_in b in
    pick (has p hs) (leb most (length hs)) (ltb (length b - data_at - map_total hs) (length s)) (left-to-map b st p s c r b' a)
  where
    pick : (h t u : Bool) → r ≡ answer_of (cond h (Err AlreadyHeld) (cond t (Err BookFull) (cond u (Err BookFull) (told 0 0)))) → (r ≡ say 0 0 0) ⊎ ((r ≡ say 15 0 0) ⊎ (r ≡ say 14 0 0))
    pick true t u z = inr (inl z)
    pick false true u z = inr (inr z)
    pick false false true z = inr (inr z)
    pick false false false z = inl z

-- "14 no room (exactly when 64 are held or the size exceeds the free room)": of a file that is whole, for a point that is not held
pub full-exactly : (b : List ℕ) → Standing b → (p : ℕ) (s : List ℕ) → Passing (whole_checks s p) → has p (map_in b) ≡ false → (r : Answer) (b' : List ℕ) → Add b p s r b'
    → let full = (most ≤ length (map_in b)) ⊎ (length b - data_at - map_total (map_in b) < length s) in
    (r ≡ say 14 0 0 → full) × (full → r ≡ say 14 0 0) × ((full → ⊥) → r ≡ say 0 0 0)
full-exactly b st p s c new r b' a =
    let n = length b - data_at in
    let hs = map_in b in
    let says = left-to-map b st p s c r b' a
    ∙ ap (λ (t : Bool). answer_of (cond t (Err AlreadyHeld) (cond (leb most (length hs)) (Err BookFull) (cond (ltb (n - map_total hs) (length s)) (Err BookFull) (told 0 0))))) new in
    pick (leb most (length hs)) refl (ltb (n - map_total hs) (length s)) refl says
  where
    pick : (t : Bool) → leb most (length (map_in b)) ≡ t → (u : Bool) → ltb (length b - data_at - map_total (map_in b)) (length s) ≡ u
        → r ≡ answer_of (cond t (Err BookFull) (cond u (Err BookFull) (told 0 0)))
        → let full = (most ≤ length (map_in b)) ⊎ (length b - data_at - map_total (map_in b) < length s) in
        (r ≡ say 14 0 0 → full) × (full → r ≡ say 14 0 0) × ((full → ⊥) → r ≡ say 0 0 0)
    pick true et u eu z = let yes = leb-true most (length (map_in b)) et in (λ _. inl yes, λ _. z, λ no. absurd (no (inl yes)))
    pick false et true eu z = let yes = ltb-true (length b - data_at - map_total (map_in b)) (length s) eu in (λ _. inr yes, λ _. z, λ no. absurd (no (inr yes)))
    pick false et false eu z =
        let many = leb-false most (length (map_in b)) et in
        let enough = ltb-false (length b - data_at - map_total (map_in b)) (length s) eu in (
          λ w. absurd (let y : 0 ≡ 14 = ap (λ (q : Answer). q.number) (sym z ∙ w) in omega arith),
          λ full. absurd (⊎_elim (λ x. omega arith) (λ x. omega arith) full),
          λ _. z,
        )
