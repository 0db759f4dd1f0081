-- The entries that are held, one by one: how many there are, which bytes each is, how many bytes their files have, and what a search of them finds.
use mathlib.Core.Bool.{Bool, true, false, cond, ◌&&◌}
use mathlib.Core.List.{List, [], ◌∷◌}
use mathlib.Core.Path.{◌≡◌, refl, sym, ap, ◌∙◌}
use Prim.Native.Nat.{ℕ, zero, suc, ◌+◌, ◌-◌, ◌≤◌, ◌<◌}
use native.Mathlib.Numerals.{add-one}
use native.Mathlib.Omega.{arith}
use Rattle.std.proofs.lemmas.Bool.Decides.{nat_tests}
use lib.Dec.{ltb, eqb}
use lib.ListN.{length, take, drop, get_or, length-drop, drop_of_length-le}
use lib.Seq.{drop-cons, take_all, length-take-le}
use Rattle.std.proofs.lemmas.List.{drop-take}
use Rattle.std.specs.Prelude.{Option, Some, None}
use Rattle.std.specs.List.{range_with_len, position_or_len, find, list_all}
use Rattle.std.specs.Option.{unwrap_or}
use Rattle.base_samples.specs.Le.{le_at}
use Rattle.base_samples.proofs.LeLaws.{le_at-take, le_at-drop}
use Rattle.book_entries.specs.Books.{most, entry_size, entry_start, total_at, data_at, unused_in, point_by, entry_at, is_used, used_from, entries_in, total_by, total_in, slot_of, place_at, size_at, is_only, are_entries}

-- ---- which entries

-- an entry's count, where the area has it
pub count-read : (b : List ℕ) (i : ℕ) → le_at 4 (entry_at b i) 0 ≡ le_at 4 b (entry_start i)
count-read b i =
    let z : entry_start i + 0 ≡ entry_start i = omega arith in
    le_at-take 4 entry_size (drop (entry_start i) b) 0 (omega arith) ∙ le_at-drop 4 (entry_start i) b 0 ∙ ap (le_at 4 b) z

-- an entry has its 14 bytes
pub entry_length : (b : List ℕ) (i : ℕ) → i < most → data_at ≤ length b → length (entry_at b i) ≡ entry_size
entry_length b i h l = length-take-le entry_size (drop (entry_start i) b) (omega (arith, length-drop (entry_start i) b))

used-few : (n i : ℕ) (b : List ℕ) → length (used_from n i b) ≤ n
unfolding used_from
used-few zero i b = omega arith
used-few (suc n) i b = pick (is_used (entry_at b i)) (used-few n (suc i) b)
  where
    pick : (t : Bool) → length (used_from n (suc i) b) ≤ n → length (cond t (entry_at b i ∷ used_from n (suc i) b) []) ≤ suc n
    pick true h = omega arith
    pick false h = omega arith

pub entries-few : (b : List ℕ) → length (entries_in b) ≤ most
unfolding entries_in
entries-few b = used-few most 0 b

used-is : (n i : ℕ) (b : List ℕ) (j : ℕ) → j < length (used_from n i b) → get_or (used_from n i b) j [] ≡ entry_at b (i + j)
unfolding used_from
used-is zero i b j h = absurd (omega arith)
used-is (suc n) i b j h = pick (is_used (entry_at b i)) j (used-is n (suc i) b) h
  where
    pick : (t : Bool) (j : ℕ) → ((j : ℕ) → j < length (used_from n (suc i) b) → get_or (used_from n (suc i) b) j [] ≡ entry_at b (suc i + j))
        → j < length (cond t (entry_at b i ∷ used_from n (suc i) b) []) → get_or (cond t (entry_at b i ∷ used_from n (suc i) b) []) j [] ≡ entry_at b (i + j)
    pick true zero r h = let e : i ≡ i + 0 = omega arith in ap (entry_at b) e
    pick true (suc j) r h = let e : suc i + j ≡ i + suc j = omega arith in r j (omega arith) ∙ ap (entry_at b) e
    pick false j r h = absurd (omega arith)

-- entry j of those that are held is the area's entry j
pub entry-is : (b : List ℕ) (j : ℕ) → j < length (entries_in b) → get_or (entries_in b) j [] ≡ entry_at b j
unfolding entries_in
entry-is b j h = let e : 0 + j ≡ j = omega arith in used-is most 0 b j h ∙ ap (entry_at b) e

-- so the entries from entry i on are that one and the rest
pub entries_from : (b : List ℕ) (i : ℕ) → i < length (entries_in b) → drop i (entries_in b) ≡ entry_at b i ∷ drop (suc i) (entries_in b)
entries_from b i h = drop-cons (entries_in b) i [] h ∙ ap (λ (e : List ℕ). e ∷ drop (suc i) (entries_in b)) (entry-is b i h)

-- the entries behind those that are held, as they are read
pub unused-is : (b : List ℕ) (h : ℕ) → h ≡ length (entries_in b) → take (total_at - entry_start h) (drop (entry_start h) b) ≡ unused_in b
unused-is b h e =
    let few = entries-few b in
    let s : entry_start h + (total_at - entry_start h) ≡ total_at = omega (arith, e) in
    rw (← e) (sym (drop-take (entry_start h) (total_at - entry_start h) b) ∙ ap (λ (n : ℕ). drop (entry_start h) (take n b)) s)

-- ---- the bytes of their files

-- those before entry j, and before the next
pub place-next : (es : List (List ℕ)) (j : ℕ) → j < length es → place_at (suc j) es ≡ place_at j es + size_at j es
unfolding total_by
place-next [] j h = absurd (omega arith)
place-next (e ∷ es) zero h = omega arith
place-next (e ∷ es) (suc j) h = omega (arith, place-next es j (omega arith))

pub total-none : total_by [] ≡ 0
unfolding total_by
total-none = refl

pub place-more : (es : List (List ℕ)) (j : ℕ) → j < length es → place_at (j + 1) es ≡ place_at j es + size_at j es
place-more es j h = ap (λ (n : ℕ). place_at n es) (add-one j) ∙ place-next es j h

-- counted over all, it is that of all files
pub place_whole : (es : List (List ℕ)) (h : ℕ) → h ≡ length es → place_at h es ≡ total_by es
place_whole es h e = ap total_by (take_all h es (omega arith))

pub place-most : (j : ℕ) (es : List (List ℕ)) → place_at j es ≤ total_by es
unfolding total_by
place-most zero es = omega arith
place-most (suc j) [] = omega arith
place-most (suc j) (e ∷ es) = omega (arith, place-most j es)

-- a file ends within the data
pub place-within : (es : List (List ℕ)) (i : ℕ) → i < length es → place_at i es + size_at i es ≤ total_by es
place-within es i h = omega (arith, place-next es i h, place-most (suc i) es)

-- what a walk over the held entries knows of each
pub ruleset walk = (entries-few, entry-is, total-none, place-more, place_whole, place-within, unused-is, length-drop)

-- counted over all that are held, it is the data
pub total-is : (b : List ℕ) (h : ℕ) {t : ℕ} → h ≡ length (entries_in b) → t ≡ place_at h (entries_in b) → t ≡ total_in b
total-is b h eh et = et ∙ place_whole (entries_in b) h eh

-- ---- what a search of them by place finds

-- how many are held: as many as stand before the first that is not used
held-from : (n i : ℕ) (b : List ℕ) → position_or_len (λ j. eqb (le_at 4 b (entry_start j)) 0) (range_with_len i n) ≡ length (used_from n i b)
unfolding used_from
held-from zero i b = refl
held-from (suc n) i b = rw (← count-read b i, add-one) (pick (is_used (entry_at b i)) _ (held-from n (suc i) b))
  where
    pick : (t : Bool) {m : ℕ} (es : List (List ℕ)) → m ≡ length es → cond t (1 + m) 0 ≡ length (cond t (entry_at b i ∷ es) [])
    pick true es h = omega arith
    pick false es h = refl

-- a place that is found among n, and n where none is
place_or : (t n : ℕ) → t ≤ n → unwrap_or (cond (ltb t n) (Some t) None) n ≡ t
place_or t n h = grind (arith, nat_tests)

pub held-is : (b : List ℕ) {o : Option ℕ} → let p = position_or_len (λ j. eqb (le_at 4 b (entry_start j)) 0) (range_with_len 0 most) in o ≡ cond (ltb p most) (Some p) None
    → unwrap_or o most ≡ length (entries_in b)
unfolding entries_in
held-is b h = let n = held-from most 0 b in rw (h, n) (place_or _ most (used-few most 0 b))

-- the entry of a point, looked for from entry i on
pub slot-is : (b : List ℕ) (p n i : ℕ) {h : ℕ} → i + n ≡ h → h ≡ length (entries_in b)
    → unwrap_or (find (λ j. eqb (point_by (entry_at b j)) p) (range_with_len i n)) h ≡ i + slot_of p (drop i (entries_in b))
unfolding slot_of
slot-is b p zero i e l = let none = drop_of_length-le (entries_in b) {i = i} (omega arith) in rw none (omega arith)
slot-is b p (suc n) i {h} e l =
    let more = entries_from b i (omega arith) in
    rw (more, add-one) (pick (eqb (point_by (entry_at b i)) p) _ _ (slot-is b p n (suc i) (omega arith) l))
  where
    pick : (t : Bool) (o : Option ℕ) (m : ℕ) → unwrap_or o h ≡ suc i + m → unwrap_or (cond t (Some i) o) h ≡ i + cond t 0 (suc m)
    pick true o m r = omega arith
    pick false o m r = omega (arith, r)

-- each entry from entry i on can begin a file, and has its point alone
pub heads-are : (b : List ℕ) (n i : ℕ) → i + n ≡ length (entries_in b) → list_all (λ j. is_only (entry_at b j) (drop (j + 1) (entries_in b))) (range_with_len i n) ≡ are_entries (drop i (entries_in b))
unfolding are_entries
heads-are b zero i e = let none = drop_of_length-le (entries_in b) {i = i} (omega arith) in rw none
heads-are b (suc n) i e =
    let more = entries_from b i (omega arith) in
    rw (more, add-one) (ap (λ (t : Bool). is_only (entry_at b i) (drop (suc i) (entries_in b)) && t) (heads-are b n (suc i) (omega arith)))
