-- A book as it is laid out: how long its parts are, and that an area which passes the check is its entries and its data, laid out.
use mathlib.Core.Bool.{Bool, true, false, cond, and-eq-true_iff}
use mathlib.Core.List.{List, [], ◌∷◌, ◌++◌, append_assoc}
use mathlib.Core.Path.{◌≡◌, refl, sym, ap, ap₂, ◌∙◌}
use Prim.Native.Nat.{ℕ, zero, suc, ◌+◌, ◌-◌, ◌*◌, ◌≤◌}
use native.Mathlib.Nat.{mul-suc, mul-zero}
use native.Mathlib.Omega.{arith}
use borrow.Author.Tests.{eqb-true, leb-true}
use lib.Dec.{eqb}
use lib.ListN.{length, take, drop, replicate, length-append, length-drop, length-replicate, take-append-drop}
use lib.Seq.{slice, take-add, drop-drop, drop-append-le, length-take-le, length-slice}
use Rattle.base_samples.specs.Le.{Bytes, le_at, le_bytes}
use Rattle.base_samples.proofs.LeLaws.{length-le_bytes, le_bytes-at}
use Rattle.file_open.specs.Files.{section_of}
use Rattle.book_entries.specs.Books.{most, entry_size, entry_start, total_at, data_at, joined, book_of, entry_at, is_used, used_from, entries_in, total_in, data_in, are_entries, all_zero, unused_in, could_be}
use Rattle.book_entries.proofs.Entries.{entry_length, entries-few, walk}

-- ---- lengths

-- every entry has its 14 bytes
unfoldable pub AllSized : List (List ℕ) → Type 0
AllSized [] = Unit {0}
AllSized (e ∷ es) = (length e ≡ entry_size) × AllSized es

used-sized : (n i : ℕ) (b : List ℕ) → i + n ≤ most → data_at ≤ length b → AllSized (used_from n i b)
unfolding used_from AllSized
used-sized zero i b h l = tt
used-sized (suc n) i b h l = pick (is_used (entry_at b i)) (entry_length b i (omega arith) l) (used-sized n (suc i) b (omega arith) l)
  where
    pick : (t : Bool) → length (entry_at b i) ≡ entry_size → AllSized (used_from n (suc i) b) → AllSized (cond t (entry_at b i ∷ used_from n (suc i) b) [])
    pick true e r = (e, r)
    pick false e r = tt

pub entries-sized : (b : List ℕ) → data_at ≤ length b → AllSized (entries_in b)
unfolding entries_in
entries-sized b l = used-sized most 0 b (omega arith) l

pub joined_length : (es : List (List ℕ)) → AllSized es → length (joined es) ≡ entry_size * length es
unfolding joined AllSized
joined_length [] g = sym (mul-zero entry_size)
joined_length (e ∷ es) g = length-append e (joined es) ∙ omega (arith, g.0, joined_length es g.1, mul-suc entry_size (length es))

pub data-length : (b : List ℕ) → data_at + total_in b ≤ length b → length (data_in b) ≡ total_in b
unfolding data_in
data-length b h = length-take-le (total_in b) (drop data_at b) (omega (arith, length-drop data_at b))

-- the entries that stand for no file, of n that are held
abbrev pub unused : ℕ → List ℕ
unused n = replicate (entry_size * (most - n)) 0

-- the first count and the entries
abbrev pub directory_of : List (List ℕ) → List ℕ
directory_of es = le_bytes 4 most ++ (joined es ++ unused (length es))

-- a book and what stands behind it: its directory, the data's count, the data
pub in_parts : (es : List (List ℕ)) (d t : List ℕ) → book_of es d ++ t ≡ directory_of es ++ (le_bytes 4 (length d) ++ (d ++ t))
unfolding book_of
in_parts es d t = simp append_assoc

pub directory-length : (es : List (List ℕ)) → AllSized es → length es ≤ most → length (directory_of es) ≡ total_at
directory-length es g h =
    length-append (le_bytes 4 most) (joined es ++ unused (length es))
    ∙ omega (arith, length-le_bytes 4 most, length-append (joined es) (unused (length es)), joined_length es g, length-replicate {A = ℕ} (entry_size * (most - length es)) 0)

pub book-length : (es : List (List ℕ)) (d : List ℕ) → AllSized es → length es ≤ most → length (book_of es d) ≡ data_at + length d
unfolding book_of
book-length es d g h =
    length-append (section_of most (joined es ++ unused (length es))) (section_of (length d) d)
    ∙ omega (arith, directory-length es g h, length-append (le_bytes 4 (length d)) d, length-le_bytes 4 (length d))

-- ---- what the check tells

pub record Checked (b : List ℕ) : Type 0 where
  pub count : le_at 4 b 0 ≡ most
  pub heads : are_entries (entries_in b) ≡ true
  pub zeros : all_zero (unused_in b) ≡ true
  pub total : le_at 4 b total_at ≡ total_in b
  pub within : data_at + total_in b ≤ length b

pub checked : (b : List ℕ) → could_be b ≡ true → Checked b
unfolding could_be
checked b h =
    let q = (and-eq-true_iff _ _).0 h in
    let q₁ = (and-eq-true_iff _ _).0 q.1 in
    let q₂ = (and-eq-true_iff _ _).0 q₁.1 in
    let q₃ = (and-eq-true_iff _ _).0 q₂.1 in
    record { count = eqb-true (le_at 4 b 0) most q.0; heads = q₁.0; zeros = q₂.0; total = eqb-true (le_at 4 b total_at) (total_in b) q₃.0; within = leb-true (data_at + total_in b) (length b) q₃.1 }

pub within : (b : List ℕ) → could_be b ≡ true → data_at + total_in b ≤ length b
within b h = (checked b h).within

-- what the code knows of a book whose entries it walks over
pub ruleset room = (walk, within)

-- ---- an area that passes

zeros-are : (l : List ℕ) → all_zero l ≡ true → l ≡ replicate (length l) 0
unfolding all_zero
zeros-are [] h = refl
zeros-are (c ∷ cs) h = let q = (and-eq-true_iff (eqb c 0) (all_zero cs)).0 h in ap₂ (λ (x : ℕ) (xs : List ℕ). x ∷ xs) (eqb-true c 0 q.0) (zeros-are cs q.1)

-- the held entries, joined, are the front of the directory
used-joined : (n i : ℕ) (b : List ℕ) → joined (used_from n i b) ≡ take (entry_size * length (used_from n i b)) (drop (entry_start i) b)
unfolding used_from joined
used-joined zero i b = sym (ap (λ (m : ℕ). take m (drop (entry_start i) b)) (mul-zero entry_size))
used-joined (suc n) i b = pick (is_used (entry_at b i)) (used-joined n (suc i) b)
  where
    pick : (t : Bool) → joined (used_from n (suc i) b) ≡ take (entry_size * length (used_from n (suc i) b)) (drop (entry_start (suc i)) b)
        → joined (cond t (entry_at b i ∷ used_from n (suc i) b) []) ≡ take (entry_size * length (cond t (entry_at b i ∷ used_from n (suc i) b) [])) (drop (entry_start i) b)
    pick true r =
        let m = length (used_from n (suc i) b) in
        let s : entry_start i + entry_size ≡ entry_start (suc i) = omega (arith, mul-suc entry_size i) in
        let k : entry_size + entry_size * m ≡ entry_size * suc m = omega (arith, mul-suc entry_size m) in
        ap (λ (l : List ℕ). entry_at b i ++ l) (r ∙ ap (take (entry_size * m)) (ap (λ (j : ℕ). drop j b) (sym s) ∙ sym (drop-drop entry_size (entry_start i) b)))
        ∙ sym (take-add entry_size (entry_size * m) (drop (entry_start i) b)) ∙ ap (λ (j : ℕ). take j (drop (entry_start i) b)) k
    pick false r = sym (ap (λ (m : ℕ). take m (drop (entry_start i) b)) (mul-zero entry_size))

entries-joined : (b : List ℕ) → joined (entries_in b) ≡ take (entry_size * length (entries_in b)) (drop 4 b)
unfolding entries_in
entries-joined b = used-joined most 0 b

-- the rest of a list from place i on: n elements, and the rest behind them
pub split : (i n : ℕ) (b : List ℕ) → drop i b ≡ take n (drop i b) ++ drop (i + n) b
split i n b = sym (take-append-drop n (drop i b)) ∙ ap (λ (l : List ℕ). take n (drop i b) ++ l) (drop-drop n i b)

slice-split : (i j : ℕ) (b : List ℕ) → i ≤ j → j ≤ length b → drop i b ≡ slice i j b ++ drop j b
slice-split i j b h k = ap (drop i) (sym (take-append-drop j b)) ∙ drop-append-le i (take j b) (drop j b) (omega (arith, length-take-le j b k))

pub book-is : (b : List ℕ) → Bytes b → data_at ≤ length b → could_be b ≡ true → b ≡ book_of (entries_in b) (data_in b) ++ drop (data_at + total_in b) b
unfolding data_in
book-is b bytes long could =
    let c = checked b could in
    let es = entries_in b in
    let h = length es in
    let few = entries-few b in
    let t = total_in b in
    let tail = drop (data_at + t) b in
    let count : take 4 b ≡ le_bytes 4 most = sym (le_bytes-at b bytes 4 0 (omega arith)) ∙ ap (le_bytes 4) c.count in
    let size : total_at - entry_start h ≡ entry_size * (most - h) = omega (arith, few) in
    let rest : slice (entry_start h) total_at b ≡ unused h = zeros-are (unused_in b) c.zeros ∙ ap (λ (n : ℕ). replicate n 0) (length-slice (entry_start h) total_at b (omega arith) ∙ size) in
    let total : take 4 (drop total_at b) ≡ le_bytes 4 (length (data_in b)) =
    sym (le_bytes-at b bytes 4 total_at (omega arith)) ∙ ap (le_bytes 4) (c.total ∙ sym (data-length b c.within)) in
    split 0 4 b
    ∙ ap₂ ◌++◌ count
    (split 4 (entry_size * h) b
    ∙ ap₂ ◌++◌ (sym (entries-joined b))
    (slice-split (entry_start h) total_at b (omega (arith, few)) (omega arith)
    ∙ ap₂ ◌++◌ rest (split total_at 4 b ∙ ap₂ ◌++◌ total (split data_at t b))))
    ∙ sym (in_parts es (data_in b) tail ∙ simp append_assoc)
