-- A book that is laid out is read back, whatever stands behind it: its entries, its data, and that calls could have left it.
use mathlib.Core.Bool.{Bool, true, false, cond, not, ◌&&◌, and-eq-true_iff}
use mathlib.Core.List.{List, [], ◌∷◌, ◌++◌, append_assoc}
use mathlib.Core.Logic.{⊎_elim}
use mathlib.Core.Path.{◌≡◌, refl, sym, ap, ap₂, ◌∙◌}
use Prim.Native.Nat.{ℕ, zero, suc, ◌+◌, ◌-◌, ◌*◌, ◌≤◌, ◌<◌, ◌^◌}
use native.Mathlib.Nat.{mul-suc}
use native.Mathlib.Omega.{arith}
use borrow.Author.Tests.{eq-eqb, ne_eqb, le-leb}
use lib.Dec.{eqb}
use lib.ListN.{length, take, drop, get_or, replicate, length-append, length-replicate, get_or-replicate, get_or-append}
use lib.Seq.{take_at, drop_at, drop-drop, get_or-take}
use Rattle.base_samples.specs.Le.{le_at, le_bytes}
use Rattle.base_samples.proofs.LeLaws.{length-le_bytes, le_at-same, le_at-drop, le_at-bytes}
use Rattle.file_open.specs.Files.{section_of, old_count, new_count, is_count}
use Rattle.file_open.proofs.Opening.{which-count}
use Rattle.book_entries.specs.Books.{most, entry_size, entry_start, total_at, data_at, joined, book_of, entry_at, is_used, used_from, entries_in, total_by, data_in, is_head, are_entries, all_zero, could_be}
use Rattle.book_entries.proofs.Laid.{AllSized, unused, joined_length, directory-length, book-length}
use Rattle.law_book.proofs.Changed.{heads-parts}

-- ---- the entries

-- no bytes are read as 0
none : le_at 4 [] 0 ≡ 0
unfolding le_at
none = refl

-- 14 zeros are not used
zeros-read : (m : ℕ) (t : List ℕ) → 4 ≤ m → le_at 4 (take entry_size (replicate m 0 ++ t)) 0 ≡ 0
zeros-read m t h = le_at-same 4 (take entry_size (replicate m 0 ++ t)) [] 0 0 at_zero ∙ none
  where
    at_zero : (i : ℕ) → i < 4 → get_or (take entry_size (replicate m 0 ++ t)) (0 + i) 0 ≡ get_or [] (0 + i) 0
    at_zero i l =
        let e : 0 + i ≡ i = omega arith in
        ap (λ (j : ℕ). get_or (take entry_size (replicate m 0 ++ t)) j 0) e
        ∙ get_or-take entry_size (replicate m 0 ++ t) i 0 (omega arith)
        ∙ get_or-append (replicate m 0) t 0 i (omega (arith, length-replicate {A = ℕ} m 0))
        ∙ get_or-replicate m i 0 0 (omega arith)

zeros-unused : (n : ℕ) (t : List ℕ) → is_used (take entry_size (replicate (entry_size * suc n) 0 ++ t)) ≡ false
zeros-unused n t = ap (λ (c : ℕ). not (eqb c 0)) (zeros-read (entry_size * suc n) t (omega (arith, mul-suc entry_size n)))

-- what begins a file is used
head-used : (e : List ℕ) → is_head e ≡ true → is_used e ≡ true
head-used e h =
    let count = which-count (le_at 4 e 0) ((and-eq-true_iff (is_count (le_at 4 e 0)) _).0 h).0 in
    ap not (ne_eqb (le_at 4 e 0) 0 (λ z. ⊎_elim (λ (c : le_at 4 e 0 ≡ old_count). omega arith) (λ (c : le_at 4 e 0 ≡ new_count). omega arith) count))

-- the entries are read back, of any n from entry i on
used-back : (es : List (List ℕ)) (n i : ℕ) (b t : List ℕ) → AllSized es → are_entries es ≡ true → length es ≤ n
    → drop (entry_start i) b ≡ joined es ++ (replicate (entry_size * (n - length es)) 0 ++ t) → used_from n i b ≡ es
unfolding used_from joined AllSized
used-back [] zero i b t g a h e = refl
used-back [] (suc n) i b t g a h e =
    let m : suc n - 0 ≡ suc n = omega arith in
    let e' : drop (entry_start i) b ≡ replicate (entry_size * suc n) 0 ++ t = e ∙ ap (λ (p : ℕ). replicate (entry_size * p) 0 ++ t) m in
    let z : is_used (entry_at b i) ≡ false = ap (λ (s : List ℕ). is_used (take entry_size s)) e' ∙ zeros-unused n t in
    ap (λ (q : Bool). cond q (entry_at b i ∷ used_from n (suc i) b) []) z
used-back (x ∷ es) zero i b t g a h e = absurd (omega arith)
used-back (x ∷ es) (suc n) i b t g a h e =
    let zeros : ℕ → List ℕ = λ m. replicate (entry_size * m) 0 ++ t in
    let first = heads-parts x es a in
    let e' : drop (entry_start i) b ≡ x ++ (joined es ++ zeros (suc n - suc (length es))) = e ∙ append_assoc x (joined es) (zeros (suc n - suc (length es))) in
    let here : entry_at b i ≡ x = ap (take entry_size) e' ∙ take_at x _ entry_size g.0 in
    let q : is_used (entry_at b i) ≡ true = ap is_used here ∙ head-used x first.0 in
    let m : suc n - suc (length es) ≡ n - length es = omega arith in
    let s : entry_start i + entry_size ≡ entry_start (suc i) = omega (arith, mul-suc entry_size i) in
    let next : drop (entry_start (suc i)) b ≡ joined es ++ zeros (n - length es) =
    ap (λ (p : ℕ). drop p b) (sym s) ∙ sym (drop-drop entry_size (entry_start i) b) ∙ ap (drop entry_size) e' ∙ drop_at x _ entry_size g.0 ∙ ap (λ (p : ℕ). joined es ++ zeros p) m in
    ap (λ (c : Bool). cond c (entry_at b i ∷ used_from n (suc i) b) []) q
    ∙ ap₂ (λ (u : List ℕ) (v : List (List ℕ)). u ∷ v) here (used-back es n (suc i) b t g.1 first.2 (omega arith) next)

-- and the rest of the directory is zeros
zeros-zero : (n : ℕ) → all_zero (replicate n 0) ≡ true
unfolding all_zero
zeros-zero zero = refl
zeros-zero (suc n) = zeros-zero n

-- ---- the book

module _ (es : List (List ℕ)) (d t : List ℕ) (sized : AllSized es) (heads : are_entries es ≡ true) (few : length es ≤ most) (all : length d ≡ total_by es) where
  abbrev zeros : List ℕ
  zeros = unused (length es)

  abbrev directory : List ℕ
  directory = section_of most (joined es ++ zeros)

  abbrev area : List ℕ
  area = book_of es d ++ t

  count-length : length (le_bytes 4 most) ≡ 4
  count-length = length-le_bytes 4 most

  -- the directory, the data's count, the data, and what stands behind them
  area-is : area ≡ directory ++ (le_bytes 4 (length d) ++ (d ++ t))
  unfolding book_of
  area-is = append_assoc directory (le_bytes 4 (length d) ++ d) t ∙ ap (λ (l : List ℕ). directory ++ l) (append_assoc (le_bytes 4 (length d)) d t)

  -- where its parts stand
  front_long : length directory ≡ total_at
  front_long = directory-length es sized few

  behind : drop total_at area ≡ le_bytes 4 (length d) ++ (d ++ t)
  behind = ap (drop total_at) area-is ∙ drop_at directory _ total_at front_long

  data-behind : drop data_at area ≡ d ++ t
  data-behind = sym (drop-drop 4 total_at area) ∙ ap (drop 4) behind ∙ drop_at (le_bytes 4 (length d)) (d ++ t) 4 (length-le_bytes 4 (length d))

  -- the entries, the data, and the check
  pub entries-back : entries_in area ≡ es
  unfolding entries_in
  entries-back =
      let rest = le_bytes 4 (length d) ++ (d ++ t) in
      let dir : drop (entry_start 0) area ≡ joined es ++ (zeros ++ rest) =
      ap (drop 4) (area-is ∙ append_assoc (le_bytes 4 most) (joined es ++ zeros) rest) ∙ drop_at (le_bytes 4 most) _ 4 count-length ∙ append_assoc (joined es) zeros rest in
      used-back es most 0 area rest sized heads few dir

  pub data-back : data_in area ≡ d
  unfolding data_in
  data-back = ap₂ (λ (n : ℕ) (l : List ℕ). take n l) (ap total_by entries-back) data-behind ∙ take_at d t (total_by es) all

  pub could-back : length d < 256 ^ 4 → could_be area ≡ true
  unfolding could_be
  could-back small =
      let rest = le_bytes 4 (length d) ++ (d ++ t) in
      let total : total_by (entries_in area) ≡ length d = ap total_by entries-back ∙ sym all in
      let count : le_at 4 area 0 ≡ most = ap (λ (l : List ℕ). le_at 4 l 0) (area-is ∙ append_assoc (le_bytes 4 most) (joined es ++ zeros) rest) ∙ le_at-bytes 4 most _ in
      let behind-count : le_at 4 area total_at ≡ length d =
      sym (le_at-drop 4 total_at area 0) ∙ ap (λ (l : List ℕ). le_at 4 l 0) behind ∙ le_at-bytes 4 (length d) (d ++ t) ∙ omega arith in
      let behind-entries : drop (entry_start (length es)) (take total_at area) ≡ zeros =
      ap (drop (entry_start (length es))) (ap (take total_at) area-is ∙ take_at directory rest total_at front_long)
      ∙ sym (drop-drop (entry_size * length es) 4 directory)
      ∙ ap (drop (entry_size * length es)) (drop_at (le_bytes 4 most) (joined es ++ zeros) 4 count-length)
      ∙ drop_at (joined es) zeros (entry_size * length es) (joined_length es sized) in
      let long : length area ≡ data_at + length d + length t = length-append (book_of es d) t ∙ omega (arith, book-length es d sized few) in
      let both : (a b : Bool) → a ≡ true → b ≡ true → (a && b) ≡ true = λ a b x y. (and-eq-true_iff a b).1 (x, y) in
      both _ _ (eq-eqb (le_at 4 area 0) most count)
      (both _ _ (ap are_entries entries-back ∙ heads)
      (both _ _ (ap (λ (l : List (List ℕ)). all_zero (drop (entry_start (length l)) (take total_at area))) entries-back ∙ ap all_zero behind-entries ∙ zeros-zero (entry_size * (most - length es)))
      (both _ _ (eq-eqb (le_at 4 area total_at) (total_by (entries_in area)) (behind-count ∙ sym total)) (le-leb (data_at + total_by (entries_in area)) (length area) (omega arith)))))
