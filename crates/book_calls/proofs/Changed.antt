-- What the writes of each call leave of a book is the changed book, laid out.
use mathlib.Core.List.{List, [], ◌∷◌, ◌++◌, append_assoc, append-nil}
use mathlib.Core.Path.{◌≡◌, refl, sym, subst, ap, ap₂, ◌∙◌}
use Prim.Native.Nat.{ℕ, suc, ◌+◌, ◌-◌, ◌*◌, ◌≤◌, ◌<◌}
use native.Mathlib.Nat.{add_assoc}
use native.Mathlib.Numerals.{add-one}
use native.Mathlib.Omega.{arith}
use lib.ListN.{length, take, drop, get_or, replicate, length-append, length-drop, length-replicate, take-append-drop, replicate-append-replicate}
use lib.Seq.{paste, take_at, drop_at, drop-drop, take-append-le, drop-append-le, take-append-add, drop-append-add, length-take-le, split_at}
use Rattle.base_samples.specs.Le.{Bytes, le_bytes, stored}
use Rattle.base_samples.proofs.LeLaws.{length-le_bytes, stored_is}
use Rattle.book_entries.specs.Books.{most, entry_size, entry_start, total_at, data_at, size_by, joined, book_of, entry_at, entries_in, total_in, data_in, slot_of, place_at, size_at}
use Rattle.book_entries.specs.Checks.{Book}
use Rattle.book_entries.proofs.Entries.{entries-few, entry-is, place-next, place-most, total-is}
use Rattle.book_entries.proofs.Laid.{AllSized, entries-sized, joined_length, data-length, unused, split, directory_of, in_parts, directory-length, book-length, checked, book-is}
use Rattle.book_calls.specs.Calls.{holding, fresh_in, added_in, without, file_put, withdrawn_in, file_out, entry_out}

-- ---- lists of entries

pub joined-append : (xs ys : List (List ℕ)) → joined (xs ++ ys) ≡ joined xs ++ joined ys
unfolding joined
joined-append [] ys = refl
joined-append (x ∷ xs) ys = ap (λ (l : List ℕ). x ++ l) (joined-append xs ys) ∙ sym (append_assoc x (joined xs) (joined ys))

pub sized-append : (xs ys : List (List ℕ)) → AllSized xs → AllSized ys → AllSized (xs ++ ys)
unfolding AllSized
sized-append [] ys f g = g
sized-append (x ∷ xs) ys f g = (f.0, sized-append xs ys f.1 g)

pub sized-parts : (xs ys : List (List ℕ)) → AllSized (xs ++ ys) → AllSized xs × AllSized ys
unfolding AllSized
sized-parts [] ys g = (tt, g)
sized-parts (x ∷ xs) ys g = let r = sized-parts xs ys g.1 in ((g.0, r.0), r.1)

-- some of the entries have their 14 bytes too
pub sized-less : (i n : ℕ) (es : List (List ℕ)) → AllSized es → AllSized (without i n es)
sized-less i n es g =
    let parts : (j : ℕ) → AllSized (take j es) × AllSized (drop j es) = λ j. sized-parts (take j es) (drop j es) (rw (take-append-drop j es) g) in
    sized-append (take i es) (drop (i + n) es) (parts i).0 (parts (i + n)).1

-- the zeros of one entry more, before the others and behind them
unused-next : (n : ℕ) → n < most → (unused n ≡ replicate entry_size 0 ++ unused (suc n)) × (unused n ≡ unused (suc n) ++ replicate entry_size 0)
unused-next n h =
    let e : entry_size * (most - n) ≡ entry_size + entry_size * (most - suc n) = omega arith in
    let f : entry_size * (most - n) ≡ entry_size * (most - suc n) + entry_size = omega arith in
    (rw (replicate-append-replicate, e), rw (replicate-append-replicate, f))

-- ---- writes at a place

-- past two parts
past_two : (p g r : List ℕ) (n m : ℕ) → length p ≡ n → length g ≡ m → drop (n + m) (p ++ (g ++ r)) ≡ r
past_two p g r n m e f = sym (drop-drop m n (p ++ (g ++ r))) ∙ ap (drop m) (drop_at p (g ++ r) n e) ∙ drop_at g r m f

-- x in the place of g
laid-at : (p g x r : List ℕ) (n m : ℕ) → length p ≡ n → length g ≡ m → take n (p ++ (g ++ r)) ++ (x ++ drop (n + m) (p ++ (g ++ r))) ≡ p ++ (x ++ r)
laid-at p g x r n m e f = ap₂ (λ (u v : List ℕ). u ++ (x ++ v)) (take_at p (g ++ r) n e) (past_two p g r n m e f)

-- a number in the place of another
stored_at : (p g r : List ℕ) (n v : ℕ) → length p ≡ n → length g ≡ 4 → stored 4 (p ++ (g ++ r)) n v ≡ p ++ (le_bytes 4 v ++ r)
stored_at p g r n v e f =
    let long : n + 4 ≤ length (p ++ (g ++ r)) = omega (arith, e, f, length-append p (g ++ r), length-append g r) in
    stored_is 4 (p ++ (g ++ r)) n v long ∙ laid-at p g (le_bytes 4 v) r n 4 e f

-- ---- parts taken out

length_without : {A : Type 0} (i n : ℕ) (l : List A) → i + n ≤ length l → length (without i n l) + n ≡ length l
length_without i n l h = omega (arith, length-append (take i l) (drop (i + n) l), length-take-le i l (omega arith), length-drop (i + n) l)

without-behind : (p l : List ℕ) (i n m : ℕ) → length p ≡ m → without (m + i) n (p ++ l) ≡ p ++ without i n l
without-behind p l i n m e =
    ap (λ (m : ℕ). without (m + i) n (p ++ l)) (sym e) ∙ ap₂ ◌++◌ (take-append-add p l i) (ap (λ (j : ℕ). drop j (p ++ l)) (add_assoc (length p) i n) ∙ drop-append-add p l (i + n)) ∙ append_assoc p (take i l) (drop (i + n) l)

-- what stands in the front f behind a gap, moved down over it
packed-is : (b f r : List ℕ) (to gap n : ℕ) → b ≡ f ++ r → length f ≡ to + gap + n → paste b to (drop (to + gap) b) n ≡ without to gap f ++ drop (to + n) b
packed-is b f r to gap n eb long =
    ap₂ (λ (u v : List ℕ). (u ++ v) ++ drop (to + n) b) (ap (take to) eb ∙ take-append-le to f r (omega arith))
    (ap (λ (l : List ℕ). take n (drop (to + gap) l)) eb ∙ ap (take n) (drop-append-le (to + gap) f r (omega arith)) ∙ take_at (drop (to + gap) f) r n (length-drop (to + gap) f ∙ omega arith))

-- an entry of the directory: those behind it moved down, and the last one cleared
pub dropped-is : (b : List ℕ) {b₁ b₂ : List ℕ} (i : ℕ) → i < most → data_at ≤ length b → b₁ ≡ paste b (entry_start i) (drop (entry_start i + entry_size) b) (entry_size * (most - 1 - i))
    → b₂ ≡ take (total_at - entry_size) b₁ ++ (replicate entry_size 0 ++ drop total_at b₁) → b₂ ≡ entry_out b i
dropped-is b {b₁} i less long e₁ e₂ =
    let f = take total_at b in
    let w = without (entry_start i) entry_size f in
    let last = total_at - entry_size in
    let whole : length f ≡ total_at = length-take-le total_at b (omega arith) in
    let at : length w ≡ last = omega (arith, whole, length_without (entry_start i) entry_size f (omega arith)) in
    let end : entry_start i + entry_size * (most - 1 - i) ≡ last = omega arith in
    let packed : b₁ ≡ w ++ drop last b =
    e₁ ∙ packed-is b f (drop total_at b) (entry_start i) entry_size (entry_size * (most - 1 - i)) (sym (take-append-drop total_at b)) (omega arith) ∙ ap (λ (n : ℕ). w ++ drop n b) end in
    let behind = sym (drop-drop entry_size last b₁) ∙ ap (drop entry_size) (ap (drop last) packed ∙ drop_at w (drop last b) last at) ∙ drop-drop entry_size last b in
    e₂ ∙ ap₂ (λ (u v : List ℕ). u ++ (replicate entry_size 0 ++ v)) (ap (take last) packed ∙ take_at w (drop last b) last at) behind

-- ---- a book: its directory, the data's count, the data

-- what stands behind the directory, in the area b
abbrev behind_directory : List ℕ → List ℕ → List ℕ
behind_directory b d = le_bytes 4 (length d) ++ (d ++ drop (data_at + length d) b)

holding-parts : (b : List ℕ) (es : List (List ℕ)) (d : List ℕ) → AllSized es → length es ≤ most → holding b es d ≡ directory_of es ++ behind_directory b d
holding-parts b es d sized few = in_parts es d (drop (length (book_of es d)) b) ∙ ap (λ (n : ℕ). directory_of es ++ (le_bytes 4 (length d) ++ (d ++ drop n b))) (book-length es d sized few)

-- ---- a fresh book

pub fresh-is : (b : List ℕ) {b₁ b₂ b₃ : List ℕ} → data_at ≤ length b → b₁ ≡ stored 4 b 0 most → b₂ ≡ take 4 b₁ ++ (replicate (total_at - 4) 0 ++ drop total_at b₁) → b₃ ≡ stored 4 b₂ total_at 0 → b₃ ≡ fresh_in b
unfolding fresh_in joined AllSized
fresh-is b {b₁} {b₂} {b₃} long e₁ e₂ e₃ =
    let start = le_bytes 4 most in
    let zeros : List ℕ = replicate (total_at - 4) 0 in
    let old = take (total_at - 4) (drop 4 b) in
    let count = take 4 (drop total_at b) in
    let rest = drop data_at b in
    let first : b₁ ≡ start ++ (old ++ (count ++ rest)) = e₁ ∙ stored_is 4 b 0 most (omega arith) ∙ ap (λ (l : List ℕ). start ++ l) (split 4 (total_at - 4) b ∙ ap (λ (l : List ℕ). old ++ l) (split total_at 4 b)) in
    let second : b₂ ≡ start ++ (zeros ++ (count ++ rest)) =
    e₂ ∙ ap (λ (l : List ℕ). take 4 l ++ (zeros ++ drop total_at l)) first
    ∙ laid-at start old zeros (count ++ rest) 4 (total_at - 4) (length-le_bytes 4 most) (length-take-le (total_at - 4) (drop 4 b) (omega (arith, length-drop 4 b))) in
    e₃ ∙ ap (λ (l : List ℕ). stored 4 l total_at 0) (second ∙ sym (append_assoc start zeros (count ++ rest)))
    ∙ stored_at (start ++ zeros) count rest total_at 0 (length-append start zeros ∙ omega (arith, length-le_bytes 4 most, length-replicate {A = ℕ} (total_at - 4) 0)) (length-take-le 4 (drop total_at b) (omega (arith, length-drop total_at b)))
    ∙ sym (holding-parts b [] [] tt (omega arith))

-- ---- an entry that is taken out

-- the bytes of entry i taken out of the directory, and zeros behind
directory-without : (es : List (List ℕ)) (i : ℕ) → AllSized es → length es ≤ most → i < length es → without (entry_start i) entry_size (directory_of es) ++ replicate entry_size 0 ≡ directory_of (without i 1 es)
unfolding joined AllSized
directory-without es i sized few less =
    let one = take i es in
    let e = get_or es i [] in
    let two = drop (i + 1) es in
    let start = le_bytes 4 most ++ joined one in
    let behind = joined two ++ unused (length es) in
    let parted : es ≡ one ++ (e ∷ two) = rw add-one (split_at es i [] less) in
    let parts = sized-parts one (e ∷ two) (subst AllSized parted sized) in
    let opened : directory_of es ≡ start ++ (e ++ behind) =
    ap (λ (l : List ℕ). le_bytes 4 most ++ (l ++ unused (length es))) (ap joined parted ∙ joined-append one (e ∷ two)) ∙ simp append_assoc in
    let at : length start ≡ entry_start i =
    length-append (le_bytes 4 most) (joined one) ∙ omega (arith, length-le_bytes 4 most, joined_length one parts.0, ap (λ (n : ℕ). entry_size * n) (length-take-le i es (omega arith))) in
    let fewer : suc (length (one ++ two)) ≡ length es = omega (arith, length_without i 1 es (omega arith)) in
    let zeros = (unused-next (length (one ++ two)) (omega arith)).1 ∙ ap (λ (n : ℕ). unused n ++ replicate entry_size 0) fewer in
    ap (λ (l : List ℕ). without (entry_start i) entry_size l ++ replicate entry_size 0) opened
    ∙ ap₂ (λ (u v : List ℕ). (u ++ v) ++ replicate entry_size 0) (take_at start (e ++ behind) (entry_start i) at) (past_two start e behind (entry_start i) entry_size at parts.1.0)
    ∙ sym (rw (joined-append one two, zeros) (simp append_assoc))

-- ---- a file that is held: where it starts in the data, how many bytes it has, and how many the data has

pub record FileAt (b : List ℕ) (i place size t : ℕ) : Type 0 where
  pub starts : place ≡ place_at i (entries_in b)
  pub has : size ≡ size_at i (entries_in b)
  pub all : t ≡ total_in b
  pub fits : place + size ≤ t
  pub within : data_at + t ≤ length b

-- as they are read, of h that are held
pub file-at : {b : List ℕ} {i h place size t : ℕ} → Book b → h ≡ length (entries_in b) → i < h → place ≡ place_at i (entries_in b) → size ≡ size_by (entry_at b i) → t ≡ place_at h (entries_in b) → FileAt b i place size t
file-at {b} {i} {h} book eh less ep ez et =
    let es = entries_in b in
    let below : i < length es = omega arith in
    let has = ez ∙ ap size_by (sym (entry-is b i below)) in
    let all = total-is b h eh et in
    record { starts = ep; has = has; all = all; fits = omega (arith, ep, has, all, place-next es i below, place-most (suc i) es); within = omega (arith, all, (checked b book.could).within) }

-- ---- a book that is there

module _ (b : List ℕ) (bytes : Bytes b) (book : Book b) where
  abbrev es : List (List ℕ)
  es = entries_in b

  abbrev d : List ℕ
  d = data_in b

  sized : AllSized es
  sized = entries-sized b book.long

  long-directory : length (directory_of es) ≡ total_at
  long-directory = directory-length es sized (entries-few b)

  data-long : length d ≡ total_in b
  data-long = data-length b (checked b book.could).within

  -- what stands before its data
  abbrev before : List ℕ
  before = directory_of es ++ le_bytes 4 (length d)

  long-before : length before ≡ data_at
  long-before = length-append (directory_of es) (le_bytes 4 (length d)) ∙ omega (arith, long-directory, length-le_bytes 4 (length d))

  whole : b ≡ (before ++ d) ++ drop (data_at + total_in b) b
  whole = book-is b bytes book.long book.could ∙ in_parts es d (drop (data_at + total_in b) b) ∙ simp append_assoc

  -- other data in their place, and their count
  data-counted : (d' : List ℕ) → stored 4 (directory_of es ++ (le_bytes 4 (length d) ++ (d' ++ drop (data_at + length d') b))) total_at (length d') ≡ holding b es d'
  data-counted d' =
      stored_at (directory_of es) (le_bytes 4 (length d)) (d' ++ drop (data_at + length d') b) total_at (length d') long-directory (length-le_bytes 4 (length d)) ∙ sym (holding-parts b es d' sized (entries-few b))

  -- the file s behind the data
  file-put : (s : List ℕ) {b₁ : List ℕ} (t : ℕ) → t ≡ total_in b → b₁ ≡ file_put b t s → b₁ ≡ holding b es (d ++ s)
  file-put s t et e₁ =
      let size : length (d ++ s) ≡ t + length s = length-append d s ∙ omega (arith, data-long, et) in
      let front = ap (take (data_at + t)) whole ∙ take_at (before ++ d) (drop (data_at + total_in b) b) (data_at + t) (length-append before d ∙ omega (arith, long-before, data-long, et)) in
      let end : data_at + t + length s ≡ data_at + length (d ++ s) = omega arith in
      let laid : take (data_at + t) b ++ (s ++ drop (data_at + t + length s) b) ≡ directory_of es ++ (le_bytes 4 (length d) ++ ((d ++ s) ++ drop (data_at + length (d ++ s)) b)) =
      ap₂ (λ (l : List ℕ) (n : ℕ). l ++ (s ++ drop n b)) front end ∙ simp append_assoc in
      e₁ ∙ ap₂ (λ (l : List ℕ) (v : ℕ). stored 4 l total_at v) laid (sym size) ∙ data-counted (d ++ s)

  -- and its first bytes as the entry behind the last
  pub added_is : (s : List ℕ) {b₁ b₂ : List ℕ} {h t : ℕ} → h ≡ length es → t ≡ total_in b → h < most → entry_size ≤ length s → b₁ ≡ file_put b t s
      → b₂ ≡ take (entry_start h) b₁ ++ (take entry_size s ++ drop (entry_start h + length (take entry_size s)) b₁) → b₂ ≡ added_in b s
  unfolding added_in joined AllSized
  added_is s {b₁} {b₂} {h} {t} eh et few head e₁ e₂ =
      let e = take entry_size s in
      let es' = es ++ (e ∷ []) in
      let first = le_bytes 4 most ++ joined es in
      let rest = unused (suc h) ++ behind_directory b (d ++ s) in
      let entry : length e ≡ entry_size = length-take-le entry_size s head in
      let more : length es' ≡ suc h = length-append es (e ∷ []) ∙ omega (arith, eh) in
      let all : joined es' ≡ joined es ++ e = joined-append es (e ∷ []) ∙ ap (λ (l : List ℕ). joined es ++ l) (append-nil e) in
      let at : length first ≡ entry_start h = length-append (le_bytes 4 most) (joined es) ∙ omega (arith, length-le_bytes 4 most, joined_length es sized, ap (λ (n : ℕ). entry_size * n) eh) in
      let opened : b₁ ≡ first ++ (replicate entry_size 0 ++ rest) =
      file-put s t et e₁ ∙ holding-parts b es (d ++ s) sized (entries-few b)
      ∙ ap (λ (l : List ℕ). (le_bytes 4 most ++ (joined es ++ l)) ++ behind_directory b (d ++ s)) (ap unused (sym eh) ∙ (unused-next h few).0) ∙ simp append_assoc in
      e₂ ∙ ap (λ (l : List ℕ). take (entry_start h) l ++ (e ++ drop (entry_start h + length e) l)) opened
      ∙ laid-at first (replicate entry_size 0) e rest (entry_start h) (length e) at (length-replicate {A = ℕ} entry_size 0 ∙ sym entry)
      ∙ sym (holding-parts b es' (d ++ s) (sized-append es (e ∷ []) sized (entry, tt)) (omega (arith, more, few)) ∙ rw (all, more) (simp append_assoc))

  -- the data behind the file of entry i moved down, and the new count
  pub file-out : {b₁ b₂ : List ℕ} {i place size t : ℕ} → FileAt b i place size t → b₁ ≡ paste b (data_at + place) (drop (data_at + place + size) b) (t - place - size) → b₂ ≡ stored 4 b₁ total_at (t - size) → b₂ ≡ file_out b i
  file-out {b₁} {b₂} {i} {place} {size} {t} f e₁ e₂ =
      let n = t - place - size in
      let d' = without place size d in
      let long : length d ≡ place + size + n = omega (arith, data-long, f.all, f.fits) in
      let smaller : length d' ≡ t - size = omega (arith, length_without place size d (omega arith), f.fits) in
      let end : data_at + place + n ≡ data_at + length d' = omega (arith, smaller, f.fits) in
      let packed : b₁ ≡ directory_of es ++ (le_bytes 4 (length d) ++ (d' ++ drop (data_at + length d') b)) =
      e₁ ∙ packed-is b (before ++ d) (drop (data_at + total_in b) b) (data_at + place) size n whole (length-append before d ∙ omega (arith, long-before, long))
      ∙ ap₂ (λ (l : List ℕ) (k : ℕ). l ++ drop k b) (without-behind before d place size data_at long-before) end ∙ simp append_assoc in
      e₂ ∙ ap₂ (λ (l : List ℕ) (v : ℕ). stored 4 l total_at v) packed (sym smaller) ∙ data-counted d' ∙ ap₂ (λ (j k : ℕ). holding b es (without j k d)) f.starts f.has

  -- and its entry taken out
  pub withdrawn-is : (p : ℕ) {b₁ b₂ : List ℕ} {i : ℕ} → i ≡ slot_of p es → i < length es → b₁ ≡ file_out b i → b₂ ≡ entry_out b₁ i → b₂ ≡ withdrawn_in b p
  unfolding withdrawn_in
  withdrawn-is p {b₁} {b₂} {i} ei less e₁ e₂ =
      let d' = without (place_at i es) (size_at i es) d in
      let laid : b₁ ≡ directory_of es ++ behind_directory b d' = e₁ ∙ holding-parts b es d' sized (entries-few b) in
      e₂
      ∙ ap₂ (λ (u v : List ℕ). without (entry_start i) entry_size u ++ (replicate entry_size 0 ++ v)) (ap (take total_at) laid ∙ take_at (directory_of es) (behind_directory b d') total_at long-directory) (ap (drop total_at) laid ∙ drop_at (directory_of es) (behind_directory b d') total_at long-directory)
      ∙ sym (append_assoc (without (entry_start i) entry_size (directory_of es)) (replicate entry_size 0) (behind_directory b d')) ∙ ap (λ (l : List ℕ). l ++ behind_directory b d') (directory-without es i sized (entries-few b) less)
      ∙ sym (holding-parts b (without i 1 es) d' (sized-less i 1 es sized) (omega (arith, length_without i 1 es (omega arith), entries-few b)))
      ∙ ap (λ (j : ℕ). holding b (without j 1 es) (without (place_at j es) (size_at j es) d)) ei
