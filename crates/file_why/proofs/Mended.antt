-- "For a wrong count, putting the wanted count at that place removes refusal 9 for that section": what may still be refused with 9 is a later section.
use mathlib.Core.Bool.{Bool, true, false, cond}
use mathlib.Core.List.{List}
use mathlib.Core.Logic.{◌⊎◌, inl, inr, ⊎_elim}
use mathlib.Core.Path.{◌≡◌, refl, sym, ap, subst, ◌∙◌}
use Prim.Native.Nat.{ℕ, ◌+◌, ◌-◌, ◌%◌, ◌^◌, ◌≤◌, ◌<◌}
use native.Mathlib.Omega.{arith}
use lib.Dec.{eqb}
use lib.ListN.{length}
use Rattle.base_order.proofs.Order.{lt-or-le}
use Rattle.base_answers.proofs.Passed.{Passing, off, roomy}
use Rattle.base_lengths.proofs.Counts.{count-at-le}
use Rattle.base_samples.specs.Le.{le_at, stored}
use Rattle.base_samples.proofs.LeLaws.{length-stored, stored-read, stored-before}
use Rattle.file_open.specs.declared.head.Head.{Head}
use Rattle.file_open.specs.declared.walk.Way.{Way}
use Rattle.file_open.specs.declared.walk.Way.TheVariants.{Went, Short, Wrong}
use Rattle.file_open.specs.Files.{most_bytes, new_count, is_count}
use Rattle.file_open.specs.Walks.{one_of}
use Rattle.file_open.specs.Opens.{head_in, head_checks, way_in, samples_to, count_of}
use Rattle.file_open.proofs.Opening.{start-count, head-parts, head-passes}
use Rattle.file_open.proofs.Ways.{last-most, apart, one-by, StopsIn, Stopped}
use Rattle.file_why.specs.declared.Reason.{Reason}
use Rattle.file_why.specs.Reasons.{because, nothing, place_of, wanted_of, reason_of}
use Rattle.file_why.specs.Laws.{Agree, among, section_numbers, Mended}
use Rattle.file_why.proofs.Places.{wanted-is}
use Rattle.file_why.proofs.Says.{way-stops, place-within, way-ends, wrong-there}
use Rattle.file_why.proofs.Cases.{no_field, no_cut, reason-wrong, reason-trailing, reason-whole, reason-cut, reason-by}
use Rattle.file_why.proofs.Again.{common-body, head-same, head-again, stops-there, stops-later}

-- of a reason that may be any, what is to be shown where its number is 9: the other cases have other numbers
module _ (P : Reason → Type 0) where
  abbrev Nine : Reason → Type 0
  Nine r = r.number ≡ 9 → P r

  -- only a wrong count of section 0 or of a later one has it
  pub nine-by : (s : List ℕ) (w p : ℕ) → (4 ≤ length s → is_count (le_at 4 s 0) ≡ false → P (because 9 0 0 new_count (le_at 4 s 0)))
      → (Passing (head_checks s w p) → (j found : ℕ) → way_in s (head_in s) ≡ Wrong j found → P (because 9 j (place_of (head_in s) j) (wanted_of (head_in s) j) found))
      → (reason_of s w p).number ≡ 9 → P (reason_of s w p)
  nine-by s w p count wrong =
      reason-by s w p Nine (λ _ n. absurd (omega arith)) (λ _ n. absurd (omega arith)) (λ g c _. count g c) (λ _ _ _ n. absurd (omega arith)) (λ _ r f. no_field 9 f refl) (λ _ _ _ _ n. absurd (omega arith))
      (λ _ _ n. absurd (omega arith)) (λ _ j _. no_cut j 9 refl) (λ k j found e _. wrong k j found e)

-- ---- section 0

mend-start : (s : List ℕ) (w p found : ℕ) → 4 ≤ length s → Mended (because 9 0 0 new_count found) (reason_of (stored 4 s 0 new_count) w p)
mend-start s w p found four = record { later = later; further = λ z. absurd (omega arith) }
  where
    later : (reason_of (stored 4 s 0 new_count) w p).number ≡ 9 → 0 < (reason_of (stored 4 s 0 new_count) w p).section
    later =
        let t = stored 4 s 0 new_count in
        nine-by (λ r. 0 < r.section) t w p (λ _ c. off c (ap is_count (stored-read 4 s 0 new_count four)))
        (λ k j found e. (way-stops t (head_in t) (head-passes t w p k).there j (Wrong j found) e refl).some)

-- ---- a later section

module _ (s : List ℕ) (w p j found : ℕ) (k : Passing (head_checks s w p)) (e : way_in s (head_in s) ≡ Wrong j found) where
  abbrev h : Head
  h = head_in s

  i : Stopped s h.width h.levels h.body j (samples_to h j) (Wrong j found)
  i = way-stops s h (head-passes s w p k).there j (Wrong j found) e refl

  abbrev t : List ℕ
  t = stored 4 s (place_of h j) (wanted_of h j)

  -- its count stands behind section 0 and in the file
  behind : h.body ≤ place_of h j
  behind = (place-within s h (head-passes s w p k).there j (Wrong j found) e refl).0

  inside : place_of h j + 4 ≤ length s
  inside = (wrong-there s h (head-passes s w p k).there j found e).0

  same : Agree s t (place_of h j)
  same n q b = stored-before n 4 s (place_of h j) (wanted_of h j) q b

  -- it is right now
  right : le_at 4 t (place_of h j) ≡ count_of h j
  right =
      let small : wanted_of h j % 256 ^ 4 ≡ wanted_of h j = omega (arith, wanted-is h j i.some, last-most (j - 1) (samples_to h j), count-at-le (h.levels + 1 - j) h.samples, (head-passes s w p k).short) in
      stored-read 4 s (place_of h j) (wanted_of h j) inside ∙ small ∙ wanted-is h j i.some

  head-is : head_in t ≡ head_in s
  head-is = head-same s t (place_of h j) same (omega (arith, behind, common-body s (head-parts s w p k).0))

  long : place_of h j ≤ length t
  long = omega (arith, inside, length-stored 4 s (place_of h j) (wanted_of h j))

  -- so the walk of t is cut in this section, or stops in a later one
  reached : (x : ℕ) (v : Way) → way_in t (head_in t) ≡ v → StopsIn x v → (j < x) ⊎ (v ≡ Short j)
  reached x v g st =
      one-by t h.width (count_of h j) j (place_of h j) (λ u. one_of t h.width (count_of h j) j (place_of h j) ≡ u → (j < x) ⊎ (v ≡ Short j)) (λ _. short) (λ _ n _. absurd (n right)) (λ _ _ _. short)
      (λ _ _ _ z. inl (stops-later s t (place_of h j) same w p k behind j (Wrong j found) e refl (omega arith) long _ x z (subst (StopsIn x) (sym g) st))) refl
    where
      short : one_of t h.width (count_of h j) j (place_of h j) ≡ Short j → (j < x) ⊎ (v ≡ Short j)
      short z = inr (sym g ∙ stops-there s t (place_of h j) same w p k behind j (Wrong j found) e refl (omega arith) long (Short j) z refl)

  later : (x f : ℕ) → way_in t (head_in t) ≡ Wrong x f → j < x
  later x f g = ⊎_elim (λ (z : j < x). z) (λ (z : Wrong x f ≡ Short j). apart _ _ refl z) (reached x (Wrong x f) g refl)

  -- section 0 passes again
  again : Passing (head_checks t w p)
  again =
      let size = length-stored 4 s (place_of h j) (wanted_of h j) in
      head-again s t (place_of h j) same w p k behind (omega (arith, behind, long)) (omega (arith, size, roomy most_bytes (length s) (head-parts s w p k).0.0))

  abbrev Further : Reason → Type 0
  Further m = (among section_numbers m.number ≡ true) × ((m ≡ nothing) ⊎ (j ≤ m.section))

  further : (v : Way) → way_in t (head_in t) ≡ v → Further (reason_of t w p)
  further (Went q) g =
      ⊎_elim
      (λ (z : q < length t). subst Further (sym (reason-trailing t w p again q g z)) (refl, inr (omega (arith, i.most, ap (λ (h : Head). h.levels) head-is))))
      (λ (z : length t ≤ q).
      let f = way-ends t (head_in t) (head-passes t w p again).there q g in
      subst Further (sym (reason-whole t w p again (g ∙ ap (λ y. Went y) (omega (arith, z, f.2))))) (refl, inl refl))
      (lt-or-le q (length t))
  further (Short x) g = subst Further (sym (reason-cut t w p again x g)) (pick (eqb x 1), inr (⊎_elim (λ (z : j < x). omega arith) (λ (z : Short x ≡ Short j). let f : x ≡ j = cc in omega arith) (reached x (Short x) g refl)))
    where
      pick : (b : Bool) → among section_numbers (cond b 10 0) ≡ true
      pick true = refl
      pick false = refl
  further (Wrong x f) g = subst Further (sym (reason-wrong t w p again x f g)) (refl, inr (omega (arith, later x f g)))

  mend-later : Mended (because 9 j (place_of h j) (wanted_of h j) found) (reason_of t w p)
  mend-later =
      let q = (head-parts s w p k).0 in
      record {
        later = nine-by (λ r. j < r.section) t w p (λ _ c. off c (ap is_count (same 4 0 (omega (arith, behind, common-body s q))) ∙ start-count s q)) (λ _ x f g. later x f g);
        further = λ _. further (way_in t (head_in t)) refl;
      }

-- ---- about the call

-- the place of a wrong count is in the file, and the count found stands there
pub why-count : (s : List ℕ) (w p : ℕ) {r : Reason} → r ≡ reason_of s w p → r.number ≡ 9 → (r.place + 4 ≤ length s) × (le_at 4 s r.place ≡ r.found)
why-count s w p {r} e n =
    let Stands : Reason → Type 0 = λ r. (r.place + 4 ≤ length s) × (le_at 4 s r.place ≡ r.found) in
    subst Stands (sym e)
    (nine-by Stands s w p (λ four _. (four, refl)) (λ k j found g. wrong-there s (head_in s) (head-passes s w p k).there j found g) (sym (ap (λ (r : Reason). r.number) e) ∙ n))

-- r is the reason of s, and m that of s with the wanted count at the place
pub why-mended : (s : List ℕ) (w p : ℕ) {r m : Reason} → r ≡ reason_of s w p → m ≡ reason_of (stored 4 s r.place r.wanted) w p → r.number ≡ 9 → Mended r m
why-mended s w p {r} {m} er em n9 =
    let Mends : Reason → Type 0 = λ r. Mended r (reason_of (stored 4 s r.place r.wanted) w p) in
    subst (Mended r) (sym em)
    (subst Mends (sym er) (nine-by Mends s w p (λ four _. mend-start s w p (le_at 4 s 0) four) (λ k j found e. mend-later s w p j found k e) (sym (ap (λ (r : Reason). r.number) er) ∙ n9)))
