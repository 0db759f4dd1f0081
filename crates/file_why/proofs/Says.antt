-- What the opener says of a file, by the three parts of its list: the start, the rest of section 0, and the walk.
use mathlib.Core.Bool.{Bool, true, false, cond, not}
use mathlib.Core.List.{List, ◌++◌}
use mathlib.Core.Path.{◌≡◌, refl, sym, ap, ap₂, subst, ◌∙◌}
use Prim.Native.Nat.{ℕ, ◌+◌, ◌-◌, ◌*◌, ◌≤◌, ◌<◌}
use native.Mathlib.Omega.{arith}
use borrow.Author.Tests.{ltb-true, ltb-false, eqb-true, eqb-false}
use lib.Dec.{ltb, eqb}
use lib.ListN.{length}
use Rattle.std.specs.Prelude.{Err}
use Rattle.base_answers.specs.declared.err.Refusal.{Refusal}
use Rattle.base_answers.specs.declared.err.Refusal.TheVariants.{MinFilterSize, BufferWasTooSmallForLevel, TooLong, OtherWidth, BadCount, CutShort, OtherPoint, Trailing, NoRate}
use Rattle.base_answers.specs.Answers.{Outcome, told, says, done}
use Rattle.base_answers.specs.Checks.{Check, first_refusal}
use Rattle.base_answers.proofs.Passed.{Passing, passing, through, stops-so, joined, both-pass, pass-both, off}
use Rattle.base_samples.specs.Le.{le_at}
use Rattle.file_open.specs.declared.head.Head.{Head}
use Rattle.file_open.specs.declared.walk.Way.{Way}
use Rattle.file_open.specs.declared.walk.Way.TheVariants.{Went, Short, Wrong}
use Rattle.file_open.specs.Files.{most_bytes, is_count}
use Rattle.file_open.specs.Opens.{head_in, start_checks, field_checks, rate_checks, head_checks, way_in, way_checks, whole_details, level_in, count_in, samples_to, count_of, say_file}
use Rattle.file_open.proofs.Opening.{start-passes}
use Rattle.file_open.proofs.Ways.{apart, one-by, StopsIn, stand_of, Stopped, walk-size, walk-stops, stop-below}
use Rattle.file_why.specs.Reasons.{end_of, place_of, reason_by, say_start, reason_of, Said}
use Rattle.file_why.proofs.Places.{end_is, samples-all, place-behind, stand-is}
use Rattle.file_why.proofs.Stops.{Every, first_by}

-- ---- the start

-- what it says, and what each case tells
pub start-by : (s : List ℕ) (P : Outcome → Type 0) → (most_bytes < length s → P (Err TooLong)) → (length s < 4 → P (Err (CutShort (length s))))
    → (4 ≤ length s → is_count (le_at 4 s 0) ≡ false → P (Err (BadCount 0 (le_at 4 s 0)))) → (4 ≤ length s → is_count (le_at 4 s 0) ≡ true → length s < (head_in s).body → P (Err (CutShort (length s))))
    → (Passing (start_checks s) → P (told 0 0)) → P (say_start s)
start-by s P long few wrong short there =
    pick (ltb most_bytes (length s)) (ltb (length s) 4) (is_count (le_at 4 s 0)) (ltb (length s) (head_in s).body) refl refl refl refl
  where
    pick : (x y z u : Bool) → ltb most_bytes (length s) ≡ x → ltb (length s) 4 ≡ y → is_count (le_at 4 s 0) ≡ z → ltb (length s) (head_in s).body ≡ u
        → P (cond x (Err TooLong) (cond y (Err (CutShort (length s))) (cond (not z) (Err (BadCount 0 (le_at 4 s 0))) (cond u (Err (CutShort (length s))) (told 0 0)))))
    pick true y z u ex ey ez eu = long (ltb-true most_bytes (length s) ex)
    pick false true z u ex ey ez eu = few (ltb-true (length s) 4 ey)
    pick false false false u ex ey ez eu = wrong (ltb-false (length s) 4 ey) ez
    pick false false true true ex ey ez eu = short (ltb-false (length s) 4 ey) ez (ltb-true (length s) (head_in s).body eu)
    pick false false true false ex ey ez eu = there (ex, (ey, (ap not ez, (eu, tt))))

-- ---- all of it

module _ (s : List ℕ) (w p : ℕ) where
  -- the rest of section 0, and the walk
  abbrev pub later : List Check
  later = field_checks (head_in s) w p ++ rate_checks s

  abbrev pub say_way : Outcome
  say_way = first_refusal (way_checks (way_in s (head_in s)) (length s)) (told (level_in s) (count_in s))

  file-by : say_file s w p ≡ first_refusal (start_checks s) (first_refusal later say_way)
  unfolding say_file
  file-by = joined (head_checks s w p) (way_checks (way_in s (head_in s)) (length s)) (told (level_in s) (count_in s)) ∙ joined (start_checks s) later say_way

  -- where the start refuses, the opener says that
  pub start-stops : {e : Refusal} → say_start s ≡ Err e → say_file s w p ≡ Err e
  start-stops h = file-by ∙ stops-so (start_checks s) (0, 0) (first_refusal later say_way) h

  pub reason_early : {e : Refusal} → say_start s ≡ Err e → reason_of s w p ≡ reason_by false (head_in s) (length s) (Err e)
  unfolding reason_of
  reason_early h = ap₂ (λ t r. reason_by t (head_in s) (length s) r) (ap done h) (start-stops h)

  pub reason_later : done (say_start s) ≡ true → reason_of s w p ≡ reason_by true (head_in s) (length s) (say_file s w p)
  unfolding reason_of
  reason_later h = ap (λ t. reason_by t (head_in s) (length s) (say_file s w p)) h

  -- where the start passes, what stands behind it
  pub reason-start : Passing (start_checks s) → reason_of s w p ≡ reason_by true (head_in s) (length s) (first_refusal later say_way)
  reason-start q =
      reason_later (ap done (through (start_checks s) (told 0 0) q)) ∙ ap (λ r. reason_by true (head_in s) (length s) r) (file-by ∙ through (start_checks s) (first_refusal later say_way) q)

  -- where all of section 0 passes, what the walk says
  pub reason-passed : Passing (head_checks s w p) → reason_of s w p ≡ reason_by true (head_in s) (length s) say_way
  reason-passed k =
      let q = both-pass (start_checks s) later k in
      reason-start q.0 ∙ ap (λ r. reason_by true (head_in s) (length s) r) (through later say_way q.1)

  -- where the start passes, what holds of each refusal behind it, and of the walk where all of section 0 passes
  pub later-by : (P : Outcome → Type 0) → Passing (start_checks s) → Every P later → (Passing (head_checks s w p) → P say_way) → P (say_file s w p)
  later-by P q each way =
      subst P (sym (file-by ∙ through (start_checks s) (first_refusal later say_way) q)) (first_by P later say_way each (λ r. way (pass-both (start_checks s) later q r)))

-- ---- the cases

way-each : (P : Outcome → Type 0) (v : Way) (b : ℕ) (e : Outcome) → ((a : ℕ) → P (Err (CutShort a))) → ((a c : ℕ) → P (Err (BadCount a c))) → ((a : ℕ) → P (Err (Trailing a))) → P e → P (first_refusal (way_checks v b) e)
way-each P (Went q) b e cut count more end = first_by P (way_checks (Went q) b) e ((λ _. more (b - q)), tt) (λ _. end)
way-each P (Short j) b e cut count more end = first_by P (way_checks (Short j) b) e ((λ _. cut b), tt) (λ _. end)
way-each P (Wrong j found) b e cut count more end = first_by P (way_checks (Wrong j found) b) e ((λ _. count j found), tt) (λ _. end)

-- the opener says ten cases of a file, and no other
pub says-each : (s : List ℕ) (w p : ℕ) (P : Outcome → Type 0) → ((a c : ℕ) → P (told a c)) → ((a c : ℕ) → P (Err (MinFilterSize a c))) → P (Err BufferWasTooSmallForLevel) → P (Err TooLong)
    → ((a c : ℕ) → P (Err (OtherWidth a c))) → ((a c : ℕ) → P (Err (BadCount a c))) → ((a : ℕ) → P (Err (CutShort a))) → ((a c : ℕ) → P (Err (OtherPoint a c))) → ((a : ℕ) → P (Err (Trailing a))) → P (Err NoRate)
    → P (say_file s w p)
says-each s w p P end least level long width count cut point more rate =
    let h = head_in s in
    subst P (sym (file-by s w p))
    (first_by P (start_checks s) (first_refusal (later s w p) (say_way s w p)) ((λ _. long), ((λ _. cut _), ((λ _. count _ _), ((λ _. cut _), tt))))
    (λ _. first_by P (later s w p) (say_way s w p) ((λ _. width _ _), ((λ _. width _ _), ((λ _. least _ _), ((λ _. long), ((λ _. level), ((λ _. level), ((λ _. point _ _), ((λ _. rate), tt))))))))
    (λ _. way-each P (way_in s h) (length s) (told (level_in s) (count_in s)) cut count more (end (level_in s) (count_in s)))))

-- ---- the walk

module _ (s : List ℕ) (h : Head) (body : h.body ≤ length s) where
  -- a walk that stops in section j stands at its count
  pub way-stops : (j : ℕ) (v : Way) → way_in s h ≡ v → StopsIn j v → Stopped s h.width h.levels h.body j (samples_to h j) v
  way-stops j v e st = walk-stops h.levels s h.width h.samples h.body j v body e st

  -- which is behind section 0, and in the file
  pub place-within : (j : ℕ) (v : Way) → way_in s h ≡ v → StopsIn j v → (h.body ≤ place_of h j) × (place_of h j ≤ length s)
  place-within j v e st =
      let i = way-stops j v e st in
      let one = i.some in
      (place-behind h j one, omega (arith, i.within, stand-is h j one i.most))

  -- a walk that went on ends where the last section does, in the file
  pub way-ends : (q : ℕ) → way_in s h ≡ Went q → (q ≡ end_of h (h.levels + 1)) × (h.body ≤ q) × (q ≤ length s)
  way-ends q e =
      let z = walk-size h.levels s h.width h.samples h.body q body e in
      (omega (arith, z.0, end_is h (h.levels + 1) (omega arith) (omega arith), ap (λ n. h.width * n) (samples-all h)), omega (arith, z.0), z.1)

  -- a wrong count is there
  pub wrong-there : (j found : ℕ) → way_in s h ≡ Wrong j found → (place_of h j + 4 ≤ length s) × (le_at 4 s (place_of h j) ≡ found)
  wrong-there j found e =
      let i = way-stops j (Wrong j found) e refl in
      let at = stand-is h j i.some i.most in
      one-by s h.width (count_of h j) j (stand_of h.width h.body j (samples_to h j)) (λ v. v ≡ Wrong j found → (place_of h j + 4 ≤ length s) × (le_at 4 s (place_of h j) ≡ found))
      (λ _. apart _ _ refl) (λ four _ z. (omega (arith, four, at), ap (λ q. le_at 4 s q) (sym at) ∙ cc)) (λ _ _ _. apart _ _ refl) (λ _ _ _. apart _ _ refl) i.here

  -- a cut is before the end of its section
  pub cut-before : (j : ℕ) → way_in s h ≡ Short j → length s < end_of h j
  cut-before j e = let i = way-stops j (Short j) e refl in omega (arith, stop-below s h.width h.levels h.body j (samples_to h j) i, i.some, end_is h j i.some i.most)

-- what the walk says, and what each case tells, of a section 0 that says h
pub way_by : (s : List ℕ) (h : Head) (c : ℕ) (P : Outcome → Type 0) → h.body ≤ length s
    → ((q : ℕ) → way_in s h ≡ Went q → q < length s → P (Err (Trailing (length s - q))))
    → (way_in s h ≡ Went (length s) → P (told (h.levels - h.levels) c))
    → (way_in s h ≡ Short 1 → P (Err (CutShort (length s))))
    → ((j : ℕ) → way_in s h ≡ Short j → 2 ≤ j → P (told (h.levels - (j - 2)) c))
    → ((j found : ℕ) → way_in s h ≡ Wrong j found → P (Err (BadCount j found)))
    → P (first_refusal (way_checks (way_in s h) (length s)) (told (h.levels - whole_details (way_in s h) h.levels) c))
way_by s h c P body trailing whole first cut wrong = pick (way_in s h) refl
  where
    went : (q : ℕ) → way_in s h ≡ Went q → (t : Bool) → ltb q (length s) ≡ t → P (cond t (Err (Trailing (length s - q))) (told (h.levels - h.levels) c))
    went q e true g = trailing q e (ltb-true q (length s) g)
    went q e false g =
        let z = walk-size h.levels s h.width h.samples h.body q body e in
        let all : q ≡ length s = omega (arith, ltb-false q (length s) g, z.1) in
        whole (e ∙ ap (λ i. Went i) all)

    short : (j : ℕ) → way_in s h ≡ Short j → (t : Bool) → eqb j 1 ≡ t → P (cond t (Err (CutShort (length s))) (told (h.levels - (j - 2)) c))
    short j e true g = first (e ∙ ap (λ i. Short i) (eqb-true j 1 g))
    short j e false g = cut j e (omega (arith, (way-stops s h body j (Short j) e refl).some, eqb-false j 1 g))

    pick : (v : Way) → way_in s h ≡ v → P (first_refusal (way_checks v (length s)) (told (h.levels - whole_details v h.levels) c))
    pick (Went q) e = went q e (ltb q (length s)) refl
    pick (Short j) e = short j e (eqb j 1) refl
    pick (Wrong j found) e = wrong j found e

-- ---- what the opener can say

-- a refusal of none of the three numbers tells of no section
quiet : (h : Head) (b : ℕ) (r : Outcome) → done r ≡ false → says 9 r ≡ false → says 10 r ≡ false → Said h b r
quiet h b r z n t = record { level = λ e. off z e; wrong = λ e. off n e; cut = λ e. off t e }

module _ (s : List ℕ) (w p : ℕ) (q : Passing (start_checks s)) where
  abbrev h : Head
  h = head_in s

  no : {A : Type 0} {r : Outcome} → done r ≡ false → says 9 r ≡ false → says 10 r ≡ false → A → Said (head_in s) (length s) r
  no {r = r} z n t _ = quiet (head_in s) (length s) r z n t

  -- a cut in a later section, and a wrong count
  cut : (j : ℕ) → way_in s h ≡ Short j → 2 ≤ j → Said h (length s) (told (h.levels - (j - 2)) (count_in s))
  cut j e two =
      let body = (start-passes s q).1 in
      let most = (way-stops s h body j (Short j) e refl).most in
      let at : h.levels + 2 - (h.levels - (j - 2)) ≡ j = omega (arith, most, two) in
      record { level = λ _ _. (omega arith, subst (λ i. length s ≤ end_of h i) (sym at) (omega (arith, cut-before s h body j e))); wrong = off refl; cut = off refl }

  wrong : (j found : ℕ) → way_in s h ≡ Wrong j found → Said h (length s) (Err (BadCount j found))
  wrong j found e = let i = way-stops s h (start-passes s q).1 j (Wrong j found) e refl in record { level = off refl; wrong = λ _. (i.some, i.most); cut = off refl }

  pub said : Said (head_in s) (length s) (say_file s w p)
  said =
      later-by s w p (Said h (length s)) q
      (no refl refl refl, (no refl refl refl, (no refl refl refl, (no refl refl refl, (no refl refl refl, (no refl refl refl, (no refl refl refl, (no refl refl refl, tt))))))))
      (λ _. way_by s h (count_in s) (Said h (length s)) (start-passes s q).1 (λ _ _. no refl refl refl) (λ _. record { level = λ _ n. absurd (n (omega arith)); wrong = off refl; cut = off refl })
      (λ e. record { level = off refl; wrong = off refl; cut = λ _. omega (arith, cut-before s h (start-passes s q).1 1 e) }) cut wrong)

-- as the code asks: the start first
pub said_past : (s : List ℕ) (w p : ℕ) → done (say_start s) ≡ true → Said (head_in s) (length s) (say_file s w p)
said_past s w p h = said s w p (passing (start_checks s) (told 0 0) h)
