-- The wanted bytes complete the part being read, whatever they are: in section 0, in a count and in a section.
use mathlib.Core.Bool.{Bool, true, false, cond}
use mathlib.Core.List.{List, [], ◌∷◌, ◌++◌}
use mathlib.Core.Logic.{◌⊎◌, inl, inr, ⊎_elim}
use mathlib.Core.Path.{◌≡◌, refl, sym, ap, ap₂, subst, ◌∙◌}
use Prim.Native.Nat.{ℕ, zero, suc, ◌+◌, ◌-◌, ◌*◌, ◌≤◌, ◌<◌}
use native.Mathlib.Nat.{mul-le-mul_right}
use native.Mathlib.Omega.{arith}
use borrow.Author.Tests.{lt-ltb, le-ltb, eq-eqb, eqb-true, eqb-false, ne_eqb}
use lib.Dec.{eqb}
use lib.ListN.{length, length-append, get_or-append}
use Rattle.base_order.proofs.Order.{lt-or-le}
use Rattle.base_answers.proofs.Passed.{Passing, off, roomy}
use Rattle.base_lengths.specs.declared.Wavelet.TheVariants.{Cdf53}
use Rattle.base_lengths.specs.Lengths.{approx_length, details_length}
use Rattle.base_lengths.specs.Levels.{after_levels, count_at}
use Rattle.base_lengths.proofs.Counts.{count-at-le}
use Rattle.base_lengths.proofs.Depths.{long-enough, depth-at-most}
use Rattle.base_samples.specs.Le.{le_at}
use Rattle.base_samples.specs.Integers.{is_width}
use Rattle.base_samples.proofs.IntegerLaws.{width-of}
use Rattle.base_samples.proofs.LeLaws.{le_at-same}
use Rattle.file_open.specs.declared.head.Head.{Head}
use Rattle.file_open.specs.declared.walk.Way.{Way}
use Rattle.file_open.specs.declared.walk.Way.TheVariants.{Went, Short, Wrong}
use Rattle.file_open.specs.Files.{most_bytes, new_count, is_count, common_size, new_size}
use Rattle.file_open.specs.Walks.{one_of, last_count}
use Rattle.file_open.specs.Opens.{head_in, start_checks, head_checks, way_in, samples_to, count_of, length_of}
use Rattle.file_open.proofs.Opening.{start-count, start-passes, head-parts, head-passes}
use Rattle.file_open.proofs.Ways.{apart, one-by, StopsIn, stand_of, Stopped, last-details, walk-size}
use Rattle.file_why.specs.declared.Reason.{Reason}
use Rattle.file_why.specs.Reasons.{because, nothing, end_of, place_of, wanted_of, missing, cut_in, reason_of}
use Rattle.file_why.specs.Laws.{Agree, among, OfField}
use Rattle.file_why.specs.Completed.{Cut, right_count, Ends, Completed}
use Rattle.file_why.proofs.Walking.{one-goes}
use Rattle.file_why.proofs.Places.{end_is, place-ends, place-far, stand-is, next_place}
use Rattle.file_why.proofs.Says.{way-stops, place-within, wrong-there, cut-before}
use Rattle.file_why.proofs.Cases.{number_of, no_field, reason-wrong, reason-cut, reason-whole, reason-by}
use Rattle.file_why.proofs.Again.{body-size, head-same, head-again, goes-there, next-stops, stops-there}

-- what stands in front of more bytes
pub front : (s x : List ℕ) → Agree s (s ++ x) (length s)
front s x n q b = le_at-same n (s ++ x) s q q (λ i l. get_or-append s x 0 (q + i) (omega arith))

-- what is missing where the count is broken, and where it is not
broken-is : (b q e : ℕ) → b < q + 4 → missing b q e ≡ q + 4 - b
broken-is b q e h = ap (λ t. cond t (q + 4 - b) (e - b)) (lt-ltb b (q + 4) h)

rest-is : (b q e : ℕ) → q + 4 ≤ b → missing b q e ≡ e - b
rest-is b q e h = ap (λ t. cond t (q + 4 - b) (e - b)) (le-ltb b (q + 4) h)

-- ---- a section of a file whose section 0 passes: it has samples, and ends within the limit

some_left : (l n : ℕ) → 1 ≤ n → 1 ≤ count_at l n
unfolding after_levels
some_left zero n h = h
some_left (suc l) n h = some_left l (approx_length n) (omega arith)

narrow : (w : ℕ) → is_width w ≡ true → (1 ≤ w) × (w ≤ 4)
narrow w h = ⊎_elim (λ (e : w ≡ 1). (omega arith, omega arith)) (⊎_elim (λ (e : w ≡ 2). (omega arith, omega arith)) (λ (e : w ≡ 4). (omega arith, omega arith))) (width-of w h).which

module _ (s : List ℕ) (w p : ℕ) (k : Passing (head_checks s w p)) (j : ℕ) (one : 1 ≤ j) (most : j ≤ (head_in s).levels + 1) where
  abbrev h : Head
  h = head_in s

  some-samples : 1 ≤ count_of h j
  some-samples = pick (lt-or-le j 2)
    where
      three : 3 ≤ h.samples
      three = roomy h.samples 3 (head-parts s w p k).1.1.1.0

      pick : (j < 2) ⊎ (2 ≤ j) → 1 ≤ count_of h j
      pick (inl low) =
          let e : j - 1 ≡ 0 = omega arith in
          let c : count_of h j ≡ samples_to h j = ap (λ i. last_count i (samples_to h j)) e in
          omega (arith, c, some_left (h.levels + 1 - j) h.samples (omega (arith, three)))
      pick (inr two) =
          let m = samples_to h j in
          let c : count_of h j ≡ details_length m = last-details (j - 1) m (omega arith) in
          let long : 3 ≤ m = long-enough 3 (omega arith) h.levels (h.levels + 1 - j) h.samples (head-passes s w p k).deep (omega arith) in
          omega (arith, c, long)

  some_bytes : 1 ≤ length_of h j
  some_bytes =
      let hd = head-passes s w p k in
      let n = narrow w hd.known in
      omega (arith, mul-le-mul_right (count_of h j) n.0, some-samples, ap (λ i. i * count_of h j) hd.width)

  within-limit : end_of h j ≤ most_bytes
  within-limit =
      let hd = head-passes s w p k in
      let n = narrow w hd.known in
      let m = samples_to h j in
      let deep = depth-at-most Cdf53 23 h.samples hd.short in
      let q = (head-parts s w p k).0 in
      let body = (body-size s (start-count s q)).1 in
      omega (arith, end_is h j one most, body, deep, hd.deep, mul-le-mul_right m n.1, ap (λ i. i * m) hd.width, count-at-le (h.levels + 1 - j) h.samples, hd.short)

-- ---- a cut in section j, after section 0

right_is : (h : Head) (t : List ℕ) (j : ℕ) → 1 ≤ j → right_count h t j ≡ eqb (le_at 4 t (place_of h j)) (count_of h j)
right_is h t zero one = absurd (omega arith)
right_is h t (suc j) one = refl

ends_is : (h : Head) (t : List ℕ) (j : ℕ) (m : Reason) → 1 ≤ j → m ≡ cond (eqb j (h.levels + 1)) nothing (because 0 (j + 1) (length t) 4 0) → Ends h t j m
ends_is h t zero m one e = absurd (omega arith)
ends_is h t (suc j) m one e = e

module _ (s x : List ℕ) (w p : ℕ) (k : Passing (head_checks s w p)) (j : ℕ) (e : way_in s (head_in s) ≡ Short j) (full : length x ≡ missing (length s) (place_of (head_in s) j) (end_of (head_in s) j)) where
  abbrev t : List ℕ
  t = s ++ x

  there : (head_in s).body ≤ length s
  there = (head-passes s w p k).there

  i : Stopped s (head_in s).width (head_in s).levels (head_in s).body j (samples_to (head_in s) j) (Short j)
  i = way-stops s (head_in s) there j (Short j) e refl

  near : place_of (head_in s) j ≤ length s
  near = (place-within s (head_in s) there j (Short j) e refl).1

  ends : place_of (head_in s) j + (4 + length_of (head_in s) j) ≡ end_of (head_in s) j
  ends = place-ends (head_in s) j i.some

  long : length t ≡ length s + length x
  long = length-append s x

  -- no more than the section
  upto : length t ≤ end_of (head_in s) j
  upto =
      ⊎_elim (λ (b : length s < place_of (head_in s) j + 4). omega (arith, long, full, ends, near, broken-is (length s) (place_of (head_in s) j) (end_of (head_in s) j) b))
      (λ (b : place_of (head_in s) j + 4 ≤ length s). omega (arith, long, full, cut-before s (head_in s) there j e, rest-is (length s) (place_of (head_in s) j) (end_of (head_in s) j) b))
      (lt-or-le (length s) (place_of (head_in s) j + 4))

  -- section 0 is the same, and passes again
  pub head-is : head_in t ≡ head_in s
  head-is = head-same s t (length s) (front s x) (head-passes s w p k).common

  again : Passing (head_checks t w p)
  again = head-again s t (length s) (front s x) w p k there (omega (arith, there, long)) (omega (arith, upto, within-limit s w p k j i.some i.most))

  -- its place, its count, and its way in t
  abbrev q : ℕ
  q = place_of (head_in s) j

  abbrev c : ℕ
  c = count_of (head_in s) j

  abbrev way : Way
  way = one_of (s ++ x) (head_in s).width (count_of (head_in s) j) j (place_of (head_in s) j)

  stops : (u : Way) → way ≡ u → StopsIn j u → way_in t (head_in t) ≡ u
  stops = stops-there s t (length s) (front s x) w p k there j (Short j) e refl near (omega (arith, near, long))

  -- the count was broken
  abbrev cut_now : Reason
  cut_now = because (number_of j) j (length (s ++ x)) (end_of (head_in s) j - length (s ++ x)) 0

  abbrev wrong_now : Reason
  wrong_now = because 9 j (place_of (head_in s) j) (wanted_of (head_in s) j) (le_at 4 (s ++ x) (place_of (head_in s) j))

  count-comes : length s < place_of (head_in s) j + 4 → (length (s ++ x) ≡ place_of (head_in s) j + 4) × (reason_of (s ++ x) w p ≡ cond (eqb (le_at 4 (s ++ x) (place_of (head_in s) j)) (count_of (head_in s) j)) cut_now wrong_now)
  count-comes b = (
    now,
    one-by t (head_in s).width c j q (λ u. way ≡ u → reason_of t w p ≡ cond (eqb (le_at 4 t q) c) cut_now wrong_now) (λ z. absurd (omega (arith, now))) is-wrong is_cut
        (λ _ _ z. absurd (omega (arith, now, some_bytes s w p k j i.some i.most))) refl,
  )
    where
      now : length t ≡ q + 4
      now = omega (arith, long, full, near, broken-is (length s) q (end_of (head_in s) j) b)

      is-wrong : 4 ≤ length t - q → (le_at 4 t q ≡ c → ⊥) → way ≡ Wrong j (le_at 4 t q) → reason_of t w p ≡ cond (eqb (le_at 4 t q) c) cut_now wrong_now
      is-wrong _ n z =
          reason-wrong t w p again j (le_at 4 t q) (stops (Wrong j (le_at 4 t q)) z refl)
          ∙ ap (λ (h : Head). because 9 j (place_of h j) (wanted_of h j) (le_at 4 t q)) head-is
          ∙ sym (ap (λ b. cond b cut_now wrong_now) (ne_eqb (le_at 4 t q) c n))

      is_cut : 4 ≤ length t - q → le_at 4 t q ≡ c → length t - q - 4 < (head_in s).width * c → way ≡ Short j → reason_of t w p ≡ cond (eqb (le_at 4 t q) c) cut_now wrong_now
      is_cut _ g _ z =
          reason-cut t w p again j (stops (Short j) z refl)
          ∙ ap (λ (h : Head). cut_in h (length t) (number_of j) j) head-is
          ∙ ap (λ n. because (number_of j) j (length t) n 0) (rest-is (length t) q (end_of (head_in s) j) (omega (arith, now)))
          ∙ sym (ap (λ b. cond b cut_now wrong_now) (eq-eqb (le_at 4 t q) c g))

  -- the count was there
  section-comes : place_of (head_in s) j + 4 ≤ length s → (length (s ++ x) ≡ end_of (head_in s) j) × (reason_of (s ++ x) w p ≡ cond (eqb j ((head_in s).levels + 1)) nothing (because 0 (j + 1) (length (s ++ x)) 4 0))
  section-comes b = (now, pick (eqb j ((head_in s).levels + 1)) refl)
    where
      now : length t ≡ end_of (head_in s) j
      now = omega (arith, long, full, cut-before s (head_in s) there j e, rest-is (length s) q (end_of (head_in s) j) b)

      -- it was right
      was : le_at 4 s q ≡ c
      was =
          let at = stand-is (head_in s) j i.some i.most in
          one-by s (head_in s).width c j (stand_of (head_in s).width (head_in s).body j (samples_to (head_in s) j)) (λ u. u ≡ Short j → le_at 4 s q ≡ c)
          (λ few _. absurd (omega (arith, few, at, b))) (λ _ _. apart _ _ refl) (λ _ g _ _. ap (λ y. le_at 4 s y) (sym at) ∙ g) (λ _ _ _. apart _ _ refl) i.here

      goes : way ≡ Went (length t)
      goes = one-goes t (head_in s).width c j q (front s x 4 q b ∙ was) (omega (arith, now, ends)) ∙ ap (λ y. Went y) (omega (arith, now, ends))

      pick : (z : Bool) → eqb j ((head_in s).levels + 1) ≡ z → reason_of t w p ≡ cond z nothing (because 0 (j + 1) (length t) 4 0)
      pick true z =
          reason-whole t w p again (goes-there s t (length s) (front s x) w p k there j (Short j) e refl near (omega (arith, near, long)) (length t) (eqb-true j ((head_in s).levels + 1) z) goes)
      pick false z =
          let below : j ≤ (head_in s).levels = omega (arith, i.most, eqb-false j ((head_in s).levels + 1) z) in
          let next = next_place (head_in s) j in
          reason-cut t w p again (j + 1) (next-stops s t (length s) (front s x) w p k there j (Short j) e refl near (omega (arith, near, long)) below goes)
          ∙ ap (λ (h : Head). cut_in h (length t) (number_of (j + 1)) (j + 1)) head-is
          ∙ ap₂ (λ n m. because n (j + 1) (length t) m 0) (ap (λ b. cond b 10 0) (ne_eqb (j + 1) 1 (λ y. omega (arith, i.some))))
          (broken-is (length t) (place_of (head_in s) (j + 1)) (end_of (head_in s) (j + 1)) (omega (arith, next, now)) ∙ omega (arith, next, now))

  -- both
  completed : Completed (head_in (s ++ x)) (s ++ x) (cut_in (head_in s) (length s) (number_of j) j) (reason_of (s ++ x) w p)
  completed =
      subst (λ h. Completed h t (cut_in (head_in s) (length s) (number_of j) j) (reason_of t w p)) (sym head-is)
      (record { count = λ b. let z = count-comes b in (z.0, z.1 ∙ sym (ap (λ b. cond b cut_now wrong_now) (right_is (head_in s) t j i.some))); section = λ b. let z = section-comes b in (z.0, ends_is (head_in s) t j (reason_of t w p) i.some z.1) })

-- ---- a cut in section 0

-- section 0 that passes has more than its count
enough : (t : List ℕ) → Passing (start_checks t) → common_size ≤ length t
enough t q = (start-passes t q).0

module _ (s x : List ℕ) (w p : ℕ) (full : length x ≡ missing (length s) 0 (head_in s).body) where
  count-first : length s < 4 → Completed (head_in (s ++ x)) (s ++ x) (cut_in (head_in s) (length s) 10 0) (reason_of (s ++ x) w p)
  count-first b = record { count = λ _. (now, is); section = λ z. absurd (omega arith) }
    where
      now : length (s ++ x) ≡ 4
      now = omega (arith, length-append s x, full, broken-is (length s) 0 (head_in s).body b)

      whole : {A : Type 0} → Passing (start_checks (s ++ x)) → A
      whole q = absurd (omega (arith, now, enough (s ++ x) q))

      passed : {A : Type 0} → Passing (head_checks (s ++ x) w p) → A
      passed k = whole (head-parts (s ++ x) w p k).0

      is : reason_of (s ++ x) w p
          ≡ cond (is_count (le_at 4 (s ++ x) 0)) (because 10 0 (length (s ++ x)) ((head_in (s ++ x)).body - length (s ++ x)) 0) (because 9 0 0 new_count (le_at 4 (s ++ x) 0))
      is =
          let t = s ++ x in
          let cut = because 10 0 (length t) ((head_in t).body - length t) 0 in
          let wrong = because 9 0 0 new_count (le_at 4 t 0) in
          reason-by t w p (λ m. m ≡ cond (is_count (le_at 4 t 0)) cut wrong) (λ z. absurd (omega (arith, now))) (λ z. absurd (omega (arith, now))) (λ _ c. sym (ap (λ b. cond b cut wrong) c))
          (λ g c _. ap (λ n. because 10 0 (length t) n 0) (rest-is (length t) 0 (head_in t).body g) ∙ sym (ap (λ b. cond b cut wrong) c)) (λ q _ _. whole q) (λ k _ _ _. passed k) (λ k _. passed k)
          (λ k _ _. passed k) (λ k _ _ _. passed k)

  section-first : 4 ≤ length s → is_count (le_at 4 s 0) ≡ true → length s < (head_in s).body → Completed (head_in (s ++ x)) (s ++ x) (cut_in (head_in s) (length s) 10 0) (reason_of (s ++ x) w p)
  section-first four c less = record { count = λ z. absurd (omega (arith, four)); section = λ _. (now, is) }
    where
      same : le_at 4 (s ++ x) 0 ≡ le_at 4 s 0
      same = front s x 4 0 four

      now : length (s ++ x) ≡ (head_in (s ++ x)).body
      now = omega (arith, length-append s x, full, less, same, rest-is (length s) 0 (head_in s).body four)

      short : (head_in (s ++ x)).body ≤ new_size
      short = (body-size (s ++ x) (ap is_count same ∙ c)).1

      -- no section is there
      none : {A : Type 0} → Passing (head_checks (s ++ x) w p) → (q : ℕ) → way_in (s ++ x) (head_in (s ++ x)) ≡ Went q → A
      none k q e =
          let t = s ++ x in
          let h = head_in t in
          let z = walk-size h.levels t h.width h.samples h.body q (head-passes t w p k).there e in
          absurd (omega (arith, now, z.0, z.1))

      -- so section 1 is cut
      first : Passing (head_checks (s ++ x) w p) → (j : ℕ) → way_in (s ++ x) (head_in (s ++ x)) ≡ Short j → cut_in (head_in (s ++ x)) (length (s ++ x)) (number_of j) j ≡ because 10 1 (length (s ++ x)) 4 0
      first k j e =
          let t = s ++ x in
          let h = head_in t in
          let body = (head-passes t w p k).there in
          let i = way-stops t h body j (Short j) e refl in
          let near = (place-within t h body j (Short j) e refl).1 in
          let low : j ≡ 1 = ⊎_elim (λ (z : j < 2). omega (arith, i.some)) (λ (z : 2 ≤ j). absurd (omega (arith, now, near, place-far h j z))) (lt-or-le j 2) in
          ap (λ j. cut_in h (length t) (number_of j) j) low ∙ ap (λ n. because 10 1 (length t) n 0) (broken-is (length t) h.body (end_of h 1) (omega (arith, now)) ∙ omega (arith, now))

      is : (reason_of (s ++ x) w p ≡ because 10 1 (length (s ++ x)) 4 0) ⊎ OfField (s ++ x) (reason_of (s ++ x) w p)
      is =
          let t = s ++ x in
          reason-by t w p (λ m. (m ≡ because 10 1 (length t) 4 0) ⊎ OfField t m) (λ z. absurd (omega (arith, now, short))) (λ z. absurd (omega (arith, length-append s x, four)))
          (λ _ z. off z (ap is_count same ∙ c)) (λ _ _ z. absurd (omega (arith, now))) (λ _ m f. inr f) (λ k q e _. none k q e) (λ k e. none k (length t) e) (λ k j e. inl (first k j e))
          (λ k j found g. absurd (omega (arith, now, (wrong-there t (head_in t) (head-passes t w p k).there j found g).0, (place-within t (head_in t) (head-passes t w p k).there j (Wrong j found) g refl).0)))

-- ---- about the call

-- a cut is in section 0, in its count or behind it, or in a later one; no other case is one
cut_by : (s : List ℕ) (w p : ℕ) (P : Reason → Type 0) → (length s < 4 → P (cut_in (head_in s) (length s) 10 0))
    → (4 ≤ length s → is_count (le_at 4 s 0) ≡ true → length s < (head_in s).body → P (cut_in (head_in s) (length s) 10 0))
    → (Passing (head_checks s w p) → (j : ℕ) → way_in s (head_in s) ≡ Short j → P (cut_in (head_in s) (length s) (number_of j) j)) → Cut (reason_of s w p) → P (reason_of s w p)
cut_by s w p P few short later =
    reason-by s w p (λ r. Cut r → P r) (λ _ c. no 6 refl c) (λ b _. few b) (λ _ _ c. no 9 refl c) (λ four c less _. short four c less) (λ _ m f c. no-field-cut m f c) (λ _ _ _ _ c. no 12 refl c) (λ _ _ c. whole c)
    (λ k j e _. later k j e) (λ _ _ _ _ c. no 9 refl c)
  where
    no : {A : Type 0} (n : ℕ) {j : ℕ} → among (0 ∷ 10 ∷ []) n ≡ false → (n ≡ 10) ⊎ ((n ≡ 0) × (1 ≤ j)) → A
    no n f (inl z) = off f (ap (λ i. among (0 ∷ 10 ∷ []) i) z)
    no n f (inr z) = off f (ap (λ i. among (0 ∷ 10 ∷ []) i) z.0)

    no-field-cut : {A : Type 0} (m : Reason) → OfField s m → Cut m → A
    no-field-cut m f (inl z) = no_field 10 f refl z
    no-field-cut m f (inr z) = no_field 0 f refl z.0

    whole : {A : Type 0} → Cut nothing → A
    whole (inl z) = absurd (omega arith)
    whole (inr z) = absurd (omega (arith, z.1))

-- "for a cut the place is the file's length, found is 0", and something is wanted
pub why-cut : (s : List ℕ) (w p : ℕ) {r : Reason} → r ≡ reason_of s w p → Cut r → (r.place ≡ length s) × (r.found ≡ 0) × (1 ≤ r.wanted)
why-cut s w p why cut =
    subst (λ r. (r.place ≡ length s) × (r.found ≡ 0) × (1 ≤ r.wanted)) (sym why)
    (cut_by s w p (λ r. (r.place ≡ length s) × (r.found ≡ 0) × (1 ≤ r.wanted)) (λ b. (refl, refl, omega (arith, broken-is (length s) 0 (head_in s).body b)))
    (λ four _ less. (refl, refl, omega (arith, less, rest-is (length s) 0 (head_in s).body four))) (λ k j e. (refl, refl, some k j e)) (subst Cut why cut))
  where
    some : Passing (head_checks s w p) → (j : ℕ) → way_in s (head_in s) ≡ Short j → 1 ≤ missing (length s) (place_of (head_in s) j) (end_of (head_in s) j)
    some k j e =
        let q = place_of (head_in s) j in
        ⊎_elim (λ (b : length s < q + 4). omega (arith, broken-is (length s) q (end_of (head_in s) j) b))
        (λ (b : q + 4 ≤ length s). omega (arith, cut-before s (head_in s) (head-passes s w p k).there j e, rest-is (length s) q (end_of (head_in s) j) b)) (lt-or-le (length s) (q + 4))

-- r is the reason of s, and m that of s with the wanted bytes more, whatever they are
pub why-completed : (s x : List ℕ) (w p : ℕ) {r m : Reason} → r ≡ reason_of s w p → m ≡ reason_of (s ++ x) w p → Cut r → length x ≡ r.wanted → Completed (head_in (s ++ x)) (s ++ x) r m
why-completed s x w p {r} er em cut full =
    let Completes : Reason → Type 0 = λ r. length x ≡ r.wanted → Completed (head_in (s ++ x)) (s ++ x) r (reason_of (s ++ x) w p) in
    subst (λ m. Completed (head_in (s ++ x)) (s ++ x) r m) (sym em)
    (subst Completes (sym er)
    (cut_by s w p Completes (λ b f. count-first s x w p f b) (λ four c less f. section-first s x w p f four c less) (λ k j e f. completed s x w p k j e f) (subst Cut er cut)) full)
