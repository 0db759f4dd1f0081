-- The reason of any file, case by case, with what is known of the file in each: C-18's table as it is used in proofs.
use mathlib.Core.Bool.{Bool, true, false, cond, ◌&&◌}
use mathlib.Core.List.{List, [], ◌∷◌}
use mathlib.Core.Logic.{◌⊎◌, inl, inr, ⊎_elim}
use mathlib.Core.Path.{◌≡◌, refl, sym, ap, subst, ◌∙◌}
use Prim.Native.Nat.{ℕ, ◌+◌, ◌-◌, ◌≤◌, ◌<◌}
use native.Mathlib.Omega.{arith}
use borrow.Author.Tests.{lt-ltb, le-ltb, eq-eqb, eqb-true, eqb-false, ne_eqb}
use lib.Dec.{ltb, eqb}
use lib.ListN.{length}
use Rattle.std.specs.Prelude.{Err}
use Rattle.base_answers.specs.declared.err.Refusal.{Refusal}
use Rattle.base_answers.specs.declared.err.Refusal.TheVariants.{CutShort, Trailing}
use Rattle.base_answers.specs.Answers.{Outcome, told, done}
use Rattle.base_answers.specs.Checks.{first_refusal}
use Rattle.base_answers.proofs.Chain.{stop}
use Rattle.base_answers.proofs.Passed.{Passing, off}
use Rattle.base_order.proofs.Order.{lt-or-le}
use Rattle.base_samples.specs.Le.{le_at}
use Rattle.file_open.specs.declared.head.Head.{Head}
use Rattle.file_open.specs.declared.walk.Way.{Way}
use Rattle.file_open.specs.declared.walk.Way.TheVariants.{Went, Short, Wrong}
use Rattle.file_open.specs.Files.{most_bytes, new_count, is_count}
use Rattle.file_open.specs.Opens.{head_in, is_new, start_checks, head_checks, way_in, way_checks, whole_details, count_in, say_file}
use Rattle.file_open.proofs.Opening.{head-passes}
use Rattle.file_open.proofs.Ways.{walk-size}
use Rattle.file_why.specs.declared.Reason.{Reason}
use Rattle.file_why.specs.Laws.{among, field_numbers, field_place, OfField}
use Rattle.file_why.specs.Reasons.{because, nothing, end_of, place_of, wanted_of, cut_in, reason_by, say_start, reason_of}
use Rattle.file_why.proofs.Says.{start-by, reason_early, reason_later, reason-passed, later-by, way-stops}

-- the number of a cut in section j, from 1 on: the opener refuses one in section 1
abbrev pub number_of : ℕ → ℕ
number_of j = cond (eqb j 1) 10 0

-- a field of section 0 has none of the other numbers, and a cut has no others
pub no_field : {A : Type 0} {s : List ℕ} {r : Reason} (n : ℕ) → OfField s r → among field_numbers n ≡ false → r.number ≡ n → A
no_field n f h e = off h (sym (ap (λ m. among field_numbers m) e) ∙ f.number)

pub no_cut : {A : Type 0} (j n : ℕ) → among (10 ∷ 0 ∷ []) n ≡ false → number_of j ≡ n → A
no_cut j n h e = off h (sym (ap (λ m. among (10 ∷ 0 ∷ []) m) e) ∙ pick (eqb j 1))
  where
    pick : (t : Bool) → among (10 ∷ 0 ∷ []) (cond t 10 0) ≡ true
    pick true = refl
    pick false = refl

-- ---- where section 0 passes, by the walk

module _ (s : List ℕ) (w p : ℕ) (k : Passing (head_checks s w p)) where
  abbrev h : Head
  h = head_in s

  abbrev b : ℕ
  b = length s

  body : (head_in s).body ≤ length s
  body = (head-passes s w p k).there

  -- of a walk v
  walked : (v : Way) → way_in s h ≡ v → reason_of s w p ≡ reason_by true h b (first_refusal (way_checks v b) (told (h.levels - whole_details v h.levels) (count_in s)))
  walked v e = reason-passed s w p k ∙ ap (λ u. reason_by true h b (first_refusal (way_checks u b) (told (h.levels - whole_details u h.levels) (count_in s)))) e

  pub reason-wrong : (j found : ℕ) → way_in s (head_in s) ≡ Wrong j found → reason_of s w p ≡ because 9 j (place_of (head_in s) j) (wanted_of (head_in s) j) found
  reason-wrong j found e = walked (Wrong j found) e

  pub reason-trailing : (q : ℕ) → way_in s (head_in s) ≡ Went q → q < length s → let e = end_of (head_in s) ((head_in s).levels + 1) in reason_of s w p ≡ because 12 ((head_in s).levels + 1) e e (length s)
  reason-trailing q e g =
      walked (Went q) e ∙ ap (λ t. reason_by true h b (cond t (Err (Trailing (b - q))) (told (h.levels - h.levels) (count_in s)))) (lt-ltb q b g)

  pub reason-whole : way_in s (head_in s) ≡ Went (length s) → reason_of s w p ≡ nothing
  reason-whole e =
      walked (Went b) e
      ∙ ap (λ t. reason_by true h b (cond t (Err (Trailing (b - b))) (told (h.levels - h.levels) (count_in s)))) (le-ltb b b (omega arith))
      ∙ ap (λ t. cond t nothing (cut_in h b 0 (h.levels + 2 - (h.levels - h.levels)))) (eq-eqb (h.levels - h.levels) 0 (omega arith))

  pub reason-cut : (j : ℕ) → way_in s (head_in s) ≡ Short j → reason_of s w p ≡ cut_in (head_in s) (length s) (number_of j) j
  reason-cut j e = walked (Short j) e ∙ pick (eqb j 1) refl
    where
      pick : (t : Bool) → eqb j 1 ≡ t → reason_by true h b (cond t (Err (CutShort b)) (told (h.levels - (j - 2)) (count_in s))) ≡ cut_in h b (cond t 10 0) j
      pick true g = ap (λ i. cut_in h b 10 i) (sym (eqb-true j 1 g))
      pick false g =
          let i = way-stops s h body j (Short j) e refl in
          let two : 2 ≤ j = omega (arith, i.some, eqb-false j 1 g) in
          let at : h.levels + 2 - (h.levels - (j - 2)) ≡ j = omega (arith, two, i.most) in
          ap (λ t. cond t nothing (cut_in h b 0 (h.levels + 2 - (h.levels - (j - 2))))) (ne_eqb (h.levels - (j - 2)) 0 (λ z. omega (arith, two, i.most))) ∙ ap (λ i. cut_in h b 0 i) at

-- ---- any file

-- one that is too long, whatever it says
pub reason-long : (s : List ℕ) (w p : ℕ) → most_bytes < length s → reason_of s w p ≡ because 6 0 0 most_bytes (length s)
reason-long s w p h =
    reason_early s w p (sym (stop _ (lt-ltb most_bytes (length s) h) refl))

module _ (s : List ℕ) (w p : ℕ) (Q : Reason → Type 0) where
  early : {e : Refusal} → Q (reason_by false (head_in s) (length s) (Err e)) → say_start s ≡ Err e → Q (reason_of s w p)
  early q h = subst Q (sym (reason_early s w p h)) q

  pub reason-by : (most_bytes < length s → Q (because 6 0 0 most_bytes (length s)))
      → (length s < 4 → Q (cut_in (head_in s) (length s) 10 0))
      → (4 ≤ length s → is_count (le_at 4 s 0) ≡ false → Q (because 9 0 0 new_count (le_at 4 s 0)))
      → (4 ≤ length s → is_count (le_at 4 s 0) ≡ true → length s < (head_in s).body → Q (cut_in (head_in s) (length s) 10 0))
      → (Passing (start_checks s) → (r : Reason) → OfField s r → Q r)
      → (Passing (head_checks s w p) → (q : ℕ) → way_in s (head_in s) ≡ Went q → q < length s → let e = end_of (head_in s) ((head_in s).levels + 1) in Q (because 12 ((head_in s).levels + 1) e e (length s)))
      → (Passing (head_checks s w p) → way_in s (head_in s) ≡ Went (length s) → Q nothing)
      → (Passing (head_checks s w p) → (j : ℕ) → way_in s (head_in s) ≡ Short j → Q (cut_in (head_in s) (length s) (number_of j) j))
      → (Passing (head_checks s w p) → (j found : ℕ) → way_in s (head_in s) ≡ Wrong j found → Q (because 9 j (place_of (head_in s) j) (wanted_of (head_in s) j) found))
      → Q (reason_of s w p)
  reason-by long few count short field trailing whole cut wrong =
      start-by s (λ r. say_start s ≡ r → Q (reason_of s w p)) (λ g. early (long g)) (λ g. early (few g)) (λ g c. early (count g c)) (λ g c l. early (short g c l)) there refl
    where
      way : Passing (head_checks s w p) → (v : Way) → way_in s (head_in s) ≡ v → Q (reason_of s w p)
      way k (Went q) e =
          ⊎_elim (λ (g : q < length s). subst Q (sym (reason-trailing s w p k q e g)) (trailing k q e g))
          (λ (g : length s ≤ q).
          let z = walk-size (head_in s).levels s (head_in s).width (head_in s).samples (head_in s).body q (head-passes s w p k).there e in
          let f : way_in s (head_in s) ≡ Went (length s) = e ∙ ap (λ i. Went i) (omega (arith, z.1, g)) in
          subst Q (sym (reason-whole s w p k f)) (whole k f))
          (lt-or-le q (length s))
      way k (Short j) e = subst Q (sym (reason-cut s w p k j e)) (cut k j e)
      way k (Wrong j found) e = subst Q (sym (reason-wrong s w p k j found e)) (wrong k j found e)

      there : Passing (start_checks s) → say_start s ≡ told 0 0 → Q (reason_of s w p)
      there q e =
          later-by s w p (λ r. say_file s w p ≡ r → Q (reason_of s w p)) q
          (of refl refl refl refl, (of refl refl refl refl, (of refl refl refl refl, (of refl refl refl refl, (of refl refl refl refl, (of refl refl refl refl, (of refl refl refl refl, ((λ t. of refl refl refl (rate-none (is_new s) t) t), tt))))))))
          (λ k _. way k (way_in s (head_in s)) refl) refl
        where
          of : {r : Outcome} {A : Type 0} → let x = reason_by true (head_in s) (length s) r in
              among field_numbers x.number ≡ true → x.section ≡ 0 → x.place ≡ field_place x.number
              → le_at (cond (ltb x.place 6) 1 4) s x.place ≡ x.found → A → say_file s w p ≡ r → Q (reason_of s w p)
          of {r} n z a f _ g =
              let x = reason_by true (head_in s) (length s) r in
              subst Q (sym (reason_later s w p (ap done e) ∙ ap (λ r. reason_by true (head_in s) (length s) r) g)) (field q x (record { number = n; section = z; place = a; found = f }))

          rate-none : (new : Bool) → (new && eqb (cond new (le_at 4 s 14) 0) 0) ≡ true → le_at 4 s 14 ≡ 0
          rate-none true t = eqb-true (le_at 4 s 14) 0 t
          rate-none false t = off refl t

-- ---- about the call

-- "else the place is the field's first byte": a field, or the whole file where it is too long
abbrev Fielded : List ℕ → Reason → Type 0
Fielded s r = among field_numbers r.number ≡ true → ((most_bytes < length s) × (r ≡ because 6 0 0 most_bytes (length s))) ⊎ OfField s r

pub why-field : (s : List ℕ) (w p : ℕ) {r : Reason} → r ≡ reason_of s w p → among field_numbers r.number ≡ true → ((most_bytes < length s) × (r ≡ because 6 0 0 most_bytes (length s))) ⊎ OfField s r
why-field s w p why = subst (Fielded s) (sym why) all
  where
    cut : (b : Bool) → among field_numbers (cond b 10 0) ≡ false
    cut true = refl
    cut false = refl

    all : Fielded s (reason_of s w p)
    all =
        reason-by s w p (Fielded s) (λ g _. inl (g, refl)) (λ _. off refl) (λ _ _. off refl) (λ _ _ _. off refl) (λ _ r f _. inr f) (λ _ _ _ _. off refl) (λ _ _. off refl)
        (λ _ j _. off (cut (eqb j 1))) (λ _ _ _ _. off refl)
