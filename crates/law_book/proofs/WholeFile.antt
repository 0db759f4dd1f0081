-- A file that adding takes is a whole one: as long as its first 14 bytes say, which are an entry for its point.
use mathlib.Core.Bool.{Bool, true, false, cond, ◌&&◌, and-eq-true_iff}
use mathlib.Core.List.{List, [], ◌∷◌, ◌++◌, append_assoc}
use mathlib.Core.Logic.{⊎_elim}
use mathlib.Core.Path.{◌≡◌, refl, sym, ap, ap₂, subst, ◌∙◌}
use Prim.Native.Nat.{ℕ, ◌+◌, ◌-◌, ◌≤◌}
use native.Mathlib.Omega.{arith}
use borrow.Author.Tests.{ltb-false, eqb-false}
use lib.Dec.{ltb, eqb}
use lib.ListN.{length, take, drop, take-append-drop}
use lib.Seq.{length-take-le, drop-drop}
use Rattle.base_answers.specs.declared.err.Refusal.TheVariants.{CutShort}
use Rattle.base_answers.specs.Answers.{told, done}
use Rattle.base_answers.specs.Checks.{first_refusal}
use Rattle.base_answers.proofs.Passed.{Passing, both-pass, through, right}
use Rattle.base_samples.specs.Le.{le_at, le_bytes, Bytes}
use Rattle.base_samples.proofs.LeLaws.{le_at-take, le_bytes-at}
use Rattle.file_open.specs.declared.head.Head.{Head}
use Rattle.file_open.specs.declared.walk.Way.{Way}
use Rattle.file_open.specs.declared.walk.Way.TheVariants.{Went, Short, Wrong}
use Rattle.file_open.specs.Files.{old_count, new_count, is_count, count_by, common_of, rate_of, head_of, head_size, new_size, common_size, file_size}
use Rattle.file_open.specs.Walks.{walk_of}
use Rattle.file_open.specs.Opens.{head_in, rate_in, start_checks, field_checks, rate_checks, head_checks, way_in, way_checks, file_checks, whole_details, level_in, own_width}
use Rattle.file_open.proofs.Ways.{walk-size, walk-stops}
use Rattle.file_open.proofs.Opening.{which-count, start-count, start-passes, head-parts}
use Rattle.book_entries.specs.Books.{entry_size, point_by, size_by, is_head}
use Rattle.book_entries.specs.Checks.{whole_checks}

-- its first bytes are an entry for point p, and it has as many bytes as they say
pub record Whole (s : List ℕ) (p : ℕ) : Type 0 where
  pub entry : length (take entry_size s) ≡ entry_size
  pub head : is_head (take entry_size s) ≡ true
  pub point : point_by (take entry_size s) ≡ p
  pub size : length s ≡ size_by (take entry_size s)

-- what `head_in` reads is in the first 14 bytes
head_in-take : (s : List ℕ) → head_in (take entry_size s) ≡ head_in s
head_in-take s =
    let field : (k p : ℕ) → p + k ≤ entry_size → le_at k (take entry_size s) p ≡ le_at k s p = λ k p h. le_at-take k entry_size s p h in
    λ i. record {
      width = field 1 4 (omega arith) i;
      levels = field 1 5 (omega arith) i;
      samples = field 4 6 (omega arith) i;
      point = field 4 10 (omega arith) i;
      body = 4 + field 4 0 (omega arith) i;
    }

-- a number that stands at i, and what is behind it
number-back : (s : List ℕ) → Bytes s → (k i : ℕ) (t : List ℕ) → i + k ≤ length s → t ≡ drop (i + k) s → le_bytes k (le_at k s i) ++ t ≡ drop i s
number-back s bs k i t fits e = ap₂ ◌++◌ (le_bytes-at s bs k i fits) (e ∙ sym (drop-drop k i s)) ∙ take-append-drop k (drop i s)

-- bytes begin with what they say
pub common-back : (s : List ℕ) → Bytes s → common_size ≤ length s → let h = head_in s in common_of (le_at 4 s 0) h.width h.levels h.samples h.point ++ drop common_size s ≡ s
common-back s bs long =
    let field = number-back s bs in
    let point = field 4 10 (drop common_size s) (omega arith) refl in
    let samples = field 4 6 _ (omega arith) point in
    let levels = field 1 5 _ (omega arith) samples in
    let width = field 1 4 _ (omega arith) levels in
    let all = field 4 0 _ (omega arith) width in
    simp append_assoc all

-- the rate of a section 0 that passes, by its kind
rate-back : (s : List ℕ) → Bytes s → is_count (le_at 4 s 0) ≡ true → (head_in s).body ≤ length s → Passing (rate_checks s) → (count_by (rate_in s) ≡ le_at 4 s 0) × (rate_of (rate_in s) ++ drop (head_in s).body s ≡ drop common_size s)
rate-back s bs known long c =
    ⊎_elim
    (λ (e : le_at 4 s 0 ≡ old_count).
    let none : rate_in s ≡ 0 = ap (λ (n : ℕ). cond (eqb n new_count) (le_at 4 s common_size) 0) e in
    (ap count_by none ∙ sym e, ap₂ (λ (r n : ℕ). rate_of r ++ drop (4 + n) s) none e))
    (λ (e : le_at 4 s 0 ≡ new_count).
    let q = le_at 4 s common_size in
    let stored : rate_in s ≡ q = ap (λ (n : ℕ). cond (eqb n new_count) q 0) e in
    let some : eqb q 0 ≡ false = sym (ap₂ (λ (n r : ℕ). eqb n new_count && eqb r 0) e stored) ∙ c.0 in (
      ap count_by stored ∙ ap (λ (b : Bool). cond b old_count new_count) some ∙ sym e,
      ap₂ (λ (r n : ℕ). rate_of r ++ drop (4 + n) s) stored e ∙ ap (λ (b : Bool). cond b [] (le_bytes 4 q) ++ drop new_size s) some ∙ number-back s bs 4 common_size (drop new_size s) (omega arith) refl,
    ))
    (which-count (le_at 4 s 0) known)

-- section 0 is what it says
pub head-back : (s : List ℕ) → Bytes s → Passing (start_checks s) → Passing (rate_checks s) → let h = head_in s in head_of h.width h.levels h.samples h.point (rate_in s) ++ drop h.body s ≡ s
head-back s bs c q =
    let h = head_in s in
    let there = start-passes s c in
    let r = rate-back s bs (start-count s c) there.1 q in
    append_assoc (common_of (count_by (rate_in s)) h.width h.levels h.samples h.point) (rate_of (rate_in s)) (drop h.body s)
    ∙ ap₂ (λ (n : ℕ) (t : List ℕ). common_of n h.width h.levels h.samples h.point ++ t) r.0 r.1
    ∙ common-back s bs there.0

-- so it is as long as its rate says
pub size_back : (s : List ℕ) → Bytes s → Passing (start_checks s) → Passing (rate_checks s) → head_size (rate_in s) ≡ (head_in s).body
size_back s bs c q = ap (λ (n : ℕ). 4 + n) (rate-back s bs (start-count s c) (start-passes s c).1 q).0

-- only a walk over all sections gives level 0, and it ends where the file does
pub whole-went : (s : List ℕ) (k l n at : ℕ) (v : Way) → v ≡ walk_of s k l n at → at ≤ length s → Passing (way_checks v (length s)) → l - whole_details v l ≤ 0 → v ≡ Went (length s)
whole-went s k l n at (Went q) e h c z = let i = walk-size l s k n at q h (sym e) in ap Went (omega (arith, i.1, ltb-false q (length s) c.0))
whole-went s k l n at (Short j) e h c z =
    let i = walk-stops l s k n at j (Short j) h (sym e) refl in
    let two : 2 ≤ j = omega (arith, i.some, eqb-false j 1 c.0) in
    absurd (omega (arith, i.most))
whole-went s k l n at (Wrong j found) e h c z = absurd (let y : ◌≡◌ {A = ℕ} 0 1 = ap (λ b. cond b 0 1) c.0 in omega arith)

-- the fields of section 0 pass for their own width and point
own-fields : (h : Head) (w p : ℕ) → Passing (field_checks h w p) → done (first_refusal (field_checks h h.width h.point) (told 0 0)) ≡ true
own-fields h w p c =
    let ew : h.width ≡ w = right h.width w c.0 in
    let ep : h.point ≡ p = right h.point p c.1.1.1.1.1.1.0 in
    let own : Passing (field_checks h h.width h.point) = subst (λ (j : ℕ). Passing (field_checks h j h.point)) (sym ew) (subst (λ (j : ℕ). Passing (field_checks h w j)) (sym ep) c) in
    ap done (through (field_checks h h.width h.point) (told 0 0) own)

-- what passes is whole
pub whole-file : (s : List ℕ) (p : ℕ) → Passing (whole_checks s p) → Whole s p
whole-file s p c =
    let w = own_width s in
    let h = head_in s in
    let file = both-pass (file_checks s w p) ((ltb 0 (level_in s), CutShort (length s)) ∷ []) c in
    let parts = both-pass (head_checks s w p) (way_checks (way_in s h) (length s)) file.0 in
    let section = head-parts s w p parts.0 in
    let there = start-passes s section.0 in
    let e = take entry_size s in
    let count : is_count (le_at 4 e 0) ≡ true = ap is_count (le_at-take 4 entry_size s 0 (omega arith)) ∙ start-count s section.0 in
    let way = whole-went s h.width h.levels h.samples h.body (way_in s h) refl there.1 parts.1 (ltb-false 0 (level_in s) file.1.0) in
    let size : length s ≡ file_size h.body h.width h.levels h.samples = (walk-size h.levels s h.width h.samples h.body (length s) there.1 way).0 in
    record {
      entry = length-take-le entry_size s there.0;
      head = subst (λ (g : Head). (is_count (le_at 4 e 0) && done (first_refusal (field_checks g g.width g.point) (told 0 0))) ≡ true) (sym (head_in-take s))
          ((and-eq-true_iff (is_count (le_at 4 e 0)) _).1 (count, own-fields h w p section.1));
      point = ap (λ (g : Head). g.point) (head_in-take s) ∙ right h.point p section.1.1.1.1.1.1.1.0;
      size = size ∙ sym (ap (λ (g : Head). file_size g.body g.width g.levels g.samples) (head_in-take s));
    }
