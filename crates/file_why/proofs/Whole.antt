-- "A whole file is all zeros", and nothing else is; and an accepted cut tells the level that opening gives.
use mathlib.Core.Bool.{Bool, true, false, cond}
use mathlib.Core.List.{List}
use mathlib.Core.Logic.{◌⊎◌, inl, inr}
use mathlib.Core.Path.{◌≡◌, refl, sym, ap, subst, ◌∙◌}
use Prim.Native.Nat.{ℕ, ◌+◌, ◌-◌, ◌≤◌, ◌<◌}
use native.Mathlib.Omega.{arith}
use borrow.Author.Tests.{eq-eqb, eqb-false, ne_eqb}
use lib.Dec.{eqb}
use lib.ListN.{length, take}
use lib.Seq.{length-take-le}
use Rattle.base_answers.specs.declared.err.Answer.{Answer}
use Rattle.base_answers.proofs.Passed.{Passing, roomy}
use Rattle.base_samples.proofs.LeLaws.{le_at-take}
use Rattle.file_open.specs.declared.open.OpenAnswer.{OpenAnswer}
use Rattle.file_open.specs.declared.walk.Way.{Way}
use Rattle.file_open.specs.declared.walk.Way.TheVariants.{Went, Short}
use Rattle.file_open.specs.Files.{most_bytes}
use Rattle.file_open.specs.Opens.{head_in, head_checks, way_in, whole_details, level_in, WholeAreas, OpenGives}
use Rattle.file_open.proofs.Opening.{head-parts, head-passes}
use Rattle.file_why.specs.declared.Reason.{Reason}
use Rattle.file_why.specs.Laws.{Agree, Room, Ended}
use Rattle.file_why.specs.Reasons.{nothing, end_of, cut_in, reason_of}
use Rattle.file_why.proofs.Walking.{walk_same}
use Rattle.file_why.proofs.Says.{way-stops, way-ends}
use Rattle.file_why.proofs.Cases.{no_field, no_cut, reason-whole, reason-by}
use Rattle.file_why.proofs.Opener.{why-opens}
use Rattle.file_why.proofs.Again.{common-body, head-same, head-again}

module _ (s : List ℕ) (w p : ℕ) where
  -- a file that is accepted: all of it is there, or it is cut in section j and opens at level L + 2 - j
  abbrev Accepted : Reason → Type 0
  Accepted r =
      ((r ≡ nothing) × Ended s w p × (level_in s ≡ 0))
      ⊎ ((2 ≤ r.section) × (r.section ≤ (head_in s).levels + 1) × (level_in s ≡ (head_in s).levels + 2 - r.section))

  level-is : (v : Way) → way_in s (head_in s) ≡ v → level_in s ≡ (head_in s).levels - whole_details v (head_in s).levels
  level-is v e = ap (λ u. (head_in s).levels - whole_details u (head_in s).levels) e

  accepted : (reason_of s w p).number ≡ 0 → Accepted (reason_of s w p)
  accepted =
      reason-by s w p (λ r. r.number ≡ 0 → Accepted r) (λ _ z. absurd (omega arith)) (λ _ z. absurd (omega arith)) (λ _ _ z. absurd (omega arith)) (λ _ _ _ z. absurd (omega arith))
      (λ _ r f. no_field 0 f refl) (λ _ _ _ _ z. absurd (omega arith)) (λ k e _. inl (refl, (k, e), level-is (Went (length s)) e ∙ omega arith))
      (λ k j e. cut k j e (eqb j 1) refl) (λ _ _ _ _ z. absurd (omega arith))
    where
      cut : Passing (head_checks s w p) → (j : ℕ) → way_in s (head_in s) ≡ Short j → (b : Bool) → eqb j 1 ≡ b → ◌≡◌ {A = ℕ} (cond b 10 0) 0 → Accepted (cut_in (head_in s) (length s) (cond b 10 0) j)
      cut k j e true g z = absurd (omega arith)
      cut k j e false g z =
          let i = way-stops s (head_in s) (head-passes s w p k).there j (Short j) e refl in
          let two : 2 ≤ j = omega (arith, i.some, eqb-false j 1 g) in
          inr (two, i.most, level-is (Short j) e ∙ omega (arith, two, i.most))

-- ---- bytes behind the file

module _ (s : List ℕ) (w p : ℕ) (k : Passing (head_checks s w p)) (q : ℕ) (e : way_in s (head_in s) ≡ Went q) where
  -- the bytes up to where the last section ends are a whole file
  trimmed : reason_of (take q s) w p ≡ nothing
  trimmed =
      let h = head_in s in
      let ends = way-ends s h (head-passes s w p k).there q e in
      let t = take q s in
      let far = ends.1 in
      let long : length t ≡ q = length-take-le q s ends.2 in
      let same : Agree s t q = λ n i b. le_at-take n q s i b in
      let head = head-same s t q same (omega (arith, far, common-body s (head-parts s w p k).0)) in
      let short = roomy most_bytes (length s) (head-parts s w p k).0.0 in
      let again = head-again s t q same w p k far (omega (arith, far, long)) (omega (arith, long, ends.2, short)) in
      reason-whole t w p again
      (ap (λ h. way_in t h) head
      ∙ walk_same h.levels s t h.width h.samples h.body q (head-passes s w p k).there e (λ i b. same 4 i b) (omega (arith, long))
      ∙ ap (λ i. Went i) (sym long))

-- ---- about the call

module _ (s : List ℕ) (w p : ℕ) {r : Reason} (why : r ≡ reason_of s w p) where
  accepts : r.number ≡ 0 → Accepted s w p r
  accepts z = subst (Accepted s w p) (sym why) (accepted s w p (sym (ap (λ (r : Reason). r.number) why) ∙ z))

  -- all zeros: the file is whole, and opens at level 0
  pub why-zeros : r ≡ nothing → Ended s w p × (level_in s ≡ 0)
  why-zeros e = pick (accepts (ap (λ (r : Reason). r.number) e))
    where
      pick : Accepted s w p r → Ended s w p × (level_in s ≡ 0)
      pick (inl a) = (a.1, a.2)
      pick (inr a) = absurd (omega (arith, a.0, ap (λ (r : Reason). r.section) e))

  -- and a whole file is all zeros
  pub zeros-why : Ended s w p → r ≡ nothing
  zeros-why e = why ∙ reason-whole s w p e.0 e.1

  -- so the number 0 and section 0 are enough to tell one
  pub why-none : r.number ≡ 0 → r.section ≡ 0 → r ≡ nothing
  why-none z none = pick (accepts z)
    where
      pick : Accepted s w p r → r ≡ nothing
      pick (inl a) = a.0
      pick (inr a) = absurd (omega (arith, a.0, none))

  -- an accepted cut is in section 2 or a later one, and its level is L + 2 less the section: the last section gives level 1
  pub why-level : r.number ≡ 0 → 1 ≤ r.section → (2 ≤ r.section) × (r.section ≤ (head_in s).levels + 1) × (level_in s ≡ (head_in s).levels + 2 - r.section)
  why-level z one = pick (accepts z)
    where
      pick : Accepted s w p r → (2 ≤ r.section) × (r.section ≤ (head_in s).levels + 1) × (level_in s ≡ (head_in s).levels + 2 - r.section)
      pick (inl a) = absurd (omega (arith, one, ap (λ (r : Reason). r.section) a.0))
      pick (inr a) = a

-- so opening, with areas of whole samples and room, gives level 0 of a whole file, and of a cut one L + 2 less the section
pub why-opened : (s : List ℕ) (w p : ℕ) {r : Reason} → r ≡ reason_of s w p → (o u v : List ℕ) (a : OpenAnswer) (o' u' v' : List ℕ) → OpenGives s w p o u v a o' u' v'
    → WholeAreas w (length o) (length u) (length v) → Room s w (length o) (length u) (length v) → r.number ≡ 0 → a.answer.first ≡ cond (eqb r.section 0) 0 ((head_in s).levels + 2 - r.section)
why-opened s w p {r} why o u v a o' u' v' opens whole room z = ap (λ (a : Answer). a.first) (why-opens s w p why opens whole z room) ∙ pick (accepts s w p why z)
  where
    pick : Accepted s w p r → level_in s ≡ cond (eqb r.section 0) 0 ((head_in s).levels + 2 - r.section)
    pick (inl a) = a.2 ∙ sym (ap (λ b. cond b 0 ((head_in s).levels + 2 - r.section)) (eq-eqb r.section 0 (ap (λ (r : Reason). r.section) a.0)))
    pick (inr a) = a.2 ∙ sym (ap (λ b. cond b 0 ((head_in s).levels + 2 - r.section)) (ne_eqb r.section 0 (λ n. omega (arith, a.0))))

-- ---- bytes behind it

-- 12: the place is in the file, which is too long by the bytes from there on, and the bytes in front of it are a whole file
abbrev Trimmed : List ℕ → ℕ → ℕ → Reason → Type 0
Trimmed s w p r = (r.place < length s) × (r.wanted ≡ r.place) × (r.found ≡ length s) × (reason_of (take r.place s) w p ≡ nothing)

pub why-trimmed : (s : List ℕ) (w p : ℕ) {r : Reason} → r ≡ reason_of s w p → r.number ≡ 12 → (r.place < length s) × (r.wanted ≡ r.place) × (r.found ≡ length s) × (reason_of (take r.place s) w p ≡ nothing)
why-trimmed s w p why = subst (λ r. r.number ≡ 12 → Trimmed s w p r) (sym why) all
  where
    here : Passing (head_checks s w p) → (q : ℕ) → way_in s (head_in s) ≡ Went q → q < length s → let i = end_of (head_in s) ((head_in s).levels + 1) in (i < length s) × (reason_of (take i s) w p ≡ nothing)
    here k q e less = subst (λ i. (i < length s) × (reason_of (take i s) w p ≡ nothing)) (way-ends s (head_in s) (head-passes s w p k).there q e).0 (less, trimmed s w p k q e)

    all : (reason_of s w p).number ≡ 12 → Trimmed s w p (reason_of s w p)
    all =
        reason-by s w p (λ r. r.number ≡ 12 → Trimmed s w p r) (λ _ z. absurd (omega arith)) (λ _ z. absurd (omega arith)) (λ _ _ z. absurd (omega arith)) (λ _ _ _ z. absurd (omega arith))
        (λ _ r f. no_field 12 f refl) (λ k q e less _. let z = here k q e less in (z.0, refl, refl, z.1)) (λ _ _ z. absurd (omega arith)) (λ _ j _. no_cut j 12 refl) (λ _ _ _ _ z. absurd (omega arith))
