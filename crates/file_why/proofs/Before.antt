-- "Everything before it passed", of the sections: where the reason names section j, from 1 on, section 0 passes and all sections before j are there, with their counts.
use mathlib.Core.Bool.{Bool, true, false, cond}
use mathlib.Core.List.{List}
use mathlib.Core.Logic.{◌⊎◌, inl, inr}
use mathlib.Core.Path.{◌≡◌, refl, sym, ap, subst, ◌∙◌}
use Prim.Native.Nat.{ℕ, suc, ◌+◌, ◌-◌, ◌≤◌, ◌<◌}
use native.Mathlib.Omega.{arith}
use lib.Dec.{eqb}
use lib.ListN.{length}
use Rattle.base_order.proofs.Order.{lt-or-le}
use Rattle.base_answers.proofs.Passed.{Passing}
use Rattle.base_lengths.specs.Lengths.{approx_length}
use Rattle.base_lengths.specs.Levels.{count_at}
use Rattle.base_lengths.proofs.Counts.{after_last}
use Rattle.base_samples.specs.Le.{le_at}
use Rattle.file_open.specs.declared.head.Head.{Head}
use Rattle.file_open.specs.declared.walk.Way.{Way}
use Rattle.file_open.specs.declared.walk.Way.TheVariants.{Went, Short, Wrong}
use Rattle.file_open.specs.Walks.{walk_of}
use Rattle.file_open.specs.Opens.{head_in, head_checks, way_in, samples_to, count_of}
use Rattle.file_open.proofs.Opening.{head-passes}
use Rattle.file_open.proofs.Ways.{StopsIn}
use Rattle.file_why.specs.declared.Reason.{Reason}
use Rattle.file_why.specs.Reasons.{nothing, end_of, place_of, cut_in, reason_of}
use Rattle.file_why.specs.Laws.{Sound}
use Rattle.file_why.proofs.Walking.{count-more, Has, walk-each}
use Rattle.file_why.proofs.Places.{end_is, samples-all, stand-is}
use Rattle.file_why.proofs.Says.{way-stops}
use Rattle.file_why.proofs.Cases.{reason-by}
use Rattle.file_why.proofs.Whole.{why-zeros}

module _ (s : List ℕ) (w p : ℕ) (k : Passing (head_checks s w p)) where
  abbrev h : Head
  h = head_in s

  -- from a walk over the first sections, the last of which restore n samples
  from : (j l n q : ℕ) → walk_of s h.width l n h.body ≡ Went q → j ≡ l + 1 → j ≤ h.levels + 1 → n ≡ samples_to h j → Sound s w p j
  from j l n q e ej most en = record { head = k; sections = λ i one low. each i one low }
    where
      each : (i : ℕ) → 1 ≤ i → i ≤ j → (le_at 4 s (place_of h i) ≡ count_of h i) × (end_of h i ≤ length s)
      each i one low =
          let m : count_at (l + 1 - i) n ≡ samples_to h i = ap (count_at (l + 1 - i)) en ∙ count-more (h.levels + 1 - j) (l + 1 - i) h.samples ∙ ap (λ d. count_at d h.samples) (omega arith) in
          let z = subst (λ m. Has s h.width h.body i m) m (walk-each l s h.width n h.body q (head-passes s w p k).there e i one (omega arith)) in
          let top : i ≤ h.levels + 1 = omega arith in
          (sym (ap (λ y. le_at 4 s y) (stand-is h i one top)) ∙ z.0, omega (arith, z.1, end_is h i one top))

  -- a walk that went on, and one that stopped
  all : (q : ℕ) → way_in s h ≡ Went q → Sound s w p (h.levels + 1)
  all q e = from (h.levels + 1) h.levels h.samples q e refl (omega arith) (sym (samples-all h))

  front : (j : ℕ) (v : Way) → way_in s h ≡ v → StopsIn j v → Sound s w p (j - 1)
  front j v e st = pick (lt-or-le j 2)
    where
      pick : (j < 2) ⊎ (2 ≤ j) → Sound s w p (j - 1)
      pick (inl low) = record { head = k; sections = λ i one most. absurd (omega arith) }
      pick (inr two) =
          let i = way-stops s h (head-passes s w p k).there j v e st in
          let a : h.levels + 1 - (j - 1) ≡ suc (h.levels + 1 - j) = omega (arith, i.most) in
          from (j - 1) (j - 2) (approx_length (samples_to h j)) _ (i.before two) (omega arith) (omega (arith, i.most)) (sym (ap (λ d. count_at d h.samples) a ∙ after_last approx_length (h.levels + 1 - j) h.samples))

-- ---- about the call

-- what is in front of section j: of bytes behind the file, which name the last section, that one too
abbrev Front : List ℕ → ℕ → ℕ → Reason → Type 0
Front s w p r = 1 ≤ r.section → Sound s w p (cond (eqb r.number 12) r.section (r.section - 1))

pub why-before : (s : List ℕ) (w p : ℕ) {r : Reason} → r ≡ reason_of s w p → 1 ≤ r.section → Sound s w p (cond (eqb r.number 12) r.section (r.section - 1))
why-before s w p why = subst (Front s w p) (sym why) every
  where
    cut : Passing (head_checks s w p) → (j : ℕ) → way_in s (head_in s) ≡ Short j → (b : Bool) → Front s w p (cut_in (head_in s) (length s) (cond b 10 0) j)
    cut k j e true one = front s w p k j (Short j) e refl
    cut k j e false one = front s w p k j (Short j) e refl

    every : Front s w p (reason_of s w p)
    every =
        reason-by s w p (Front s w p) (λ _ z. absurd (omega arith)) (λ _ z. absurd (omega arith)) (λ _ _ z. absurd (omega arith)) (λ _ _ _ z. absurd (omega arith))
        (λ _ r f z. absurd (omega (arith, z, f.section))) (λ k q e _ _. all s w p k q e) (λ _ _ z. absurd (omega arith)) (λ k j e. cut k j e (eqb j 1)) (λ k j found e _. front s w p k j (Wrong j found) e refl)

-- and of a whole file, all sections
pub whole_before : (s : List ℕ) (w p : ℕ) {r : Reason} → r ≡ reason_of s w p → r ≡ nothing → Sound s w p ((head_in s).levels + 1)
whole_before s w p why z = let e = (why-zeros s w p why z).0 in all s w p e.0 (length s) e.1
