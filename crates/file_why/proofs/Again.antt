-- A file t that has the numbers of a file s as far as its walk came: section 0 passes again, and the walk comes to the same section.
use mathlib.Core.Bool.{Bool, true, false, cond, not, ◌&&◌}
use mathlib.Core.List.{List, [], ◌∷◌, ◌++◌}
use mathlib.Core.Logic.{⊎_elim}
use mathlib.Core.Path.{◌≡◌, refl, sym, ap, ap₂, subst, ◌∙◌}
use Prim.Native.Nat.{ℕ, suc, ◌+◌, ◌-◌, ◌≤◌, ◌<◌}
use native.Mathlib.Omega.{arith}
use borrow.Author.Tests.{le-ltb, eqb-true}
use lib.Dec.{eqb}
use lib.ListN.{length}
use Rattle.base_answers.specs.declared.err.Refusal.TheVariants.{NoRate}
use Rattle.base_answers.proofs.Passed.{Passing, pass-both}
use Rattle.base_lengths.specs.Lengths.{approx_length}
use Rattle.base_lengths.specs.Levels.{after_levels, count_at}
use Rattle.base_lengths.proofs.Counts.{after_last}
use Rattle.base_samples.specs.Le.{le_at}
use Rattle.file_open.specs.declared.head.Head.{Head}
use Rattle.file_open.specs.declared.walk.Way.{Way}
use Rattle.file_open.specs.declared.walk.Way.TheVariants.{Went, Short}
use Rattle.file_open.specs.Files.{most_bytes, old_count, new_count, is_count, new_size, common_size}
use Rattle.file_open.specs.Walks.{one_of, walk_of}
use Rattle.file_open.specs.Opens.{head_in, is_new, rate_in, start_checks, field_checks, rate_checks, head_checks, way_in, samples_to, count_of}
use Rattle.file_open.proofs.Opening.{which-count, start-count, head-parts, head-passes}
use Rattle.file_open.proofs.Ways.{StopsIn, Stopped}
use Rattle.file_why.specs.Laws.{Agree}
use Rattle.file_why.specs.Reasons.{place_of}
use Rattle.file_why.proofs.Walking.{walk-stays, walk-later, walk-next, stop-same}
use Rattle.file_why.proofs.Places.{stand-is}
use Rattle.file_why.proofs.Says.{way-stops}

-- section 0 with a count that it can have is one of the two kinds
pub body-size : (s : List ℕ) → is_count (le_at 4 s 0) ≡ true → (common_size ≤ (head_in s).body) × ((head_in s).body ≤ new_size)
body-size s c = ⊎_elim (λ (e : le_at 4 s 0 ≡ old_count). (omega arith, omega arith)) (λ (e : le_at 4 s 0 ≡ new_count). (omega arith, omega arith)) (which-count (le_at 4 s 0) c)

pub common-body : (s : List ℕ) → Passing (start_checks s) → common_size ≤ (head_in s).body
common-body s q = (body-size s (start-count s q)).0

module _ (s t : List ℕ) (c : ℕ) (same : Agree s t c) where
  pub head-same : common_size ≤ c → head_in t ≡ head_in s
  head-same h = λ x. record {
    width = same 1 4 (omega arith) x;
    levels = same 1 5 (omega arith) x;
    samples = same 4 6 (omega arith) x;
    point = same 4 10 (omega arith) x;
    body = ap (λ n. 4 + n) (same 4 0 (omega arith)) x;
  }

  module _ (q : Passing (start_checks s)) (far : (head_in s).body ≤ c) where
    pub head-stays : head_in t ≡ head_in s
    head-stays = head-same (omega (arith, far, common-body s q))

    count-stays : le_at 4 t 0 ≡ le_at 4 s 0
    count-stays = same 4 0 (omega (arith, far, common-body s q))

    rate-same : rate_in t ≡ rate_in s
    rate-same = ap (λ n. cond (eqb n new_count) (le_at 4 t common_size) 0) count-stays ∙ pick (is_new s) refl
      where
        pick : (z : Bool) → is_new s ≡ z → cond z (le_at 4 t common_size) 0 ≡ cond z (le_at 4 s common_size) 0
        pick true e = same 4 common_size (omega (arith, far, eqb-true (le_at 4 s 0) new_count e))
        pick false e = refl

    pub rate-stays : rate_checks t ≡ rate_checks s
    rate-stays = ap₂ (λ n b. (eqb n new_count && eqb b 0, NoRate) ∷ []) count-stays rate-same

    -- the start passes again
    pub start-again : (head_in s).body ≤ length t → length t ≤ most_bytes → Passing (start_checks t)
    start-again long short = (
      le-ltb most_bytes (length t) short,
      (
        le-ltb (length t) 4 (omega (arith, common-body s q)),
        (ap (λ n. not (is_count n)) count-stays ∙ ap not (start-count s q), (le-ltb (length t) (head_in t).body (omega (arith, long, ap (λ (h : Head). h.body) head-stays)), tt)),
      ),
    )

  module _ (w p : ℕ) (k : Passing (head_checks s w p)) (far : (head_in s).body ≤ c) where
    parts : Passing (start_checks s) × Passing (field_checks (head_in s) w p) × Passing (rate_checks s)
    parts = head-parts s w p k

    head-is : head_in t ≡ head_in s
    head-is = head-stays parts.0 far

    -- section 0 passes again
    pub head-again : (head_in s).body ≤ length t → length t ≤ most_bytes → Passing (head_checks t w p)
    head-again long short =
        pass-both (start_checks t) (field_checks (head_in t) w p ++ rate_checks t) (start-again parts.0 far long short)
        (pass-both (field_checks (head_in t) w p) (rate_checks t) (subst (λ h. Passing (field_checks h w p)) (sym head-is) parts.1) (subst Passing (sym (rate-stays parts.0 far)) parts.2))

    -- the walk of s stops in section j
    module _ (j : ℕ) (v : Way) (e : way_in s (head_in s) ≡ v) (st : StopsIn j v) (near : place_of (head_in s) j ≤ c) (long : place_of (head_in s) j ≤ length t) where
      abbrev h : Head
      h = head_in s

      -- how this section is in t
      abbrev way_there : Way
      way_there = one_of t (head_in s).width (count_of (head_in s) j) j (place_of (head_in s) j)

      i : Stopped s h.width h.levels h.body j (samples_to h j) v
      i = way-stops s h (head-passes s w p k).there j v e st

      comes : walk_of t h.width (j - 1) (samples_to h j) h.body ≡ way_there
      comes =
          let at = stand-is h j i.some i.most in
          stop-same s t h.width h.levels h.body j (samples_to h j) v (head-passes s w p k).there i (λ x b. same 4 x (omega (arith, at, near))) (omega (arith, at, long))
          ∙ ap (λ x. one_of t h.width (count_of h j) j x) at

      levels : h.levels + 1 - j + (j - 1) ≡ h.levels
      levels = omega (arith, i.some, i.most)

      walk_is : way_in t (head_in t) ≡ walk_of t h.width (h.levels + 1 - j + (j - 1)) h.samples h.body
      walk_is = ap (λ h. way_in t h) head-is ∙ sym (ap (λ l. walk_of t h.width l h.samples h.body) levels)

      -- where it is the last and is there, the walk is there
      pub goes-there : (x : ℕ) → j ≡ h.levels + 1 → way_there ≡ Went x → way_in t (head_in t) ≡ Went x
      unfolding after_levels
      goes-there x last g =
          let none : h.levels + 1 - j ≡ 0 = omega arith in
          let all : h.levels ≡ j - 1 = omega arith in
          ap (λ h. way_in t h) head-is ∙ ap₂ (λ l n. walk_of t h.width l n h.body) all (sym (ap (λ d. count_at d h.samples) none)) ∙ comes ∙ g

      -- where it is there, and t ends, the next one is cut
      pub next-stops : j ≤ h.levels → way_there ≡ Went (length t) → way_in t (head_in t) ≡ Short (j + 1)
      next-stops below g =
          let n = h.samples in
          let d = h.levels - j in
          let up : h.levels + 1 - j ≡ suc d = omega arith in
          let back : suc (j - 1) ≡ j = omega (arith, i.some) in
          let all : d + j ≡ h.levels = omega arith in
          let here = ap (λ m. walk_of t h.width (j - 1) m h.body) (sym (ap (λ x. count_at x n) up ∙ after_last approx_length d n)) ∙ comes ∙ g in
          let next = subst (λ x. walk_of t h.width x (count_at d n) h.body ≡ Short (x + 1)) back (walk-next (j - 1) t h.width (count_at d n) h.body here) in
          ap (λ h. way_in t h) head-is
          ∙ sym (ap (λ l. walk_of t h.width l n h.body) all)
          ∙ walk-stays d j t h.width n h.body (j + 1) (subst (StopsIn (j + 1)) (sym next) refl)
          ∙ next

      -- where it stops, the walk stops there; where it is there, the walk stops later if at all
      pub stops-there : (u : Way) → way_there ≡ u → StopsIn j u → way_in t (head_in t) ≡ u
      stops-there u f g = walk_is ∙ walk-stays (h.levels + 1 - j) (j - 1) t h.width h.samples h.body j (subst (StopsIn j) (sym (comes ∙ f)) g) ∙ comes ∙ f

      pub stops-later : (x y : ℕ) → way_there ≡ Went x → StopsIn y (way_in t (head_in t)) → j < y
      stops-later x y g f =
          let z = walk-later (h.levels + 1 - j) (j - 1) t h.width h.samples h.body y x (comes ∙ g) (subst (StopsIn y) walk_is f) in
          omega (arith, z, i.some)
