-- What the samples are does not matter: two files as long as each other, with the same section 0 and the same counts, have the same reason.
use mathlib.Core.Bool.{true}
use mathlib.Core.List.{List, ◌++◌}
use mathlib.Core.Path.{◌≡◌, sym, ap, subst, ◌∙◌}
use Prim.Native.Nat.{ℕ, ◌+◌, ◌-◌, ◌≤◌}
use native.Mathlib.Omega.{arith}
use lib.ListN.{length}
use Rattle.base_answers.specs.Answers.{told}
use Rattle.base_answers.specs.Checks.{Check, first_refusal}
use Rattle.base_answers.proofs.Passed.{Passing, roomy}
use Rattle.base_lengths.specs.Levels.{count_at}
use Rattle.base_samples.specs.Le.{le_at}
use Rattle.file_open.specs.declared.head.Head.{Head}
use Rattle.file_open.specs.declared.walk.Way.{Way}
use Rattle.file_open.specs.Files.{most_bytes}
use Rattle.file_open.specs.Opens.{head_in, start_checks, field_checks, rate_checks, way_in, way_checks, whole_details}
use Rattle.file_open.proofs.Opening.{start-passes}
use Rattle.file_why.specs.declared.Reason.{Reason}
use Rattle.file_why.specs.Laws.{Alike}
use Rattle.file_why.specs.Reasons.{reason_by, reason_of}
use Rattle.file_why.proofs.Walking.{walk-alike}
use Rattle.file_why.proofs.Places.{stand-is}
use Rattle.file_why.proofs.Says.{reason-start}
use Rattle.file_why.proofs.Again.{head-stays, rate-stays, start-again}

module _ (s t : List ℕ) (w p : ℕ) (q : Passing (start_checks s)) (alike : Alike s t) where
  there : (head_in s).body ≤ length s
  there = (start-passes s q).1

  head-is : head_in t ≡ head_in s
  head-is = head-stays s t (head_in s).body alike.head q (omega arith)

  way-is : way_in t (head_in t) ≡ way_in s (head_in s)
  way-is =
      let h = head_in s in
      ap (λ h. way_in t h) head-is
      ∙ walk-alike h.levels s t h.width h.samples h.body alike.size there (λ i one most. subst (λ q. q + 4 ≤ length s → le_at 4 t q ≡ le_at 4 s q) (sym (stand-is h i one most)) (alike.counts i one most))

  -- the reason by all that is read
  abbrev by : Head → List Check → Way → ℕ → Reason
  by h rate v b =
      let level = h.levels - whole_details v h.levels in
      reason_by true h b (first_refusal (field_checks h w p ++ rate) (first_refusal (way_checks v b) (told level (count_at level h.samples))))

  unread : reason_of t w p ≡ reason_of s w p
  unread =
      let rate = rate-stays s t (head_in s).body alike.head q (omega arith) in
      let again = start-again s t (head_in s).body alike.head q (omega arith) (omega (arith, there, alike.size)) (omega (arith, alike.size, roomy most_bytes (length s) q.0)) in
      let all : by (head_in t) (rate_checks t) (way_in t (head_in t)) (length t) ≡ by (head_in s) (rate_checks s) (way_in s (head_in s)) (length s) = λ i. by (head-is i) (rate i) (way-is i) (alike.size i) in
      reason-start t w p again ∙ all ∙ sym (reason-start s w p q)

-- r is the reason of s, and m that of t
pub why-unread : (s t : List ℕ) (w p : ℕ) {r m : Reason} → r ≡ reason_of s w p → m ≡ reason_of t w p → Passing (start_checks s) → Alike s t → m ≡ r
why-unread s t w p er em q alike = em ∙ unread s t w p q alike ∙ sym er
