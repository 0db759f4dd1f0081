-- "A whole file is all zeros": the file of a recording, for a rate or of the old kind, has such a reason, and a file that has one is the file of the samples which it opens as
-- and of its rate, whoever wrote it. The file checks of a book pass for these and no others; a book may still be full, or hold the point.
use mathlib.Core.Bool.{Bool, cond}
use mathlib.Core.List.{List, [], ◌∷◌}
use mathlib.Core.Path.{◌≡◌, refl, sym, ap, subst, ◌∙◌}
use Prim.Native.Nat.{ℕ, ◌/◌, ◌^◌, ◌<◌}
use native.Mathlib.Omega.{arith}
use borrow.Author.Tests.{ltb-false, le-ltb}
use lib.Dec.{ltb}
use lib.ListN.{length, take}
use Rattle.base_answers.specs.declared.err.Answer.{Answer}
use Rattle.base_answers.specs.declared.err.Refusal.TheVariants.{CutShort}
use Rattle.base_answers.proofs.Passed.{Passing, both-pass, pass-both}
use Rattle.base_lengths.specs.Levels.{levels_of}
use Rattle.base_samples.specs.Le.{Bytes}
use Rattle.levels_filter.specs.declared.filter.Filter.{Filter}
use Rattle.levels_filter.specs.Filters.{width_of, Integers}
use Rattle.file_open.specs.declared.walk.Way.{Way}
use Rattle.file_open.specs.Files.{common_size, new_size, file_of, file_size}
use Rattle.file_open.specs.Writes.{Write}
use Rattle.file_open.specs.Opens.{filter_of, head_in, head_checks, way_in, way_checks, file_checks, level_in, rate_in, samples_in, own_width}
use Rattle.file_open.proofs.Opening.{head-passes}
use Rattle.law_cuts.proofs.Filed.{Recording}
use Rattle.law_cuts.proofs.WrittenHead.{filed}
use Rattle.book_entries.specs.Checks.{whole_checks}
use Rattle.file_why.specs.declared.Reason.{Reason}
use Rattle.file_why.specs.Reasons.{nothing, reason_of}
use Rattle.file_why.proofs.Whole.{why-zeros, zeros-why}
use Rattle.law_book.proofs.WholeFile.{whole-went}
use Rattle.law_book.proofs.WholeWritten.{whole-recording, whole-written}
use Rattle.law_book.proofs.TakenOpens.{own-width, filed-taken, written-filed}

-- r is the reason of s, asked for with width w and point p
module _ (s : List ℕ) (w p : ℕ) {r : Reason} (why : r ≡ reason_of s w p) where
  -- zeros: the width asked is the file's own, and a book's checks of the file pass
  pub zeros-own : r ≡ nothing → own_width s ≡ w
  unfolding own_width
  zeros-own z =
      let h = head-passes s w p (why-zeros s w p why z).0.0 in
      ap (λ (t : Bool). cond t 1 (head_in s).width) (le-ltb (length s) common_size h.common) ∙ h.width

  pub zeros-taken : r ≡ nothing → Passing (whole_checks s p)
  zeros-taken z =
      let e = why-zeros s w p why z in
      let way : Passing (way_checks (way_in s (head_in s)) (length s)) = subst (λ (v : Way). Passing (way_checks v (length s))) (sym e.0.1) (le-ltb (length s) (length s) (omega arith), tt) in
      pass-both (file_checks s (own_width s) p) ((ltb 0 (level_in s), CutShort (length s)) ∷ [])
      (subst (λ (k : ℕ). Passing (file_checks s k p)) (sym (zeros-own z)) (pass-both (head_checks s w p) (way_checks (way_in s (head_in s)) (length s)) e.0.0 way))
      (le-ltb 0 (level_in s) (omega (arith, e.1)), tt)

  -- and the other way
  pub taken-zeros : own_width s ≡ w → Passing (whole_checks s p) → r ≡ nothing
  taken-zeros own c =
      let whole = both-pass (file_checks s (own_width s) p) ((ltb 0 (level_in s), CutShort (length s)) ∷ []) c in
      let parts = both-pass (head_checks s (own_width s) p) (way_checks (way_in s (head_in s)) (length s)) whole.0 in
      let h = head_in s in
      let there = (head-passes s (own_width s) p parts.0).there in
      zeros-why s w p why
      (subst (λ (k : ℕ). Passing (head_checks s k p)) own parts.0, whole-went s h.width h.levels h.samples h.body (way_in s h) refl there parts.1 (ltb-false 0 (level_in s) whole.1.0))

  -- so the file is that of the samples which it opens as, for its rate, 0 for an old one
  pub zeros-written : Bytes s → r ≡ nothing
      → Recording (filter_of w) (head_in s).levels (head_in s).samples p (samples_in s) × (s ≡ file_of (filter_of w) (head_in s).levels p (rate_in s) (samples_in s))
  zeros-written bytes z =
      let c = zeros-taken z in
      let h = head_in s in
      subst (λ (k : ℕ). Recording (filter_of k) h.levels h.samples p (samples_in s) × (s ≡ file_of (filter_of k) h.levels p (rate_in s) (samples_in s)))
      (head-passes s w p (why-zeros s w p why z).0.0).width (whole-recording s p bytes c, whole-written s p bytes c)

-- the file of a recording, for a rate or of the old kind
pub written-zeros : {f : Filter} {l n p : ℕ} {x : List ℕ} → Recording f l n p x → (rate : ℕ) → rate < 2 ^ 32 → {r : Reason} → r ≡ reason_of (file_of f l p rate x) (width_of f) p → r ≡ nothing
written-zeros {f} {l} {n} {p} {x} d rate hr why = let m = filed d hr in taken-zeros (file_of f l p rate x) (width_of f) p why (own-width m) (filed-taken m)

-- what a done write left in front of its file area
pub write-zeros : (f : Filter) (l p rate : ℕ) (x : List ℕ) → Integers f → Bytes x → p < 2 ^ 32 → rate < 2 ^ 32 → (fb u v : List ℕ) (a : Answer) (fb' u' v' : List ℕ)
    → Write f l p rate x fb u v a fb' u' v' → a.number ≡ 0
    → let file = take (file_size new_size (width_of f) (levels_of l) (length x / width_of f)) fb' in (r : Reason) → r ≡ reason_of file (width_of f) p → r ≡ nothing
write-zeros f l p rate x i bx hp hr fb u v a fb' u' v' w z r why =
    let m = written-filed f l p rate x i bx hp hr fb u v a fb' u' v' w z in
    taken-zeros (take (file_size new_size (width_of f) (levels_of l) (length x / width_of f)) fb') (width_of f) p why (own-width m) (filed-taken m)
