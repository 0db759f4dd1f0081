-- How the opener of before meets new files, whole or cut: it refuses them, and gives no sample. Each of the integer filters.
use mathlib.Core.Bool.{Bool, true, false, not}
use mathlib.Core.List.{List, ◌++◌}
use mathlib.Core.Logic.{⊎_elim}
use mathlib.Core.Path.{◌≡◌, refl, sym, ap, subst, ◌∙◌}
use Prim.Native.Nat.{ℕ, ◌/◌, ◌^◌, ◌≤◌, ◌<◌}
use native.Mathlib.Omega.{arith}
use borrow.Author.Tests.{lt-ltb, le-ltb}
use lib.ListN.{length, take}
use lib.Dec.{eqb}
use Rattle.std.specs.Prelude.{Err}
use Rattle.base_answers.specs.declared.err.Answer.{Answer}
use Rattle.base_answers.specs.declared.err.Refusal.TheVariants.{TooLong, BadCount, CutShort}
use Rattle.base_answers.specs.Answers.{Outcome, told, answer_of, done}
use Rattle.base_answers.specs.Checks.{Check, first_refusal}
use Rattle.base_answers.proofs.Chain.{by, stop}
use Rattle.base_answers.proofs.Endings.{is-done, left-refused, spared-refused}
use Rattle.base_answers.proofs.Passed.{off, passing, both-pass, pass_on}
use Rattle.base_order.proofs.Order.{lt-or-le}
use Rattle.base_lengths.specs.Levels.{levels_of}
use Rattle.base_samples.specs.Le.{le_at, Bytes}
use Rattle.levels_filter.specs.declared.filter.Filter.{Filter}
use Rattle.levels_filter.specs.Filters.{width_of, Integers}
use Rattle.file_open.specs.Files.{new_count, new_size, file_of, file_size}
use Rattle.file_open.specs.Opens.{area_checks, WholeAreas, way_in, way_checks, field_checks, rooms_for}
use Rattle.file_open.specs.Writes.{say_write, Write}
use Rattle.file_open.proofs.Opening.{whole-areas-pass}
use Rattle.file_open.proofs.Writing.{new-kind, write-ready}
use Rattle.law_cuts.proofs.Filed.{cut-length}
use Rattle.law_cuts.proofs.WrittenHead.{count-read}
use Rattle.law_cuts.proofs.Kept.{recorded, written, front-in}
use Rattle.law_old_opener.specs.Openers.{most_before, head_before, start_before, level_before, count_before, say_before, OpenBefore, Met}

-- c bytes that begin with the count 14, as far as they go
module _ (s : List ℕ) (c : ℕ) (size : length s ≡ c) (count : 4 ≤ c → le_at 4 s 0 ≡ new_count) (m : List Check) (e : Outcome) where
  -- whatever is checked after the start, it is not reached
  over : most_before < c → first_refusal (start_before s ++ m) e ≡ Err TooLong
  over h = sym (stop _ (lt-ltb most_before (length s) (omega arith)) refl)

  under : c < 14 → first_refusal (start_before s ++ m) e ≡ Err (CutShort c)
  under h = sym (by _ (le-ltb most_before (length s) (omega arith)) (stop _ (lt-ltb (length s) 14 (omega arith)) (ap (λ (n : ℕ). Err (CutShort n)) (sym size))))

  wrong : 14 ≤ c → c ≤ most_before → first_refusal (start_before s ++ m) e ≡ Err (BadCount 0 new_count)
  wrong a b =
      let n = count (omega arith) in
      sym (by _ (le-ltb most_before (length s) (omega arith)) (by _ (le-ltb (length s) 14 (omega arith)) (stop _ (ap (λ (q : ℕ). not (eqb q 10)) n) (ap (λ (n : ℕ). Err (BadCount 0 n)) (sym n)))))

  -- so it is refused
  never : done (first_refusal (start_before s ++ m) e) ≡ false
  never =
      ⊎_elim (λ (h : most_before < c). ap done (over h))
      (λ (h : c ≤ most_before). ⊎_elim (λ (g : c < 14). ap done (under g)) (λ (g : 14 ≤ c). ap done (wrong g h)) (lt-or-le c 14))
      (lt-or-le most_before c)

-- a list that refuses does so behind any part
refused-past : (l m : List Check) (e : Outcome) → done (first_refusal m e) ≡ false → done (first_refusal (l ++ m) e) ≡ false
refused-past l m e h = pick (done (first_refusal (l ++ m) e)) refl
  where
    pick : (b : Bool) → done (first_refusal (l ++ m) e) ≡ b → b ≡ false
    pick true q = off h (ap done (sym (pass_on l m e (both-pass l m (passing (l ++ m) e q)).0)) ∙ q)
    pick false q = refl

-- the opener's answer to any c bytes that begin with the count 14, as far as they go: whoever wrote them, and whatever is behind
pub old-meets : (s : List ℕ) (c : ℕ) → length s ≡ c → (4 ≤ c → le_at 4 s 0 ≡ new_count) → (w q : ℕ) (o g h : List ℕ) (r : Answer) (o' g' h' : List ℕ) → OpenBefore s w q o g h r o' g' h' → Met c w o g h r o' g' h'
unfolding say_before
old-meets s c size count w q o g h r o' g' h' call =
    let k = head_before s in
    let areas = area_checks w (length o) (length g) (length h) in
    let end = told (level_before s) (count_before s) in
    let said = say_before s w q (length o) (length g) (length h) in
    let rest = (field_checks k w q ++ way_checks (way_in s k) (length s)) ++ rooms_for w (count_before s) (length o) (length g) (length h) in
    let start = start_before s ++ rest in
    let past : WholeAreas w (length o) (length g) (length h) → said ≡ first_refusal start end = λ a. pass_on areas start end (whole-areas-pass w (length o) (length g) (length h) a) in
    let no : done said ≡ false = refused-past areas start end (never s c size count rest end) in
    record {
      nine = λ a u v. call.answer ∙ ap answer_of (past a ∙ wrong s c size count rest end u v);
      ten = λ a u. call.answer ∙ ap answer_of (past a ∙ under s c size count rest end u);
      six = λ a u. call.answer ∙ ap answer_of (past a ∙ over s c size count rest end u);
      refused = λ z. off no (is-done said r call.answer z);
      output = call.output ∙ left-refused said _ o no;
      first = spared-refused said _ g g' no call.first;
      second = spared-refused said _ h h' no call.second;
    }

-- the theorem about the calls: what a done write left, cut to c bytes, and any opening of it by the opener of before
pub old-meets-new : (f : Filter) (l p rate : ℕ) (x : List ℕ) → Integers f → Bytes x → p < 2 ^ 32 → rate < 2 ^ 32 → (b u v : List ℕ) (a : Answer) (b' u' v' : List ℕ)
    → Write f l p rate x b u v a b' u' v' → a.number ≡ 0
    → (c : ℕ) → c ≤ file_size new_size (width_of f) (levels_of l) (length x / width_of f)
    → (w q : ℕ) (o g h : List ℕ) (r : Answer) (o' g' h' : List ℕ) → OpenBefore (take c b') w q o g h r o' g' h' → Met c w o g h r o' g' h'
old-meets-new f l p rate x i bx hp hr b u v a b' u' v' w z c e k q o g h r o' g' h' call =
    let s = take c (file_of f (levels_of l) p rate x) in
    let d = is-done (say_write f l rate (length x) (length b) (length u) (length v)) a w.answer z in
    let file = recorded f l p rate x (length b) (length u) (length v) i bx hp d in
    let some = (write-ready f l rate (length x) (length b) (length u) (length v) d).rate in
    let front = front-in f l p rate x i bx hp hr b u v a b' u' v' w z c e in
    let size = cut-length (written f l p rate x i bx hp hr b u v a b' u' v' w z) c e in
    old-meets s c size (λ n. count-read file hr c n ∙ (new-kind rate some).count) k q o g h r o' g' h' (subst (λ (t : List ℕ). OpenBefore t k q o g h r o' g' h') front call)
