-- Demand 3 for a file taken from the book, of either kind: a file of a recording is taken, and each front of what finding names opens as each front of it; so of what was
-- written.
use mathlib.Core.Bool.{Bool, true, cond}
use mathlib.Core.List.{List, [], ◌∷◌}
use mathlib.Core.Path.{◌≡◌, sym, ap, ap₂, subst, ◌∙◌}
use Prim.Native.Nat.{ℕ, ◌/◌, ◌^◌, ◌≤◌, ◌<◌}
use native.Mathlib.Omega.{arith}
use borrow.Author.Tests.{le-ltb}
use lib.Dec.{ltb}
use lib.ListN.{length, take, drop}
use lib.Seq.{take_all}
use Rattle.base_answers.specs.declared.err.Answer.{Answer}
use Rattle.base_answers.specs.declared.err.Refusal.TheVariants.{CutShort}
use Rattle.base_answers.specs.Answers.{Outcome, told, answer_of}
use Rattle.base_answers.proofs.Passed.{Passing, pass-both}
use Rattle.base_lengths.specs.Levels.{levels_of}
use Rattle.base_samples.specs.Le.{Bytes}
use Rattle.levels_filter.specs.declared.filter.Filter.{Filter}
use Rattle.levels_filter.specs.Filters.{width_of, Integers}
use Rattle.file_open.specs.declared.head.Head.{Head}
use Rattle.file_open.specs.Files.{new_size, common_size, file_of, file_size}
use Rattle.file_open.specs.Writes.{Write}
use Rattle.file_open.specs.Opens.{head_in, head_checks, file_checks, level_in, own_width}
use Rattle.file_open.proofs.Opening.{head-passes}
use Rattle.law_cuts.specs.Sees.{needed, Openings}
use Rattle.law_cuts.proofs.Filed.{Filed, all-length}
use Rattle.law_cuts.proofs.Whole.{first-most}
use Rattle.law_cuts.proofs.Survives.{level-is, file-passes}
use Rattle.law_cuts.proofs.Answers.{all_whole}
use Rattle.law_cuts.proofs.Opened.{openings}
use Rattle.law_cuts.proofs.Kept.{written, file-in}
use Rattle.book_entries.specs.Checks.{whole_checks, say_find}
use Rattle.book_calls.specs.Calls.{Add}
use Rattle.law_book.specs.PlainMap.{Standing, Finds, AllSpare, BookCall, Ran, AllLent, Map, has, file_for, place_for, Shows}
use Rattle.law_book.proofs.FileBytes.{file-bytes}
use Rattle.law_book.proofs.Found.{added-found}
use Rattle.law_book.proofs.Others.{others-stay}

-- a file of a recording is whole, and passes for its own width and its point
module _ {f : Filter} {l n p : ℕ} {x s : List ℕ} {z : ℕ} (d : Filed z f l n p x s) where
  abbrev k : ℕ
  k = width_of f

  abbrev size : ℕ
  size = file_size z k l n

  all : take size s ≡ s
  all = take_all size s (omega (arith, all-length d))

  most : needed z k l n ≤ size
  most = omega (arith, first-most k l n)

  pub own-width : own_width s ≡ k
  unfolding own_width
  own-width =
      ap (λ (t : Bool). cond t 1 (head_in s).width) (le-ltb (length s) common_size (head-passes s k p (subst (λ (t : List ℕ). Passing (head_checks t k p)) all (d.passes size (omega arith) (omega arith)))).common)
      ∙ ap (λ (t : List ℕ). (head_in t).width) (sym all) ∙ ap (λ (h : Head). h.width) (d.head size (omega arith))

  level-none : level_in s ≡ 0
  level-none = ap level_in (sym all) ∙ level-is d size most (omega arith) ∙ omega (arith, all_whole z k l n)

  pub filed-taken : Passing (whole_checks s p)
  filed-taken =
      pass-both (file_checks s (own_width s) p) ((ltb 0 (level_in s), CutShort (length s)) ∷ [])
      (subst (λ (w : ℕ). Passing (file_checks s w p)) (sym own-width) (subst (λ (t : List ℕ). Passing (file_checks t k p)) all (file-passes d size most (omega arith))))
      (le-ltb 0 (level_in s) (omega (arith, level-none)), tt)

-- a file s of a recording, of either kind
module _ {f : Filter} {l n p : ℕ} {x s : List ℕ} {z : ℕ} (d : Filed z f l n p x s) where
  -- where finding names it, every front of what it names opens as `Openings` says
  found-opens : (b : List ℕ) (m : Finds b p s) → Openings z f l n p x (take (length s) (drop m.place b))
  found-opens b m = subst (Openings z f l n p x) (sym m.there) (openings d)

  -- so it does from any area that shows a map with it
  pub taken-opens : (b : List ℕ) (m : ℕ) (hs : Map) → Shows b m hs → has p hs ≡ true → file_for p hs ≡ s
      → (place len : ℕ) → say_find b p ≡ told place len → Openings z f l n p x (take len (drop place b))
  taken-opens b m hs shows held file place len says =
      let named = shows.present p held in
      let found : Finds b p (file_for p hs) = record { place = place_for p hs; says = named.0; there = named.1 } in
      let here : Finds b p s = subst (Finds b p) file found in
      let same = sym here.says ∙ says in
      subst (Openings z f l n p x)
      (ap₂ (λ (c q : ℕ). take c (drop q b)) (ap (λ (s : Outcome). (answer_of s).second) same) (ap (λ (s : Outcome). (answer_of s).first) same)) (found-opens b here)

  -- and from the book to which it was added, whatever was called since for other points: finding is done, and gives the file's size
  pub kept-opens : Bytes s → (b : List ℕ) → Standing b → (r : Answer) (b₁ : List ℕ) → Add b p s r b₁ → r.number ≡ 0
      → (cs : List BookCall) → AllSpare p cs → AllLent cs → (rs : List Answer) (b' : List ℕ) → Ran b₁ cs rs b'
      → (place : ℕ) × (say_find b' p ≡ told place (length s)) × Openings z f l n p x (take (length s) (drop place b'))
  kept-opens bytes b st r b₁ add done cs spare lent rs b' ran =
      let added = added-found b st p s bytes r b₁ add done in
      let found = others-stay b₁ added.0 p s added.1 cs spare lent rs b' ran in
      (found.place, found.says, found-opens b' found)

-- a done write: f, l, p, the rate and x are what it was given, and fb' is the file area that it left
module _ (f : Filter) (l p rate : ℕ) (x : List ℕ) (i : Integers f) (bx : Bytes x) (hp : p < 2 ^ 32) (hr : rate < 2 ^ 32) (fb u v : List ℕ) (a : Answer) (fb' u' v' : List ℕ)
    (w : Write f l p rate x fb u v a fb' u' v') (z : a.number ≡ 0) where
  abbrev file : List ℕ
  file = take (file_size new_size (width_of f) (levels_of l) (length x / width_of f)) fb'

  file-is : file ≡ file_of f (levels_of l) p rate x
  file-is = file-in f l p rate x i bx hp hr fb u v a fb' u' v' w z

  -- what it wrote is a file of the recording, and bytes
  pub written-filed : Filed new_size f (levels_of l) (length x / width_of f) p x file
  written-filed = subst (Filed new_size f (levels_of l) (length x / width_of f) p x) (sym file-is) (written f l p rate x i bx hp hr fb u v a fb' u' v' w z)

  written-bytes : Bytes file
  written-bytes = subst Bytes (sym file-is) (file-bytes f i (levels_of l) p rate x bx)

  -- and whole, for its point, so adding it is refused with 15 or 14 only: `whole-answers`
  pub written-taken : Passing (whole_checks file p)
  written-taken = filed-taken written-filed

  -- so it stays in a book, and opens from there
  pub written-opens : (b : List ℕ) → Standing b → (r : Answer) (b₁ : List ℕ) → Add b p file r b₁ → r.number ≡ 0
      → (cs : List BookCall) → AllSpare p cs → AllLent cs → (rs : List Answer) (b' : List ℕ) → Ran b₁ cs rs b'
      → (place : ℕ) × (say_find b' p ≡ told place (length file)) × Openings new_size f (levels_of l) (length x / width_of f) p x (take (length file) (drop place b'))
  written-opens = kept-opens written-filed written-bytes
