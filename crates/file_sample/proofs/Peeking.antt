-- What is said of one sample, by what is said of the file: its refusal, 13 past its count, or done; and where it is done, the sections that hold the sample.
use mathlib.Core.Bool.{true, false}
use mathlib.Core.List.{List, [], ◌∷◌}
use mathlib.Core.Path.{◌≡◌, sym, ap, ◌∙◌}
use Prim.Native.Nat.{ℕ, ◌-◌, ◌^◌, ◌≤◌, ◌<◌}
use native.Mathlib.Omega.{arith}
use borrow.Author.Tests.{lt-ltb, le-ltb}
use lib.IntN.{pos}
use lib.ListN.{length}
use Rattle.std.specs.Prelude.{Ok, Err}
use Rattle.base_answers.specs.declared.err.Refusal.{Refusal}
use Rattle.base_answers.specs.declared.err.Refusal.TheVariants.{NoSuchPlace}
use Rattle.base_answers.specs.Answers.{Outcome, told, done}
use Rattle.base_answers.specs.Checks.{outside}
use Rattle.base_samples.specs.Words.{word_at}
use Rattle.base_samples.specs.Integers.{val}
use Rattle.base_samples.proofs.IntegerLaws.{width-of}
use Rattle.file_open.specs.Files.{common_size}
use Rattle.file_open.specs.Walks.{restored_at}
use Rattle.file_open.specs.Opens.{head_in, way_in, whole_details, level_in, count_in, samples_in, say_file}
use Rattle.file_open.proofs.Opening.{file-says, file-restorable, file-rest, file-stop}
use Rattle.file_sample.specs.Peeks.{say_peek, peek_in}
use Rattle.file_sample.specs.Neighbours.{word_in, Stands}

-- how many levels of a file are restored: as many as detail sections are whole
abbrev pub levels_restored : List ℕ → ℕ
levels_restored s = whole_details (way_in s (head_in s)) (head_in s).levels

module _ (s : List ℕ) (w p j : ℕ) where
  -- a file that opening refuses, areas apart
  pub say-refused : done (say_file s w p) ≡ false → say_peek s w p j ≡ say_file s w p
  unfolding say_peek
  say-refused h = file-stop s w p (outside j (count_in s) ∷ []) (told 0 0) h

  -- a file that it takes
  pub say-past : done (say_file s w p) ≡ true → count_in s ≤ j → say_peek s w p j ≡ Err (NoSuchPlace j (count_in s))
  unfolding say_peek
  say-past h l = file-rest s w p (outside j (count_in s) ∷ []) (told 0 0) h ∙ rw (le-ltb j (count_in s) l)

  pub say-done : done (say_file s w p) ≡ true → j < count_in s → say_peek s w p j ≡ told 0 0
  unfolding say_peek
  say-done h l = file-rest s w p (outside j (count_in s) ∷ []) (told 0 0) h ∙ rw (lt-ltb j (count_in s) l)

  -- beside a refusal there is no sample
  pub peek-none : done (say_peek s w p j) ≡ false → peek_in s w p j ≡ pos 0
  unfolding peek_in
  peek-none h = rw h

  pub peek-some : say_peek s w p j ≡ told 0 0 → peek_in s w p j ≡ val (256 ^ w) (word_at w (samples_in s) j)
  unfolding peek_in
  peek-some e = rw e

-- the sections of a file that is taken stand in it, and restore what opening gives back
module _ (s : List ℕ) (w p : ℕ) (h : done (say_file s w p) ≡ true) where
  pub file-stands : Stands w (levels_restored s) (count_in s) (head_in s).body (length s)
  file-stands = let r = file-restorable s w p h in record { width = width-of w r.head.known; deep = r.deep; short = r.short; held = r.held }

  pub file-samples : restored_at w s (levels_restored s) (count_in s) (head_in s).body ≡ samples_in s
  unfolding samples_in
  file-samples = ap (λ (k : ℕ). restored_at k s (levels_restored s) (count_in s) (head_in s).body) (sym (file-restorable s w p h).head.width)

-- ---- as the code goes on with what is said of the file

pub stopped : (s : List ℕ) (w p j : ℕ) {e : Refusal} → say_file s w p ≡ Err e → say_peek s w p j ≡ Err e
stopped s w p j h = say-refused s w p j (ap done h) ∙ h

-- a level l and a count n
pub record Taken (s : List ℕ) (w p l n : ℕ) : Type 0 where
  pub common : common_size ≤ length s
  pub some : l ≤ (head_in s).levels
  pub stands : Stands w ((head_in s).levels - l) n (head_in s).body (length s)
  pub past : (j : ℕ) → n ≤ j → say_peek s w p j ≡ Err (NoSuchPlace j n)
  pub said : (j : ℕ) → j < n → say_peek s w p j ≡ told 0 0
  pub sample : (j : ℕ) → j < n → peek_in s w p j ≡ val (256 ^ w) (word_in w s ((head_in s).levels - l) n (head_in s).body j)

pub taken : {s : List ℕ} {w p l n : ℕ} {r : Outcome} → r ≡ say_file s w p → r ≡ Ok (l, n) → Taken s w p l n
taken {s} {w} {p} {l} {n} g h =
    let d : done (say_file s w p) ≡ true = ap done (sym g ∙ h) in
    let a : ℕ × ℕ = (l, n) in
    let b : ℕ × ℕ = (level_in s, count_in s) in
    let e : a ≡ b = cc (g, h, file-says s w p d) in
    let el : l ≡ level_in s = ap (λ (x : ℕ × ℕ). x.0) e in
    let en : n ≡ count_in s = ap (λ (x : ℕ × ℕ). x.1) e in
    let r = file-restorable s w p d in
    let m : (head_in s).levels - l ≡ levels_restored s = omega (arith, el, r.some) in
    record {
      common = r.head.common;
      some = omega (arith, el);
      stands = rw (m, en) (file-stands s w p d);
      past = λ j g. rw en (say-past s w p j d (rw en at g));
      said = λ j g. say-done s w p j d (rw en at g);
      sample = λ j g. rw (m, en) (peek-some s w p j (say-done s w p j d (rw en at g)) ∙ ap (λ (t : List ℕ). val (256 ^ w) (word_at w t j)) (sym (file-samples s w p d)));
    }
