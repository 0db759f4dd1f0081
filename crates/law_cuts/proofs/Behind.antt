-- Bytes behind a whole file are 12, and how many. Each of the integer filters, both kinds of file.
use mathlib.Core.List.{List, ◌++◌, append_assoc}
use mathlib.Core.Path.{◌≡◌, sym, ap, subst, ◌∙◌}
use Prim.Native.Nat.{ℕ, ◌+◌, ◌-◌, ◌^◌, ◌≤◌, ◌<◌}
use native.Mathlib.Omega.{arith}
use borrow.Author.Tests.{lt-ltb}
use lib.ListN.{length, take, length-append}
use lib.Seq.{take_all}
use Rattle.std.specs.Prelude.{Err}
use Rattle.base_answers.specs.declared.err.Refusal.TheVariants.{Trailing}
use Rattle.base_answers.specs.Answers.{told}
use Rattle.base_answers.specs.Checks.{Check, first_refusal}
use Rattle.base_answers.proofs.Chain.{stop}
use Rattle.base_answers.proofs.Passed.{pass_on}
use Rattle.levels_filter.specs.declared.filter.Filter.{Filter}
use Rattle.levels_filter.specs.Filters.{width_of}
use Rattle.file_open.specs.declared.walk.Way.{Way}
use Rattle.file_open.specs.declared.walk.Way.TheVariants.{Went}
use Rattle.file_open.specs.Files.{most_bytes, head_of, head_size, body_of, body_size, file_of, file_size}
use Rattle.file_open.specs.Walks.{walk_of}
use Rattle.file_open.specs.Opens.{head_in, head_checks, way_in, way_checks, level_in, count_in, area_checks, rooms_for, say_open}
use Rattle.file_open.proofs.Opening.{whole-areas-pass}
use Rattle.file_open.proofs.Writing.{head-length}
use Rattle.law_cuts.specs.Sees.{Sampled, way_within}
use Rattle.law_cuts.proofs.Sized.{body-length}
use Rattle.law_cuts.proofs.CutWalk.{walk-cut, within-whole}
use Rattle.law_cuts.proofs.Filed.{Recording}
use Rattle.law_cuts.proofs.WrittenHead.{parts, head-of, head-pass}

module _ {f : Filter} {l n p : ℕ} {x : List ℕ} (d : Recording f l n p x) {rate : ℕ} (hr : rate < 2 ^ 32) (t : List ℕ) (some : 1 ≤ length t)
    (short : file_size (head_size rate) (width_of f) l n + length t ≤ most_bytes) where
  abbrev k : ℕ
  k = width_of f

  abbrev z : ℕ
  z = head_size rate

  -- the sections, and the bytes behind them
  abbrev rest : List ℕ
  rest = body_of f l n x ++ t

  abbrev y : List ℕ
  y = head_of k l n p rate ++ rest

  rest-long : length rest ≡ body_size k l n + length t
  rest-long = length-append (body_of f l n x) t ∙ ap (λ (j : ℕ). j + length t) (body-length f l n x d.size)

  long : length y ≡ z + body_size k l n + length t
  long = length-append (head_of k l n p rate) rest ∙ omega (arith, head-length k l n p rate, rest-long)

  -- the walk goes through all sections
  way : way_in y (head_in y) ≡ Went (z + body_size k l n)
  way =
      ap (way_in y) (head-of d hr rest)
      ∙ ap (λ (s : List ℕ). walk_of (head_of k l n p rate ++ s) k l n z) (sym (take_all (length rest) rest (omega arith)))
      ∙ subst (λ (q : ℕ). walk_of (head_of k l n p rate ++ take (length rest) rest) k l n q ≡ way_within k l n q (length rest)) (head-length k l n p rate)
      (walk-cut f l n x (head_of k l n p rate) t (length rest) d.size (omega (arith, d.most)) (omega arith))
      ∙ sym (within-whole k l n z (length rest) (omega (arith, rest-long)))

  pub behind-file : (o u v : ℕ) → Sampled k o u v → say_open (file_of f l p rate x ++ t) k p o u v ≡ Err (Trailing (length t))
  unfolding say_open
  behind-file o u v a =
      let end = told (level_in y) (count_in y) in
      let rooms = rooms_for k (count_in y) o u v in
      let heads = head_checks y k p in
      let ways = way_checks (way_in y (head_in y)) (length y) in
      ap (λ (s : List ℕ). say_open s k p o u v) (ap (λ (s : List ℕ). s ++ t) (parts d hr) ∙ append_assoc (head_of k l n p rate) (body_of f l n x) t)
      ∙ pass_on (area_checks k o u v) ((heads ++ ways) ++ rooms) end (whole-areas-pass k o u v (λ _. (a.output, a.first, a.second)))
      ∙ ap (λ (m : List Check). first_refusal m end) (append_assoc heads ways rooms)
      ∙ pass_on heads (ways ++ rooms) end (head-pass d hr rest (omega (arith, long)))
      ∙ ap (λ (v : Way). first_refusal (way_checks v (length y) ++ rooms) end) way
      ∙ sym (stop _ (lt-ltb (z + body_size k l n) (length y) (omega (arith, long))) (ap (λ (n : ℕ). Err (Trailing n)) (omega (arith, long))))
