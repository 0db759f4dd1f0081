-- The size that is told is what writing needs, where the samples and the work areas are whole samples and there is a rate: a size that is refused is refused by writing
-- with the same answer, a file area below it with 7 and that number, and with it, and work areas for the samples, writing is done. Each of the integer filters.
use mathlib.Core.Bool.{true, false, not}
use mathlib.Core.List.{List, [], ◌∷◌, ◌++◌}
use mathlib.Core.Path.{◌≡◌, refl, sym, ap, ◌∙◌}
use Prim.Native.Nat.{ℕ, ◌*◌, ◌/◌, ◌≤◌, ◌<◌}
use native.Mathlib.Omega.{arith}
use borrow.Author.Tests.{lt-ltb, le-ltb, ne_eqb}
use lib.Dec.{eqb}
use lib.ListN.{length}
use Rattle.base_answers.specs.declared.err.Answer.{Answer}
use Rattle.std.specs.Prelude.{Ok, Err}
use Rattle.base_answers.specs.declared.err.Refusal.TheVariants.{NoRate}
use Rattle.base_answers.specs.Answers.{Outcome, told, answer_of, done, say}
use Rattle.base_answers.specs.Checks.{Check, first_refusal, ragged, tight, two_areas}
use Rattle.base_answers.proofs.Chain.{by, stop}
use Rattle.base_answers.proofs.Endings.{is-done, not_done}
use Rattle.base_answers.proofs.Passed.{off, Passing, passing, pass-both, pass_on, stops, through, roomy}
use Rattle.base_lengths.specs.Lengths.{most_samples}
use Rattle.base_lengths.specs.Levels.{depth_of, levels_of}
use Rattle.base_lengths.proofs.OneLevel.{whole-passes, count-is}
use Rattle.levels_filter.proofs.Integers.{common}
use Rattle.levels_filter.specs.declared.filter.Filter.{Filter}
use Rattle.levels_filter.specs.declared.filter.Filter.TheVariants.{Cdf53I8, Cdf53I16, Cdf53I32, Cdf53F32, Cdf53F64, Cdf97F32, Cdf97F64}
use Rattle.levels_filter.specs.Filters.{width_of, wavelet_of, Integers}
use Rattle.levels_filter.specs.Calls.{depth_checks}
use Rattle.levels_filter.proofs.Cuts.{width-pos}
use Rattle.file_open.specs.Files.{most_bytes, new_size, file_size}
use Rattle.file_open.specs.Opens.{filter_of}
use Rattle.file_open.specs.Writes.{write_checks, say_write, Write}
use Rattle.file_open.proofs.Writing.{file-most}
use Rattle.file_head.specs.Heads.{say_size}

own-filter : (f : Filter) → Integers f → filter_of (width_of f) ≡ f
own-filter Cdf53I8 i = refl
own-filter Cdf53I16 i = refl
own-filter Cdf53I32 i = refl
own-filter Cdf53F32 i = absurd i
own-filter Cdf53F64 i = absurd i
own-filter Cdf97F32 i = absurd i
own-filter Cdf97F64 i = absurd i

module _ (f : Filter) (i : Integers f) (l n : ℕ) where
  size-says : say_size (width_of f) n l ≡ first_refusal (depth_checks f l n) (told (file_size new_size (width_of f) (levels_of l) n) 0)
  unfolding say_size
  size-says =
      let e = told (file_size new_size (width_of f) (levels_of l) n) 0 in
      sym (by _ (ap not (common f i).width) (ap (λ (g : Filter). first_refusal (depth_checks g l n) e) (sym (own-filter f i))))

  size-passes : done (say_size (width_of f) n l) ≡ true → Passing (depth_checks f l n)
  size-passes h = passing (depth_checks f l n) (told (file_size new_size (width_of f) (levels_of l) n) 0) (sym (ap done size-says) ∙ h)

  -- a done size call tells the size of the file, which is at most 67,108,978
  pub size-told : {s : Answer} → s ≡ answer_of (say_size (width_of f) n l) → s.number ≡ 0 → (s ≡ say 0 (file_size new_size (width_of f) (levels_of l) n) 0) × (s.first ≤ most_bytes)
  size-told {s} asked z =
      let p = size-passes (is-done (say_size (width_of f) n l) s asked z) in
      let e = asked ∙ ap answer_of (size-says ∙ through (depth_checks f l n) (told (file_size new_size (width_of f) (levels_of l) n) 0) p) in
      let most = file-most f i new_size (levels_of l) n (roomy (depth_of (wavelet_of f) n) (levels_of l) p.1.0) (roomy most_samples n p.0) in
      (e, omega (arith, ap (λ (a : Answer). a.first) e, most))

-- n samples in x, a rate y, a file area b, and work areas u and v of p and q samples
module _ (f : Filter) (i : Integers f) (l n y : ℕ) (some : 0 < y) (x b u v : List ℕ) (p q : ℕ) (ex : length x ≡ width_of f * n) (eu : length u ≡ width_of f * p) (ev : length v ≡ width_of f * q) where
  abbrev k : ℕ
  k = width_of f

  abbrev size : ℕ
  size = file_size new_size k (levels_of l) n

  abbrev depth : List Check
  depth = depth_checks f l n

  abbrev rooms : List Check
  rooms = tight (length b) size ∷ two_areas p q n

  abbrev writing : Outcome
  writing = say_write f l y (length x) (length b) (length u) (length v)

  write-says : writing ≡ first_refusal (depth ++ rooms) (told 0 0)
  unfolding say_write
  write-says =
      pass_on (ragged k (length x) ∷ ragged k (length u) ∷ ragged k (length v) ∷ (eqb y 0, NoRate) ∷ []) (write_checks f l (length x / k) (length b) (length u / k) (length v / k)) (told 0 0)
      (whole-passes k n (length x) ex, (whole-passes k p (length u) eu, (whole-passes k q (length v) ev, (ne_eqb y 0 (λ z. omega arith), tt))))
      ∙ rw (count-is k n (length x) (width-pos f) ex, count-is k p (length u) (width-pos f) eu, count-is k q (length v) (width-pos f) ev)

  as-refused : done (say_size k n l) ≡ false → writing ≡ say_size k n l
  as-refused h = pick (say_size k n l) refl h
    where
      pick : (r : Outcome) → say_size k n l ≡ r → done r ≡ false → writing ≡ r
      pick (Ok v) q h = off h refl
      pick (Err r) q h = write-says ∙ stops depth rooms (size, 0) (told 0 0) (sym (size-says f i l n) ∙ q)

  -- about the calls: s is what the size call answered, r what a write of the samples x answered
  module _ (point : ℕ) {s r : Answer} {b' u' v' : List ℕ} (asked : s ≡ answer_of (say_size (width_of f) n l)) (w : Write f l point y x b u v r b' u' v') where
    -- a size that is refused: writing gives the same answer
    pub size-refused : (s.number ≡ 0 → ⊥) → r ≡ s
    size-refused z = w.answer ∙ ap answer_of (as-refused (not_done (say_size k n l) s asked z)) ∙ sym asked

    -- else a file area that is shorter than the size is refused with it
    pub size-needed : s.number ≡ 0 → length b < s.first → r ≡ say 7 (length b) s.first
    size-needed z h =
        let e = ap (λ (a : Answer). a.first) (size-told f i l n asked z).0 in
        let g : length b < size = omega (arith, e, h) in
        w.answer
        ∙ ap answer_of (write-says ∙ pass_on depth rooms (told 0 0) (size-passes f i l n (is-done (say_size k n l) s asked z)) ∙ sym (stop _ (lt-ltb (length b) size g) refl))
        ∙ ap (say 7 (length b)) (sym e)

    -- and one that is not, with work areas for n samples, is enough
    pub size-enough : s.number ≡ 0 → s.first ≤ length b → n ≤ p → n ≤ q → r ≡ say 0 0 0
    size-enough z h hp hq =
        let g : size ≤ length b = omega (arith, ap (λ (a : Answer). a.first) (size-told f i l n asked z).0, h) in
        w.answer
        ∙ ap answer_of (write-says ∙ through (depth ++ rooms) (told 0 0) (pass-both depth rooms (size-passes f i l n (is-done (say_size k n l) s asked z)) (le-ltb (length b) size g, (le-ltb p n hp, (le-ltb q n hq, tt)))))
