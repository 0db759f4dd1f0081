-- A section of a file of either kind, cut or not, is a band of its recording; and of what a done write left, the one that a done `multi_dwt` gives of the same samples and
-- levels, where it stands in its output.
use mathlib.Core.Bool.{true, cond}
use mathlib.Core.List.{List, []}
use mathlib.Core.Path.{◌≡◌, sym, ap, subst, ◌∙◌}
use Prim.Native.Nat.{ℕ, suc, ◌+◌, ◌-◌, ◌*◌, ◌/◌, ◌^◌, ◌≤◌, ◌<◌}
use native.Mathlib.Nat.{mul-le-mul_left}
use native.Mathlib.Omega.{arith}
use lib.ListN.{length, take, drop}
use Rattle.base_answers.specs.declared.err.Answer.{Answer}
use Rattle.base_answers.specs.Answers.{Outcome, done}
use Rattle.base_answers.proofs.Endings.{is-done}
use Rattle.base_lengths.specs.Lengths.{details_length}
use Rattle.base_lengths.specs.Levels.{count_at, levels_of}
use Rattle.base_lengths.proofs.Counts.{count-at-le}
use Rattle.base_samples.specs.Le.{Bytes}
use Rattle.levels_filter.specs.declared.filter.Filter.{Filter}
use Rattle.levels_filter.specs.Filters.{width_of, high_of, Integers}
use Rattle.levels_filter.specs.Pyramids.{approx_at}
use Rattle.levels_filter.specs.Calls.{say_multi, Multi}
use Rattle.law_levels.proofs.ThereAndBack.{call-approx, call-level}
use Rattle.file_open.specs.Files.{new_size, file_of, file_size}
use Rattle.file_open.specs.Opens.{head_in, length_of, start_of, section_in}
use Rattle.file_open.specs.Writes.{Write}
use Rattle.law_cuts.specs.Sees.{size_through}
use Rattle.law_cuts.proofs.Filed.{Filed}
use Rattle.law_cuts.proofs.CutSections.{section-found, section-approx, section-details}
use Rattle.law_cuts.proofs.Kept.{written, front-in}

-- every section ends within the file
up-most : (z k l n j : ℕ) → j ≤ l → size_through z k l n (1 + j) ≤ file_size z k l n
up-most z k l n j h =
    let e : 1 + j - 1 ≡ j = omega arith in
    let q = count-at-le (l + 1 - (1 + j)) n in
    omega (arith, e, mul-le-mul_left k q)

-- in the first c bytes of a recording's file
module _ {z : ℕ} {f : Filter} {l n p : ℕ} {x s : List ℕ} (d : Filed z f l n p x s) (c : ℕ) (e : c ≤ file_size z (width_of f) l n) where
  headed : (q : ℕ) → size_through z (width_of f) l n q ≤ c → z ≤ c
  headed q up = omega arith

  found-bytes : (q : ℕ) → 1 ≤ q → q ≤ l + 1 → size_through z (width_of f) l n q ≤ c
      → let t = take c s in let h = head_in t in section_in t (width_of f) p q ≡ take (length_of h q) (drop (start_of t h q) t)
  unfolding section_in
  found-bytes q some most up =
      let t = take c s in
      let h = head_in t in
      ap (λ (r : Outcome). cond (done r) (take (length_of h q) (drop (start_of t h q) t)) []) (section-found d c (headed q up) e q some most up)

  -- section 1 is the deepest approximations, and section 1 + j the details of level L + 1 - j, of a file of either kind
  pub file-first : size_through z (width_of f) l n 1 ≤ c → section_in (take c s) (width_of f) p 1 ≡ approx_at f l x
  file-first up = found-bytes 1 (omega arith) (omega arith) up ∙ section-approx d c (headed 1 up) e up

  pub file-later : (j : ℕ) → 1 ≤ j → j ≤ l → size_through z (width_of f) l n (1 + j) ≤ c → section_in (take c s) (width_of f) p (1 + j) ≡ high_of f (approx_at f (l - j) x)
  file-later j some most up =
      let t = take c s in
      let h = head_in t in
      let less : j - 1 < l = omega arith in
      let eq : j - 1 + 2 ≡ 1 + j = omega arith in
      let ei : l - 1 - (j - 1) ≡ l - j = omega arith in
      let up' : size_through z (width_of f) l n (j - 1 + 2) ≤ c = subst (λ (q : ℕ). size_through z (width_of f) l n q ≤ c) (sym eq) up in
      found-bytes (1 + j) (omega arith) (omega arith) up
      ∙ ap (λ (q : ℕ). take (length_of h q) (drop (start_of t h q) t)) (sym eq)
      ∙ section-details d c (headed (1 + j) up) e (j - 1) less up'
      ∙ ap (λ (q : ℕ). high_of f (approx_at f q x)) ei

-- both calls are done
module _ (f : Filter) (i : Integers f) (l p rate : ℕ) (hp : p < 2 ^ 32) (hr : rate < 2 ^ 32) (x : List ℕ) (bx : Bytes x)
    (b u v : List ℕ) (a : Answer) (b' u' v' : List ℕ) (w : Write f l p rate x b u v a b' u' v') (z : a.number ≡ 0)
    (o g h : List ℕ) (r : Answer) (o' g' h' : List ℕ) (m : Multi f l x o g h r o' g' h') (y : r.number ≡ 0) where
  -- bytes of a sample, samples, levels
  abbrev k : ℕ
  k = width_of f

  abbrev n : ℕ
  n = length x / width_of f

  abbrev L : ℕ
  L = levels_of l

  file : Filed new_size f L n p x (file_of f L p rate x)
  file = written f l p rate x i bx hp hr b u v a b' u' v' w z

  made : done (say_multi f l (length x) (length o) (length g) (length h)) ≡ true
  made = is-done (say_multi f l (length x) (length o) (length g) (length h)) r m.answer y

  -- the details of level L + 1 - j in the output
  level-at : (j : ℕ) → 1 ≤ j → j ≤ L → high_of f (approx_at f (L - j) x) ≡ take (k * details_length (count_at (L - j) n)) (drop (k * count_at (L + 1 - j) n) o')
  level-at j some most =
      let e : suc (L - j) ≡ L + 1 - j = omega arith in
      sym (call-level f l x m made (L - j) (omega arith)) ∙ ap (λ (q : ℕ). take (k * details_length (count_at (L - j) n)) (drop (k * count_at q n) o')) e

  -- cut to c bytes, which have the section whole
  pub section-in-cut : (c : ℕ) → c ≤ file_size new_size k L n
      → (size_through new_size k L n 1 ≤ c → section_in (take c b') k p 1 ≡ take (k * count_at L n) o')
      × ((j : ℕ) → 1 ≤ j → j ≤ L → size_through new_size k L n (1 + j) ≤ c → section_in (take c b') k p (1 + j) ≡ take (k * details_length (count_at (L - j) n)) (drop (k * count_at (L + 1 - j) n) o'))
  section-in-cut c e =
      let front = front-in f l p rate x i bx hp hr b u v a b' u' v' w z c e in (
        λ up. ap (λ (s : List ℕ). section_in s k p 1) front ∙ file-first file c e up ∙ sym (call-approx f l x m made),
        λ j some most up.
            ap (λ (s : List ℕ). section_in s k p (1 + j)) front
            ∙ file-later file c e j some most up
            ∙ level-at j some most,
      )

  -- the whole file: section 1 is the approximations, section 1 + j the details of level L + 1 - j
  pub section-is-band : (section_in (take (file_size new_size k L n) b') k p 1 ≡ take (k * count_at L n) o')
      × ((j : ℕ) → 1 ≤ j → j ≤ L → section_in (take (file_size new_size k L n) b') k p (1 + j) ≡ take (k * details_length (count_at (L - j) n)) (drop (k * count_at (L + 1 - j) n) o'))
  section-is-band =
      let t = section-in-cut (file_size new_size k L n) (omega arith) in
      (t.0 (up-most new_size k L n 0 (omega arith)), λ j some most. t.1 j some most (up-most new_size k L n j most))
