-- The rate that opening gives: a file that opens, cut or not, gives its own, which is 0 of an old one; so what a done write left gives the rate that
-- it was given. Each of the integer filters.
use mathlib.Core.Bool.{true}
use mathlib.Core.List.{List}
use mathlib.Core.Path.{◌≡◌, ◌∙◌}
use Prim.Native.Nat.{ℕ, ◌/◌, ◌^◌, ◌≤◌, ◌<◌}
use native.Mathlib.Omega.{arith}
use lib.ListN.{length, take}
use Rattle.base_answers.specs.declared.err.Answer.{Answer}
use Rattle.base_answers.specs.Answers.{done}
use Rattle.base_answers.proofs.Endings.{is-done, not_done}
use Rattle.base_lengths.specs.Levels.{levels_of}
use Rattle.base_samples.specs.Le.{Bytes}
use Rattle.levels_filter.specs.declared.filter.Filter.{Filter}
use Rattle.levels_filter.specs.Filters.{width_of, Integers}
use Rattle.file_open.specs.Files.{head_size, new_size, file_of, file_size}
use Rattle.file_open.specs.declared.open.OpenAnswer.{OpenAnswer}
use Rattle.file_open.specs.Opens.{say_open, rate_opened, OpenGives}
use Rattle.file_open.specs.Writes.{say_write, Write}
use Rattle.file_open.proofs.Opening.{head-passes, open-head, open-rate, refused-rate}
use Rattle.file_open.proofs.Writing.{new-size, write-ready}
use Rattle.law_cuts.proofs.Filed.{Recording, cut-length}
use Rattle.law_cuts.proofs.WrittenHead.{filed, count-read, rate-read}
use Rattle.law_cuts.proofs.Kept.{recorded, front-in}

-- a file of either kind that opens, for whatever width and point: section 0 is whole, so the rate is
pub file-rate : {f : Filter} {l n p : ℕ} {x : List ℕ} (d : Recording f l n p x) {rate : ℕ} → rate < 2 ^ 32 → (c : ℕ) → c ≤ file_size (head_size rate) (width_of f) l n
    → (w q o u v : ℕ) → let s = take c (file_of f l p rate x) in done (say_open s w q o u v) ≡ true → rate_opened s w q o u v ≡ rate
file-rate {f} {l} {n} {p} {x} d {rate} hr c e w q o u v h =
    let s = take c (file_of f l p rate x) in
    let m = head-passes s w q (open-head s w q o u v h) in
    let size = cut-length (filed d hr) c e in
    let count = count-read d hr c (omega (arith, m.common)) in
    open-rate s w q o u v h ∙ rate-read d hr c (omega (arith, m.there, count, size))

-- the calls: what a done write left, cut to c bytes, gives the rate where it opens, and 0 where it is refused
pub rate-kept : (f : Filter) (l p rate : ℕ) (x : List ℕ) → Integers f → Bytes x → p < 2 ^ 32 → rate < 2 ^ 32 → (b u v : List ℕ) (a : Answer) (b' u' v' : List ℕ)
    → Write f l p rate x b u v a b' u' v' → a.number ≡ 0
    → (c : ℕ) → c ≤ file_size new_size (width_of f) (levels_of l) (length x / width_of f)
    → (w q : ℕ) (o g h : List ℕ) (r : OpenAnswer) (o' g' h' : List ℕ) → OpenGives (take c b') w q o g h r o' g' h'
    → (r.answer.number ≡ 0 → r.rate ≡ rate) × ((r.answer.number ≡ 0 → ⊥) → r.rate ≡ 0)
rate-kept f l p rate x i bx hp hr b u v a b' u' v' w z c e k q o g h r o' g' h' gives =
    let said = say_open (take c b') k q (length o) (length g) (length h) in
    let d = is-done (say_write f l rate (length x) (length b) (length u) (length v)) a w.answer z in
    let file = recorded f l p rate x (length b) (length u) (length v) i bx hp d in
    let size = new-size rate (write-ready f l rate (length x) (length b) (length u) (length v) d).rate in
    let all : (s : List ℕ) → s ≡ take c (file_of f (levels_of l) p rate x) → done (say_open s k q (length o) (length g) (length h)) ≡ true → rate_opened s k q (length o) (length g) (length h) ≡ rate =
    λ s es. rw es (file-rate file hr c (omega (arith, size)) k q (length o) (length g) (length h)) in (
      λ zero. gives.rate ∙ all (take c b') (front-in f l p rate x i bx hp hr b u v a b' u' v' w z c e) (is-done said r.answer gives.call.answer zero),
      λ other. gives.rate ∙ refused-rate (take c b') k q (length o) (length g) (length h) (not_done said r.answer gives.call.answer other),
    )
