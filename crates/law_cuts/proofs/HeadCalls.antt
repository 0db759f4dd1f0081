-- The head of a file of either kind, cut as it may be, tells what was written.
use mathlib.Core.Bool.{cond}
use mathlib.Core.List.{List, [], append-nil}
use mathlib.Core.Path.{◌≡◌, sym, ap, subst, ◌∙◌}
use Prim.Native.Nat.{ℕ, ◌/◌, ◌^◌, ◌≤◌, ◌<◌}
use native.Mathlib.Omega.{arith}
use lib.ListN.{length, take}
use Rattle.std.specs.Prelude.{Err}
use Rattle.base_answers.specs.declared.err.Answer.{Answer}
use Rattle.base_answers.specs.declared.err.Refusal.TheVariants.{CutShort}
use Rattle.base_answers.specs.Answers.{Outcome, told, say, answer_of, done}
use Rattle.base_answers.specs.Checks.{Check, first_refusal}
use Rattle.base_answers.proofs.Endings.{is-done}
use Rattle.base_lengths.specs.Levels.{levels_of}
use Rattle.base_samples.specs.Le.{Bytes}
use Rattle.levels_filter.specs.declared.filter.Filter.{Filter}
use Rattle.levels_filter.specs.Filters.{width_of, Integers}
use Rattle.file_open.specs.declared.head.Head.{Head}
use Rattle.file_open.specs.Files.{head_size, new_size, file_of, file_size}
use Rattle.file_open.specs.Opens.{head_in, rate_in, start_checks}
use Rattle.file_open.specs.Writes.{say_write, Write}
use Rattle.file_open.proofs.Opening.{head-parts}
use Rattle.file_open.proofs.Writing.{new-size, write-ready}
use Rattle.file_head.specs.declared.HeadAnswer.{HeadAnswer}
use Rattle.file_head.specs.Heads.{say_head, told_of, Told, Tells}
use Rattle.file_head.proofs.Telling.{start-done, done-tells}
use Rattle.law_cuts.proofs.Filed.{Recording}
use Rattle.law_cuts.proofs.WrittenHead.{filed, early, rate-read}
use Rattle.law_cuts.proofs.Kept.{recorded, front-in}

-- the first c bytes of a file of either kind, section 0 or more of it
pub file-told : {f : Filter} {l n p : ℕ} {x : List ℕ} (d : Recording f l n p x) {rate : ℕ} → rate < 2 ^ 32 → (c : ℕ) → head_size rate ≤ c → c ≤ file_size (head_size rate) (width_of f) l n
    → (t : HeadAnswer) → Told (take c (file_of f l p rate x)) t
    → (t.answer ≡ say 0 0 0) × Tells t (width_of f) l n p rate
file-told {f} {l} {n} {p} {x} d {rate} hr c h g t m =
    let s = take c (file_of f l p rate x) in
    let k = start-done {s = s} {t = t} (head-parts s (width_of f) p ((filed d hr).passes c h g)).0 m in
    let f = done-tells m (ap (λ (b : Answer). b.number) k) in
    let e = (filed d hr).head c h in (
      k,
      record {
        width = f.width ∙ ap (λ (g : Head). g.width) e;
        levels = f.levels ∙ ap (λ (g : Head). g.levels) e;
        samples = f.samples ∙ ap (λ (g : Head). g.samples) e;
        point = f.point ∙ ap (λ (g : Head). g.point) e;
        rate = f.rate ∙ rate-read d hr c h;
      },
    )

-- fewer bytes than section 0 has: 10, and the fields are 0
pub early-told : {f : Filter} {l n p : ℕ} {x : List ℕ} (d : Recording f l n p x) {rate : ℕ} → rate < 2 ^ 32 → (c : ℕ) → c < head_size rate
    → (t : HeadAnswer) → Told (take c (file_of f l p rate x)) t → (t.answer ≡ say 10 c 0) × Tells t 0 0 0 0 0
unfolding say_head
early-told {f} {l} {n} {p} {x} d {rate} hr c h t m =
    let s = take c (file_of f l p rate x) in
    let e : say_head s ≡ Err (CutShort c) = ap (λ (q : List Check). first_refusal q (told 0 0)) (sym (append-nil (start_checks s))) ∙ early d hr c h [] (told 0 0) in
    let none : (q : ℕ) → told_of s q ≡ 0 = λ q. ap (λ (r : Outcome). cond (done r) q 0) e in
    let g = head_in s in (
      m.answer ∙ ap answer_of e,
      record {
        width = m.width ∙ none g.width;
        levels = m.levels ∙ none g.levels;
        samples = m.samples ∙ none g.samples;
        point = m.point ∙ none g.point;
        rate = m.rate ∙ none (rate_in s);
      },
    )

-- the first c bytes of what a done write left, 18 or more, tell what was written
pub written-told : (f : Filter) (l p rate : ℕ) (x : List ℕ) → Integers f → Bytes x → p < 2 ^ 32 → rate < 2 ^ 32 → (b u v : List ℕ) (a : Answer) (b' u' v' : List ℕ)
    → Write f l p rate x b u v a b' u' v' → a.number ≡ 0
    → (c : ℕ) → new_size ≤ c → c ≤ file_size new_size (width_of f) (levels_of l) (length x / width_of f) → (t : HeadAnswer) → Told (take c b') t
    → (t.answer ≡ say 0 0 0) × Tells t (width_of f) (levels_of l) (length x / width_of f) p rate
written-told f l p rate x i bx hp hr b u v a b' u' v' w z c h g t m =
    let d = is-done (say_write f l rate (length x) (length b) (length u) (length v)) a w.answer z in
    let some = (write-ready f l rate (length x) (length b) (length u) (length v) d).rate in
    let size = new-size rate some in
    let m' : Told (take c (file_of f (levels_of l) p rate x)) t = subst (λ (y : List ℕ). Told y t) (front-in f l p rate x i bx hp hr b u v a b' u' v' w z c g) m in
    file-told (recorded f l p rate x (length b) (length u) (length v) i bx hp d) hr c (omega (arith, size)) (omega (arith, size)) t m'
