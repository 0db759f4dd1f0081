-- What the head of a file tells beside opening: a file that opens tells the width and the point that it opens for, its rate, and the number of samples that its count
-- comes from.
use mathlib.Core.Bool.{cond}
use mathlib.Core.List.{List}
use mathlib.Core.Path.{◌≡◌, sym, ap, ◌∙◌}
use Prim.Native.Nat.{ℕ, ◌≤◌}
use native.Mathlib.Omega.{arith}
use lib.ListN.{length}
use Rattle.base_answers.specs.declared.err.Answer.{Answer}
use Rattle.base_answers.specs.Answers.{told, answer_of, say}
use Rattle.base_answers.proofs.Endings.{is-done}
use Rattle.base_answers.proofs.Passed.{Passing, through, right}
use Rattle.base_lengths.specs.Levels.{count_at}
use Rattle.file_open.specs.declared.open.OpenAnswer.{OpenAnswer}
use Rattle.file_open.specs.Opens.{head_in, rate_in, start_checks, level_in, say_open, OpenGives}
use Rattle.file_open.proofs.Opening.{head-parts, open-head, open-says, open-rate}
use Rattle.file_head.specs.declared.HeadAnswer.{HeadAnswer}
use Rattle.file_head.specs.Heads.{say_head, told_of, Told, Tells}

-- two results that the statement allows are equal
pub told-decides : {s : List ℕ} {r q : HeadAnswer} → Told s r → Told s q → r ≡ q
told-decides m n = λ i. record {
  answer = (m.answer ∙ sym n.answer) i;
  width = (m.width ∙ sym n.width) i;
  levels = (m.levels ∙ sym n.levels) i;
  samples = (m.samples ∙ sym n.samples) i;
  point = (m.point ∙ sym n.point) i;
  rate = (m.rate ∙ sym n.rate) i;
}

-- an answer that is done tells all fields as section 0 has them
pub done-tells : {s : List ℕ} {t : HeadAnswer} → Told s t → t.answer.number ≡ 0 → let h = head_in s in Tells t h.width h.levels h.samples h.point (rate_in s)
done-tells {s} {t} m z =
    let d = is-done (say_head s) t.answer m.answer z in
    let all : (n : ℕ) → told_of s n ≡ n = λ n. ap (λ b. cond b n 0) d in
    record {
      width = m.width ∙ all (head_in s).width;
      levels = m.levels ∙ all (head_in s).levels;
      samples = m.samples ∙ all (head_in s).samples;
      point = m.point ∙ all (head_in s).point;
      rate = m.rate ∙ all (rate_in s);
    }

-- where the start of the file passes, the answer is done
pub start-done : {s : List ℕ} {t : HeadAnswer} → Passing (start_checks s) → Told s t → t.answer ≡ say 0 0 0
unfolding say_head
start-done {s} p m = m.answer ∙ ap answer_of (through (start_checks s) (told 0 0) p)

-- a file that opens tells the width and the point that it opens for, and the rate that opening gives; the level that it opens at is one of its levels or 0, and the
-- count is that of its samples at this level
pub opened-told : {s : List ℕ} {w p : ℕ} {o u v : List ℕ} {a : OpenAnswer} {o' u' v' : List ℕ} {t : HeadAnswer} → OpenGives s w p o u v a o' u' v' → a.answer.number ≡ 0 → Told s t
    → (t.answer ≡ say 0 0 0) × (t.width ≡ w) × (t.point ≡ p) × (t.rate ≡ a.rate) × (a.answer.first ≤ t.levels) × (a.answer.second ≡ count_at a.answer.first t.samples)
opened-told {s} {w} {p} {o} {u} {v} {a} {t = t} gives z m =
    let said = say_open s w p (length o) (length u) (length v) in
    let call = gives.call in
    let d = is-done said a.answer call.answer z in
    let q = head-parts s w p (open-head s w p (length o) (length u) (length v) d) in
    let k = start-done {s = s} {t = t} q.0 m in
    let f = done-tells m (ap (λ (b : Answer). b.number) k) in
    let e = call.answer ∙ ap answer_of (open-says s w p (length o) (length u) (length v) d).0 in
    let level = ap (λ (b : Answer). b.first) e in
    let below : level_in s ≤ (head_in s).levels = omega arith in (
      k,
      f.width ∙ right (head_in s).width w q.1.0,
      f.point ∙ right (head_in s).point p q.1.1.1.1.1.1.1.0,
      f.rate ∙ sym (gives.rate ∙ open-rate s w p (length o) (length u) (length v) d),
      omega (arith, level, below, f.levels),
      ap (λ (b : Answer). b.second) e ∙ ap (λ (n : ℕ). count_at (level_in s) n) (sym f.samples) ∙ ap (λ (l : ℕ). count_at l t.samples) (sym level),
    )
