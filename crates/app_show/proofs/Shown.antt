-- A file that is opened has section 0 and samples of a known width, and the output holds as many as the answer says.
use mathlib.Core.List.{List}
use mathlib.Core.Path.{◌≡◌, sym, ap, subst, ◌∙◌}
use Prim.Native.Nat.{ℕ, ◌/◌, ◌≤◌}
use lib.ListN.{length}
use Rattle.base_answers.specs.declared.err.Answer.{Answer}
use Rattle.base_answers.specs.Answers.{answer_of}
use Rattle.base_answers.proofs.Endings.{is-done}
use Rattle.base_samples.specs.Integers.{Width}
use Rattle.base_samples.proofs.IntegerLaws.{width-of}
use Rattle.file_open.specs.Files.{common_size}
use Rattle.file_open.specs.Opens.{head_in, count_in, say_open, Open}
use Rattle.file_open.proofs.Opening.{open-ready, open-says}

as_many : (c n w d m k : ℕ) → d ≡ c → m ≡ n → k ≡ w → c ≤ n / w → d ≤ m / k
as_many c n w d m k ed em ek h = rw (ed, em, ek) h

-- what an opened file has: section 0, whose width is one, and room for the samples in an area as long as the output
pub record Shown (s o : List ℕ) (r : Answer) : Type 0 where
  pub there : common_size ≤ length s
  pub known : (k : ℕ) → k ≡ (head_in s).width → Width k
  pub room : (n k : ℕ) → n ≡ length o → k ≡ (head_in s).width → r.second ≤ n / k

pub shown : (s : List ℕ) (w p : ℕ) {o u v : List ℕ} {r : Answer} {o' u' v' : List ℕ} → Open s w p o u v r o' u' v' → r.number ≡ 0 → Shown s o r
shown s w p {o} {u} {v} {r} h z =
    let d = is-done (say_open s w p (length o) (length u) (length v)) r h.answer z in
    let i = open-says s w p (length o) (length u) (length v) d in
    let n : r.second ≡ count_in s = ap (λ (a : Answer). a.second) h.answer ∙ ap (λ t. (answer_of t).second) i.0 in
    let y = (open-ready s w p (length o) (length u) (length v) d).file.head in
    record {
      there = y.common;
      known = λ k e. subst Width (sym (e ∙ y.width)) (width-of w y.known);
      room = λ m k em ek. as_many (count_in s) (length o) w r.second m k n em (ek ∙ y.width) i.1;
    }
