-- A call that changes the area allows one result and no other.
use mathlib.Core.List.{List}
use mathlib.Core.Path.{◌≡◌, sym, ◌∙◌}
use Prim.Native.Nat.{ℕ}
use Rattle.base_answers.specs.declared.err.Answer.{Answer}
use Rattle.base_answers.specs.Answers.{Outcome}
use Rattle.book_calls.specs.Calls.{Leaves}

-- two results that a call's promise allows are equal: the answer, and every byte of the area
pub leaves-decides : {s : Outcome} {new b : List ℕ} {r q : Answer} {b₁ b₂ : List ℕ} → Leaves s new b r b₁ → Leaves s new b q b₂ → (r ≡ q) × (b₁ ≡ b₂)
leaves-decides x y = (x.answer ∙ sym y.answer, x.book ∙ sym y.book)
