-- What a call leaves that is done and one that is refused, by its number; and that its promise allows one result and no other.
use mathlib.Core.List.{List}
use mathlib.Core.Path.{◌≡◌, refl, sym, ◌∙◌}
use Prim.Native.Nat.{ℕ}
use Rattle.base_answers.specs.declared.err.Answer.{Answer}
use Rattle.base_answers.specs.Answers.{Outcome, answer_of}
use Rattle.base_answers.specs.Checks.{left, in_front}
use Rattle.base_answers.proofs.Endings.{is-done, not_done, left-done, left-refused}
use Rattle.stream_calls.specs.Calls.{Streams}

-- ---- from the number to what it leaves

module _ {s : Outcome} {new lows highs b a d : List ℕ} {r : Answer} {b' a' d' : List ℕ} (call : Streams s new lows highs b a d r b' a' d') where
  -- a refused call, of either kind, changes nothing
  pub refused-stays : (r.number ≡ 0 → ⊥) → (b' ≡ b) × (a' ≡ a) × (d' ≡ d)
  refused-stays n =
      let z = not_done s r call.answer n in
      (call.state ∙ left-refused s new b z, call.approx ∙ left-refused s (in_front lows a) a z, call.details ∙ left-refused s (in_front highs d) d z)

  pub done-leaves : r.number ≡ 0 → (b' ≡ new) × (a' ≡ in_front lows a) × (d' ≡ in_front highs d)
  done-leaves n =
      let z = is-done s r call.answer n in
      (call.state ∙ left-done s new b z, call.approx ∙ left-done s (in_front lows a) a z, call.details ∙ left-done s (in_front highs d) d z)

-- ---- one result and no other

-- for every input the promise allows a result
pub streams-some : (s : Outcome) (new lows highs b a d : List ℕ)
    → Streams s new lows highs b a d (answer_of s) (left s new b) (left s (in_front lows a) a) (left s (in_front highs d) d)
streams-some s new lows highs b a d = record { answer = refl; state = refl; approx = refl; details = refl }

-- and two that it allows are equal
pub streams-decides : {s : Outcome} {new lows highs b a d : List ℕ} {r q : Answer} {b₁ a₁ d₁ b₂ a₂ d₂ : List ℕ} → Streams s new lows highs b a d r b₁ a₁ d₁
    → Streams s new lows highs b a d q b₂ a₂ d₂ → (r ≡ q) × (b₁ ≡ b₂) × (a₁ ≡ a₂) × (d₁ ≡ d₂)
streams-decides x y = (x.answer ∙ sym y.answer, x.state ∙ sym y.state, x.approx ∙ sym y.approx, x.details ∙ sym y.details)
