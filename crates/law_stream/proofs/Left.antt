-- The states that calls leave, from C-15: the test passes for these and for no others, and a call says 9 (0, 0) of the others. Over the width.
use mathlib.Core.Bool.{Bool, true, false, cond, not}
use mathlib.Core.List.{List, [], ◌∷◌, ◌++◌, append-nil, flatten}
use mathlib.Core.Path.{◌≡◌, refl, ap, subst, ◌∙◌}
use Prim.Native.Nat.{ℕ, ◌%◌}
use native.Mathlib.Nat.{zero-mod}
use native.Mathlib.Omega.{arith}
use lib.Dec.{eqb}
use Rattle.base_answers.specs.declared.err.Refusal.TheVariants.{BadCount}
use Rattle.std.specs.Prelude.{Err}
use Rattle.base_answers.specs.declared.err.Refusal.{Refusal}
use Rattle.base_answers.specs.Answers.{Outcome, told, answer_of}
use Rattle.base_answers.specs.Checks.{Check, first_refusal, ragged}
use Rattle.base_answers.proofs.Chain.{same}
use Rattle.base_answers.proofs.Passed.{off, Passing, pass_on}
use Rattle.base_samples.specs.Le.{Bytes}
use Rattle.base_samples.specs.Integers.{Width}
use Rattle.stream_pieces.specs.States.{state_of, stand_in}
use Rattle.stream_pieces.proofs.Stands.{length-stand, count-stand, bytes-stand, stands}
use Rattle.stream_calls.specs.StateBytes.{state_bytes, state_in, could_be}
use Rattle.stream_calls.specs.Calls.{state_check, lent_checks, piece_checks, say_piece, finish_checks, say_finish}
use Rattle.stream_calls.proofs.States.{state-again, could-be}
use Rattle.law_stream.specs.Feeds.{LeftBy, Nine, EachWhole}
use Rattle.law_stream.proofs.Fed.{fed, could}
use Rattle.law_stream.proofs.Every.{every-cut}

-- ---- checks that never say s

-- each of the list passes, or refuses with something else
abbrev Never : Refusal → List Check → Type 0
Never s [] = Unit {0}
Never s (p ∷ rest) = (p.0 ≡ true → p.1 ≡ s → ⊥) × Never s rest

never : (s : Refusal) (e : Outcome) (l : List Check) → Never s l → (e ≡ Err s → ⊥) → first_refusal l e ≡ Err s → ⊥
never s e [] n h q = h q
never s e (p ∷ rest) n h q = pick p.0 refl (never s e rest n.1 h) q
  where
    pick : (t : Bool) → p.0 ≡ t → (first_refusal rest e ≡ Err s → ⊥) → cond t (Err p.1) (first_refusal rest e) ≡ Err s → ⊥
    pick true z f q = let same : p.1 ≡ s = cc in n.0 z same
    pick false z f q = f q

-- another number is another refusal
number : {r s : Refusal} → r ≡ s → (answer_of (Err r)).number ≡ (answer_of (Err s)).number
number q = ap (λ (r : Refusal). (answer_of (Err r)).number) q

-- 0 bytes are whole, so no length is 9 (0, 0)
whole-never : (k n : ℕ) → not (eqb (n % k) 0) ≡ true → BadCount 0 n ≡ BadCount 0 0 → ⊥
whole-never k n g q =
    let z : n ≡ 0 = ap (λ (r : Refusal). (answer_of (Err r)).second) q in
    off (same (n % k) 0 (ap (λ (i : ℕ). i % k) z ∙ zero-mod k)) g

module _ {k : ℕ} (w : Width k) where
  -- a state that passes is left by one call: a piece, at a fresh state, that is the whole recording that the state stands for
  could-left : (b : List ℕ) → Bytes b → could_be k b ≡ true → LeftBy k b
  unfolding EachWhole flatten
  could-left b bytes passes =
      let is = could-be b passes in
      let x = stand_in k (state_in b) in
      let n = count-stand w (state_in b) is.1 in
      let one = every-cut w (x ∷ []) (bytes-stand w (state_in b) is.1, rw n (length-stand w (state_in b) is.1), tt) (rw (append-nil x, n) is.1.few) in
      let same-b =
      (fed w one.fed).state ∙ ap (λ (z : List ℕ). state_bytes (state_of k z)) (append-nil x)
      ∙ ap state_bytes (stands w (state_in b) is.1) ∙ state-again b bytes is.0 in
      subst (LeftBy k) same-b (record { x = _; lows = _; highs = _; calls = one.fed })

  -- "a state no calls could have left": bytes, of any length, pass the check exactly where some calls leave them
  pub left-by-calls : (b : List ℕ) → Bytes b → (could_be k b ≡ true → LeftBy k b) × (LeftBy k b → could_be k b ≡ true)
  left-by-calls b bytes = (could-left b bytes, λ l. could w (fed w l.calls))

  -- ---- and a call tells them apart: it says 9 (0, 0) of no state that calls left, and of every other where the lengths are whole

  -- m are its own checks, behind those that both calls make
  module _ (b : List ℕ) (bytes : Bytes b) (y a d : ℕ) (m : List Check) (own : Never (BadCount 0 0) m) where
    abbrev tells : Outcome
    tells = first_refusal (lent_checks k b y a d ++ m) (told 0 0)

    nine-only : LeftBy k b → tells ≡ Err (BadCount 0 0) → ⊥
    nine-only l =
        never (BadCount 0 0) (told 0 0) (lent_checks k b y a d ++ m)
        (whole-never k y, (whole-never k a, (whole-never k d, ((λ g. off (ap not ((left-by-calls b bytes).1 l)) g), own))))
        (λ q. absurd (cc))

    nine-every : (t : Bool) → could_be k b ≡ t → Passing (ragged k y ∷ ragged k a ∷ ragged k d ∷ []) → (LeftBy k b → ⊥) → tells ≡ Err (BadCount 0 0)
    nine-every true e q none = absurd (none (could-left b bytes e))
    nine-every false e q none =
        pass_on (ragged k y ∷ ragged k a ∷ ragged k d ∷ []) (state_check k b ∷ m) (told 0 0) q
        ∙ ap (λ t. cond (not t) (Err (BadCount 0 0)) (first_refusal m (told 0 0))) e

    nine : Nine k b y a d tells
    nine = record { only = λ e l. nine-only l e; every = λ ey ea ed. nine-every (could_be k b) refl (same _ _ ey, (same _ _ ea, (same _ _ ed, tt))) }

  pub nine-piece : (b : List ℕ) → Bytes b → (y a d : ℕ) → Nine k b y a d (say_piece k b y a d)
  unfolding say_piece
  nine-piece b bytes y a d =
      nine b bytes y a d (piece_checks k (state_in b).total y a d)
      ((λ g q. omega (arith, number q)), ((λ g q. omega (arith, number q)), ((λ g q. omega (arith, number q)), tt)))

  pub nine-finish : (b : List ℕ) → Bytes b → (a d : ℕ) → Nine k b 0 a d (say_finish k b a d)
  unfolding say_finish
  nine-finish b bytes a d =
      nine b bytes 0 a d (finish_checks k (state_in b).total a d)
      ((λ g q. omega (arith, number q)), ((λ g q. omega (arith, number q)), ((λ g q. omega (arith, number q)), tt)))
