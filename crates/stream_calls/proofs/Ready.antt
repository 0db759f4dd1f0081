-- What the checks of the two calls leave when they pass, and that a call which has this passes. Over the width.
use mathlib.Core.Bool.{true, not}
use mathlib.Core.List.{List, ◌++◌}
use mathlib.Core.Path.{◌≡◌, ap}
use Prim.Native.Nat.{ℕ, ◌-◌, ◌*◌, ◌/◌, ◌≤◌}
use native.Mathlib.Nat.{div-add-mod}
use native.Mathlib.Omega.{arith}
use borrow.Author.Tests.{le-ltb, not-false}
use lib.ListN.{length}
use Rattle.base_answers.specs.Answers.{told, done}
use Rattle.base_answers.specs.Checks.{Check, first_refusal}
use Rattle.base_answers.proofs.Passed.{Passing, passing, both-pass, through, whole, roomy}
use Rattle.base_lengths.specs.Lengths.{most_samples, approx_length, details_length}
use Rattle.base_lengths.proofs.OneLevel.{whole-passes}
use Rattle.base_samples.specs.Integers.{Width}
use Rattle.base_samples.proofs.Words.{holds}
use Rattle.filter_cdf53i.specs.Bands.{EnoughWords}
use Rattle.filter_cdf53i.proofs.WordTurns.{room_of}
use Rattle.stream_pieces.specs.States.{fixed, Possible}
use Rattle.stream_pieces.specs.Steps.{newly, Taking}
use Rattle.stream_calls.specs.StateBytes.{state_size, state_in, could_be}
use Rattle.stream_calls.specs.Calls.{lent_checks, piece_checks, say_piece, finish_checks, say_finish}
use Rattle.stream_calls.proofs.States.{could-be, passes}

-- ---- what both calls ask

-- whole lengths in bytes and a possible state: y of the piece, a and d of the areas
pub record Lent (k : ℕ) (b : List ℕ) (y a d : ℕ) : Type 0 where
  pub long : length b ≡ state_size
  pub state : Possible k (state_in b)
  pub piece : y ≡ k * (y / k)
  pub approx : a ≡ k * (a / k)
  pub details : d ≡ k * (d / k)

module _ (k : ℕ) (b : List ℕ) (y a d : ℕ) where
  abbrev l : List Check
  l = lent_checks k b y a d

  pub lent_of : Passing l → Lent k b y a d
  lent_of q =
      let s = could-be b (not-false (could_be k b) q.1.1.1.0) in
      record { long = s.0; state = s.1; piece = whole k y q.0; approx = whole k a q.1.0; details = whole k d q.1.1.0 }

  -- a call with its own checks m behind those: from "done" to the facts, and back
  module _ (m : List Check) where
    ready : done (first_refusal (l ++ m) (told 0 0)) ≡ true → Lent k b y a d × Passing m
    ready h = let q = both-pass l m (passing (l ++ m) (told 0 0) h) in (lent_of q.0, q.1)

    says-done : Lent k b y a d → Passing m → first_refusal (l ++ m) (told 0 0) ≡ told 0 0
    says-done h q =
        through (l ++ m) (told 0 0)
        (whole-passes k _ y h.piece, (whole-passes k _ a h.approx, (whole-passes k _ d h.details, (ap not (passes b h.long h.state), q))))

-- ---- a piece

-- what a call that passes its checks may build on
pub piece-ready : {k : ℕ} → Width k → (b y a d : List ℕ) → done (say_piece k b (length y) (length a) (length d)) ≡ true
    → (length b ≡ state_size) × Taking k (state_in b) y × EnoughWords k (newly k (state_in b) y) a × EnoughWords k (newly k (state_in b) y) d
unfolding say_piece
piece-ready {k} w b y a d h =
    let q = ready k b (length y) (length a) (length d) (piece_checks k (state_in b).total (length y) (length a) (length d)) h in
    let l = q.0 in (
      l.long,
      record { width = w; state = l.state; piece = holds w.some y (length y / k) l.piece; few = roomy most_samples _ q.1.0 },
      room_of w.some a _ _ l.approx (roomy _ _ q.1.1.0),
      room_of w.some d _ _ l.details (roomy _ _ q.1.1.1.0),
    )

-- and a call that has this passes
pub piece-passes : {k : ℕ} → Width k → (b y a d : List ℕ) → length b ≡ state_size → Taking k (state_in b) y → EnoughWords k (newly k (state_in b) y) a → EnoughWords k (newly k (state_in b) y) d
    → say_piece k b (length y) (length a) (length d) ≡ told 0 0
unfolding say_piece
piece-passes {k} w b y a d e g ra rd =
    says-done k b (length y) (length a) (length d) (piece_checks k (state_in b).total (length y) (length a) (length d))
    (record { long = e; state = g.state; piece = g.piece.size; approx = ra.holds.size; details = rd.holds.size })
    (le-ltb _ _ g.few, (le-ltb _ _ ra.most, (le-ltb _ _ rd.most, tt)))

-- ---- the end

pub finish-ready : {k : ℕ} → Width k → (b a d : List ℕ) → done (say_finish k b (length a) (length d)) ≡ true
    → (length b ≡ state_size) × Possible k (state_in b) × (3 ≤ (state_in b).total)
    × EnoughWords k (approx_length (state_in b).total - fixed (state_in b).total) a × EnoughWords k (details_length (state_in b).total - fixed (state_in b).total) d
unfolding say_finish
finish-ready {k} w b a d h =
    let q = ready k b 0 (length a) (length d) (finish_checks k (state_in b).total (length a) (length d)) h in
    let l = q.0 in
    (l.long, l.state, roomy _ _ q.1.0, room_of w.some a _ _ l.approx (roomy _ _ q.1.1.0), room_of w.some d _ _ l.details (roomy _ _ q.1.1.1.0))

pub finish-passes : {k : ℕ} → Width k → (b a d : List ℕ) → length b ≡ state_size → Possible k (state_in b) → 3 ≤ (state_in b).total
    → EnoughWords k (approx_length (state_in b).total - fixed (state_in b).total) a → EnoughWords k (details_length (state_in b).total - fixed (state_in b).total) d
    → say_finish k b (length a) (length d) ≡ told 0 0
unfolding say_finish
finish-passes {k} w b a d e p t ra rd =
    says-done k b 0 (length a) (length d) (finish_checks k (state_in b).total (length a) (length d))
    (record { long = e; state = p; piece = omega (arith, div-add-mod 0 k); approx = ra.holds.size; details = rd.holds.size })
    (le-ltb _ _ t, (le-ltb _ _ ra.most, (le-ltb _ _ rd.most, tt)))
