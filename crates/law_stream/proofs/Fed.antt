-- A recording cut anyhow, from C-15: what the calls so far have left and written, that finishing completes the two bands of one level, and when a call is done.
-- Over the width.
use mathlib.Core.Bool.{true}
use mathlib.Core.List.{List, [], ◌++◌, append-nil}
use mathlib.Core.Path.{◌≡◌, sym, ap, ap₂, ◌∙◌}
use Prim.Native.Nat.{ℕ, ◌+◌, ◌-◌, ◌*◌, ◌/◌, ◌%◌, ◌≤◌}
use native.Mathlib.Nat.{mul-zero, mul-sub, mul-le-mul_left, zero-div}
use native.Mathlib.Omega.{arith}
use lib.ListN.{length, take, drop, take-append-drop}
use lib.Seq.{length-slice, length-take-le, take_all, take_at, take-take, drop_at}
use Rattle.base_answers.specs.declared.err.Answer.{Answer}
use Rattle.base_answers.specs.Answers.{told}
use Rattle.base_answers.specs.Checks.{in_front}
use Rattle.base_answers.proofs.Endings.{is-done}
use Rattle.base_lengths.specs.Lengths.{most_samples, approx_length, details_length}
use Rattle.base_samples.specs.Le.{Bytes}
use Rattle.base_samples.specs.Words.{Holds}
use Rattle.base_samples.specs.Integers.{Width}
use Rattle.base_samples.proofs.Words.{holds}
use Rattle.filter_cdf53i.specs.Bands.{low, high, EnoughWords}
use Rattle.filter_cdf53i.proofs.Lengths.{length-low, length_high, bytes-join}
use Rattle.stream_pieces.specs.declared.recorder.Recorder.{Recorder}
use Rattle.stream_pieces.specs.States.{fixed, state_of, Possible, stand_in, between, fixed_by, rest_of}
use Rattle.stream_pieces.specs.Steps.{Taking}
use Rattle.stream_pieces.proofs.Joins.{joined}
use Rattle.stream_pieces.proofs.Stands.{length-stand, stands}
use Rattle.stream_calls.specs.StateBytes.{state_size, state_bytes, state_in, could_be}
use Rattle.stream_calls.specs.Calls.{say_piece, Piece, fresh, say_finish, Finish}
use Rattle.stream_calls.proofs.States.{length-state, possible-back, possible-could, left-possible, none-fresh}
use Rattle.stream_calls.proofs.Ready.{piece-ready, piece-passes, finish-ready, finish-passes}
use Rattle.stream_calls.proofs.Streams.{refused-stays, done-leaves}
use Rattle.law_stream.specs.Feeds.{added, Fed, begun, taken, refused, unfinished, finished, After, all_lows, all_highs}
use Rattle.law_stream.proofs.Onward.{low-stays, high-stays, state-onward, low-onward, high-onward}

-- a call left coefficients i to j of the band s at the front of the area a
module _ (k i j : ℕ) (s a : List ℕ) {new a' : List ℕ} (long : k * j ≤ length s) (en : new ≡ between k i j s) (ea : a' ≡ in_front new a) where
  length-new : length new ≡ k * (j - i)
  length-new = ap length en ∙ length-slice (k * i) (k * j) s long ∙ sym (mul-sub k j i)

  -- the first i, joined with these, are the first j
  grown : {l : List ℕ} → i ≤ j → l ≡ take (k * i) s → l ++ take (k * (j - i)) a' ≡ take (k * j) s
  grown h el =
      let front = ap (take (k * (j - i))) ea ∙ take_at new (drop (length new) a) (k * (j - i)) length-new ∙ en in
      ap₂ (λ (p q : List ℕ). p ++ q) (el ∙ sym (take-take (k * i) (k * j) s (mul-le-mul_left k h))) front ∙ take-append-drop (k * i) (take (k * j) s)

  -- and behind these the area is as it was
  behind : drop (k * (j - i)) a' ≡ drop (k * (j - i)) a
  behind = ap (drop (k * (j - i))) ea ∙ drop_at new (drop (length new) a) (k * (j - i)) length-new ∙ ap (λ (n : ℕ). drop n a) length-new

module _ {k : ℕ} (w : Width k) {x lows highs b : List ℕ} (h : After k x lows highs b) where
  abbrev t : ℕ
  t = length x / k

  -- ---- the state stands for a recording that leaves it, as x does

  abbrev z : List ℕ
  z = stand_in k (state_of k x)

  sixteen : length b ≡ state_size
  sixteen = ap length h.state ∙ length-state (state_of k x)

  possible : Possible k (state_of k x)
  possible = left-possible w x h.bytes h.whole h.few

  read : state_in b ≡ state_of k x
  read = ap state_in h.state ∙ possible-back w (state_of k x) possible

  standing : Possible k (state_in b)
  standing = rw read possible

  total : (state_in b).total ≡ t
  unfolding state_of
  total = ap (λ (s : Recorder). s.total) read

  pub could : could_be k b ≡ true
  could = rw h.state (possible-could w (state_of k x) possible)

  size : length z ≡ k * t
  unfolding state_of
  size = length-stand w (state_of k x) possible

  same : state_of k z ≡ state_of k x
  same = stands w (state_of k x) possible

  -- so a piece y fixes what it fixes after x

  abbrev onward : List ℕ → ℕ
  onward y = t + length y / k

  module _ (y : List ℕ) (hy : length y ≡ k * (length y / k)) where
    low_by : fixed_by low k (state_in b) y ≡ between k (fixed t) (fixed (onward y)) (low k (x ++ y))
    unfolding state_of
    low_by =
        ap (λ (s : Recorder). fixed_by low k s y) read
        ∙ low-onward w z x y t (length y / k) size h.whole hy same (fixed (onward y)) (omega arith) (omega arith) (λ g. omega arith)

    high-by : fixed_by high k (state_in b) y ≡ between k (fixed t) (fixed (onward y)) (high k (x ++ y))
    unfolding state_of
    high-by =
        ap (λ (s : Recorder). fixed_by high k s y) read
        ∙ high-onward w z x y t (length y / k) size h.whole hy same (fixed (onward y)) (omega arith) (omega arith)

    state-by : state_bytes (state_of k (stand_in k (state_in b) ++ y)) ≡ state_bytes (state_of k (x ++ y))
    state-by =
        ap (λ (s : Recorder). state_bytes (state_of k (stand_in k s ++ y))) read
        ∙ ap state_bytes (state-onward w z x y t (length y / k) size h.whole hy same)

  -- and the end leaves what x leaves

  low-rest : 2 ≤ t → rest_of low approx_length k (state_in b) ≡ between k (fixed t) (approx_length t) (low k x)
  unfolding state_of
  low-rest two =
      ap (rest_of low approx_length k) read
      ∙ (rw (append-nil z, append-nil x) at (low-onward w z x [] t 0 size h.whole (sym (mul-zero k)) same (approx_length t) (omega arith) (omega arith) (λ g. omega arith)))

  high-rest : rest_of high details_length k (state_in b) ≡ between k (fixed t) (details_length t) (high k x)
  unfolding state_of
  high-rest =
      ap (rest_of high details_length k) read
      ∙ (rw (append-nil z, append-nil x) at (high-onward w z x [] t 0 size h.whole (sym (mul-zero k)) same (details_length t) (omega arith) (omega arith)))

  -- ---- a done piece

  module _ (y : List ℕ) {a d : List ℕ} {r : Answer} {b' a' d' : List ℕ} (p : Piece k b y a d r b' a' d') (done : r.number ≡ 0) where
    ready : Taking k (state_in b) y
    ready = (piece-ready w b y a d (is-done (say_piece k b (length y) (length a) (length d)) r p.answer done)).1

    whole-y : length y ≡ k * (length y / k)
    whole-y = ready.piece.size

    all : Holds k (onward y) (x ++ y)
    all = joined w x y t (length y / k) h.whole whole-y

    long-low : k * fixed (onward y) ≤ length (low k (x ++ y))
    long-low = rw (length-low k (x ++ y), all.count) (mul-le-mul_left k (omega arith))

    long-high : k * fixed (onward y) ≤ length (high k (x ++ y))
    long-high = rw (length_high k (x ++ y), all.count) (mul-le-mul_left k (omega arith))

    piece-after : Bytes y → After k (x ++ y) (lows ++ take (added k x y) a') (highs ++ take (added k x y) d') b'
    piece-after by =
        let left = done-leaves p done in
        record {
          bytes = bytes-join x y h.bytes by;
          whole = rw all.count all.size;
          few = omega (arith, all.count, ready.few, total);
          state = left.0 ∙ state-by y whole-y;
          approx =
              rw all.count
              (grown k (fixed t) (fixed (onward y)) (low k (x ++ y)) a long-low (low_by y whole-y) left.1
              (omega arith) (h.approx ∙ sym (low-stays w x y t (length y / k) h.whole whole-y)));
          details =
              rw all.count
              (grown k (fixed t) (fixed (onward y)) (high k (x ++ y)) d long-high (high-by y whole-y) left.2
              (omega arith) (h.details ∙ sym (high-stays w x y t (length y / k) h.whole whole-y)));
        }

    piece-behind : (drop (added k x y) a' ≡ drop (added k x y) a) × (drop (added k x y) d' ≡ drop (added k x y) d)
    piece-behind =
        let left = done-leaves p done in
        rw all.count (
          behind k (fixed t) (fixed (onward y)) (low k (x ++ y)) a long-low (low_by y whole-y) left.1,
          behind k (fixed t) (fixed (onward y)) (high k (x ++ y)) d long-high (high-by y whole-y) left.2,
        )

  -- ---- the end

  pub finish-long : {a d : List ℕ} {r : Answer} {b' a' d' : List ℕ} → Finish k b a d r b' a' d' → r.number ≡ 0 → 3 ≤ t
  finish-long {a} {d} {r} p done =
      omega (arith, total, (finish-ready w b a d (is-done (say_finish k b (length a) (length d)) r p.answer done)).2)

-- no samples yet
begun-after : {k : ℕ} → Width k → After k [] [] [] fresh
begun-after {k} w =
    record {
      bytes = record { byte = λ i. omega arith };
      whole = rw (zero-div k) (sym (mul-zero k));
      few = rw (zero-div k) (omega arith);
      state = sym (none-fresh k w.some);
      approx = rw (zero-div k, mul-zero k);
      details = rw (zero-div k, mul-zero k);
    }

-- ---- after any calls

module _ {k : ℕ} (w : Width k) where
  -- the state is the one that x leaves, and what is fixed of each band has been written
  pub fed : {x lows highs b : List ℕ} → Fed k x lows highs b → After k x lows highs b
  fed begun = begun-after w
  fed (taken {y = y} f by p n) = piece-after w (fed f) y p n by
  fed (refused f y p n) = rw (refused-stays p n).0 (fed f)
  fed (unfinished f p n) = rw (refused-stays p n).0 (fed f)
  fed (finished f p n) = rw (done-leaves p n).0 (begun-after w)

  module _ {x lows highs b : List ℕ} (f : Fed k x lows highs b) where
    -- the state counts the samples
    pub fed-samples : (state_in b).total ≡ length x / k
    fed-samples = total w (fed f)

    -- "after t samples .. floor((t-1)/2) of each band have been written in total"
    pub fed-written : (length lows ≡ k * fixed (length x / k)) × (length highs ≡ k * fixed (length x / k))
    fed-written =
        let h = fed f in (
          ap length h.approx ∙ length-take-le (k * fixed (length x / k)) (low k x) (rw (length-low k x) (mul-le-mul_left k (omega arith))),
          ap length h.details ∙ length-take-le (k * fixed (length x / k)) (high k x) (rw (length_high k x) (mul-le-mul_left k (omega arith))),
        )

    -- a done call writes just those: behind them both areas are as they were
    pub piece-spares : (y : List ℕ) {a d : List ℕ} {r : Answer} {b' a' d' : List ℕ} → Piece k b y a d r b' a' d' → r.number ≡ 0
        → (drop (added k x y) a' ≡ drop (added k x y) a) × (drop (added k x y) d' ≡ drop (added k x y) d)
    piece-spares y p done = piece-behind w (fed f) y p done

    module _ {a d : List ℕ} {r : Answer} {b' a' d' : List ℕ} (p : Finish k b a d r b' a' d') (done : r.number ≡ 0) where
      long : 3 ≤ length x / k
      long = finish-long w (fed f) p done

      pub finish-spares : let t = length x / k in (drop (k * (approx_length t - fixed t)) a' ≡ drop (k * (approx_length t - fixed t)) a)
          × (drop (k * (details_length t - fixed t)) d' ≡ drop (k * (details_length t - fixed t)) d)
      finish-spares =
          let t = length x / k in
          let h = fed f in
          let left = done-leaves p done in (
            behind k (fixed t) (approx_length t) (low k x) a (omega (arith, length-low k x)) (low-rest w h (omega (arith, long))) left.1,
            behind k (fixed t) (details_length t) (high k x) d (omega (arith, length_high k x)) (high-rest w h) left.2,
          )

      -- and finishing, where it is done, completes the bands of x, however it was cut, and leaves a fresh state
      pub cut-anyhow : (all_lows k x lows a' ≡ low k x) × (all_highs k x highs d' ≡ high k x) × (b' ≡ fresh)
      cut-anyhow =
          let t = length x / k in
          let h = fed f in
          let left = done-leaves p done in (
            grown k (fixed t) (approx_length t) (low k x) a (omega (arith, length-low k x)) (low-rest w h (omega (arith, long))) left.1 (omega arith) h.approx
                ∙ take_all (k * approx_length t) (low k x) (omega (arith, length-low k x)),
            grown k (fixed t) (details_length t) (high k x) d (omega (arith, length_high k x)) (high-rest w h) left.2 (omega (arith, long)) h.details
                ∙ take_all (k * details_length t) (high k x) (omega (arith, length_high k x)),
            left.0,
          )

    -- a call is done on whole samples within the limit, with room for what it writes
    pub piece-fits : (y a d : List ℕ) → length y ≡ k * (length y / k) → let t = length x / k in let n = t + length y / k in n ≤ most_samples
        → EnoughWords k (fixed n - fixed t) a → EnoughWords k (fixed n - fixed t) d → say_piece k b (length y) (length a) (length d) ≡ told 0 0
    piece-fits y a d e few ra rd =
        let h = fed f in
        let n = total w h in
        piece-passes w b y a d (sixteen w h) (record { width = w; state = standing w h; piece = holds w.some y (length y / k) e; few = rw n few }) (rw n ra) (rw n rd)

    pub finish-fits : (a d : List ℕ) → let t = length x / k in 3 ≤ t → EnoughWords k (approx_length t - fixed t) a → EnoughWords k (details_length t - fixed t) d
        → say_finish k b (length a) (length d) ≡ told 0 0
    finish-fits a d long ra rd = let h = fed f in let n = total w h in finish-passes w b a d (sixteen w h) (standing w h) (rw n long) (rw n ra) (rw n rd)

-- ---- the room that these ask

-- a piece of n samples: of each band n / 2, rounded up, is enough
pub piece-room : (t n : ℕ) → fixed (t + n) - fixed t ≤ (n + 1) / 2
piece-room t n = omega arith

-- the end: one approximation, and one detail where t is even
pub end-room : (t : ℕ) → 3 ≤ t → (approx_length t - fixed t ≡ 1) × (details_length t - fixed t ≡ (t + 1) % 2)
end-room t long = (omega arith, omega arith)
