-- The 16 bytes of a state and the test of them: written and read again, which bytes pass, and that what samples leave passes. Over the width.
use mathlib.Core.Bool.{Bool, true, false, and-eq-true_iff}
use mathlib.Core.List.{List, [], ◌∷◌}
use mathlib.Core.Path.{◌≡◌, refl, ◌∙◌}
use Prim.Native.Nat.{ℕ, ◌+◌, ◌-◌, ◌*◌, ◌/◌, ◌^◌, ◌≤◌, ◌<◌}
use native.Mathlib.Nat.{mul-le-mul_left, mod-eq_of_lt, zero-div}
use native.Mathlib.Omega.{arith}
use borrow.Author.Tests.{ltb-true, lt-ltb, leb-true, le-leb, eqb-true, eq-eqb}
use lib.Dec.{ltb}
use lib.ListN.{length}
use Rattle.base_lengths.specs.Lengths.{most_samples}
use Rattle.base_samples.specs.Le.{Bytes, le_bytes}
use Rattle.base_samples.specs.Words.{tabulate, word_at, words_of, bytes_of}
use Rattle.base_samples.specs.Integers.{Width, encode}
use Rattle.base_samples.proofs.Words.{holds, length-bytes, word_bytes, word-take, word_lt, bytes-words}
use Rattle.filter_cdf53i.specs.Bands.{high}
use Rattle.filter_cdf53i.proofs.Lengths.{bytes-of}
use Rattle.stream_pieces.specs.declared.recorder.Recorder.{Recorder}
use Rattle.stream_pieces.specs.States.{fixed, waiting, state_of, bound, Possible}
use Rattle.stream_pieces.proofs.Kept.{word-past, word_none, kept}
use Rattle.stream_calls.specs.StateBytes.{state_size, state_bytes, state_in, could_be}
use Rattle.stream_calls.specs.Calls.{fresh}

-- ---- as bytes

pub length-state : (s : Recorder) → length (state_bytes s) ≡ state_size
unfolding state_bytes
length-state s = length-bytes 4 (s.total ∷ s.even ∷ s.odd ∷ s.detail ∷ [])

-- a state whose numbers have 4 bytes is read back as it was written, and 16 bytes are written back as they were read
state-back : (s : Recorder) → s.total < 256 ^ 4 → s.even < 256 ^ 4 → s.odd < 256 ^ 4 → s.detail < 256 ^ 4 → state_in (state_bytes s) ≡ s
unfolding state_bytes
state-back s t e o d =
    let ws = s.total ∷ s.even ∷ s.odd ∷ s.detail ∷ [] in
    λ i. record {
      total = (word_bytes 4 ws 0 (omega arith) ∙ mod-eq_of_lt t) i;
      even = (word_bytes 4 ws 1 (omega arith) ∙ mod-eq_of_lt e) i;
      odd = (word_bytes 4 ws 2 (omega arith) ∙ mod-eq_of_lt o) i;
      detail = (word_bytes 4 ws 3 (omega arith) ∙ mod-eq_of_lt d) i;
    }

pub state-again : (b : List ℕ) → Bytes b → length b ≡ state_size → state_bytes (state_in b) ≡ b
unfolding state_bytes words_of tabulate
state-again b p e = let h = holds {k = 4} (omega arith) b 4 e in rw h.count at (bytes-words 4 b p 4 h)

-- a possible state's numbers have 4 bytes
pub possible-back : {k : ℕ} → Width k → (s : Recorder) → Possible k s → state_in (state_bytes s) ≡ s
possible-back {k} w s p =
    let t = s.total in
    state-back s (omega (arith, p.few)) (small (ltb 0 (waiting t)) p.even) (small (ltb 1 (waiting t)) p.odd) (small (ltb 0 (fixed t)) p.detail)
  where
    small : {u : ℕ} (kept : Bool) → u < bound k kept → u < 256 ^ 4
    small true h = omega (arith, w.most)
    small false h = omega arith

-- ---- the test passes exactly for 16 bytes that hold a possible state

pub could-be : {k : ℕ} (b : List ℕ) → could_be k b ≡ true → (length b ≡ state_size) × Possible k (state_in b)
unfolding could_be
could-be b h =
    let q = (and-eq-true_iff _ _).0 h in
    let q₁ = (and-eq-true_iff _ _).0 q.1 in
    let q₂ = (and-eq-true_iff _ _).0 q₁.1 in
    let q₃ = (and-eq-true_iff _ _).0 q₂.1 in (
      eqb-true (length b) state_size q.0,
      record { few = leb-true _ most_samples q₁.0; even = ltb-true _ _ q₂.0; odd = ltb-true _ _ q₃.0; detail = ltb-true _ _ q₃.1 },
    )

pub passes : {k : ℕ} (b : List ℕ) → length b ≡ state_size → Possible k (state_in b) → could_be k b ≡ true
unfolding could_be
passes b e p = rw (eq-eqb _ _ e, le-leb _ _ p.few, lt-ltb _ _ p.even, lt-ltb _ _ p.odd, lt-ltb _ _ p.detail)

pub possible-could : {k : ℕ} → Width k → (s : Recorder) → Possible k s → could_be k (state_bytes s) ≡ true
possible-could {k} w s p = passes (state_bytes s) (length-state s) (rw (possible-back w s p) p)

-- ---- what samples leave is a possible state

pub left-possible : {k : ℕ} → Width k → (x : List ℕ) → Bytes x → length x ≡ k * (length x / k) → length x / k ≤ most_samples → Possible k (state_of k x)
unfolding state_of high encode
left-possible {k} w x b e few =
    let t = length x / k in
    let m = fixed t in
    record {
      few = few;
      even = kept k 0 (waiting t) _ (λ h. word_lt k x b _) (λ h. past (2 * m) (omega arith));
      odd = kept k 1 (waiting t) _ (λ h. word_lt k x b _) (λ h. past (2 * m + 1) (omega arith));
      detail =
          kept k 0 m _
          (λ h. rw (word-take k (high k x) m (m - 1) (omega arith)) (word_lt k (high k x) (bytes-of k _) _))
          (λ h. word_none k (high k x) m (m - 1) (omega arith));
    }
  where
    past : (j : ℕ) → length x / k ≤ j → word_at k x j ≡ 0
    past j h = word-past k x j (rw e (mul-le-mul_left k h))

-- no samples leave 16 zeros
pub none-fresh : (k : ℕ) → 0 < k → state_bytes (state_of k []) ≡ fresh
unfolding state_of state_bytes bytes_of le_bytes fresh
none-fresh k p = rw (zero-div k, word-past k [] 0 (omega arith), word-past k [] 1 (omega arith), word_none k (high k []) 0 0 refl)
