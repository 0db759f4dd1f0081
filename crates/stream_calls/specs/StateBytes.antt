-- The state between two pieces of a recording as 16 bytes, from C-15, and which bytes calls can leave. Over k bytes a sample.
use Rattle.std.specs.Prelude.{Bool, ◌&&◌, List, [], ◌∷◌, ℕ, ltb, leb, eqb, length}
use Rattle.base_lengths.specs.Lengths.{most_samples}
use Rattle.base_samples.specs.Words.{word_at, bytes_of}
use Rattle.stream_pieces.specs.declared.recorder.Recorder.{Recorder}
use Rattle.stream_pieces.specs.States.{fixed, waiting, bound}

-- ---- four numbers of 4 bytes

abbrev pub state_size : ℕ
state_size = 16

unfoldable pub state_bytes : Recorder → List ℕ
state_bytes s = bytes_of 4 (s.total ∷ s.even ∷ s.odd ∷ s.detail ∷ [])

abbrev pub state_in : List ℕ → Recorder
state_in b = record { total = word_at 4 b 0; even = word_at 4 b 1; odd = word_at 4 b 2; detail = word_at 4 b 3 }

-- ---- "a state no calls could have left"

-- whether u is a word of k bytes where one is kept, and 0 where none is
abbrev pub is_kept : ℕ → Bool → ℕ → Bool
is_kept k kept u = ltb u (bound k kept)

unfoldable pub could_be : ℕ → List ℕ → Bool
could_be k b =
    let s = state_in b in
    let t = s.total in
    eqb (length b) state_size
    && (leb t most_samples
    && (is_kept k (ltb 0 (waiting t)) s.even
    && (is_kept k (ltb 1 (waiting t)) s.odd
    && is_kept k (ltb 0 (fixed t)) s.detail)))
