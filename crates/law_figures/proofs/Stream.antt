-- The tables of a recording in pieces hold: each figure is computed from the definitions.
use mathlib.Core.List.{List, ◌++◌}
use mathlib.Core.Path.{◌≡◌, refl, ◌∙◌}
use Prim.Native.Nat.{ℕ}
use lib.ListN.{length}
use Rattle.base_answers.specs.Answers.{told}
use Rattle.base_lengths.specs.Lengths.{approx_length, details_length}
use Rattle.base_samples.specs.Le.{le_at, le_bytes}
use Rattle.base_samples.specs.Words.{tabulate, word_at, words_of, bytes_of}
use Rattle.base_samples.specs.Integers.{val, residue, wrap, decode, encode}
use Rattle.filter_cdf53i.specs.Lift.{detail, details, approx, approxs}
use Rattle.filter_cdf53i.specs.Bands.{low, high}
use Rattle.stream_pieces.specs.States.{state_of, stand_word, stand_in, fixed_by, rest_of}
use Rattle.stream_calls.specs.StateBytes.{state_bytes, state_in, could_be}
use Rattle.stream_calls.specs.Calls.{say_piece, fresh, say_finish}
use Rattle.law_figures.specs.Stream.{Takes, Ends, Table, none, each, wrapping, Damaged, InPieces}

-- what a done call leaves, from what it says and what it computes
takes : {b y new lows highs : List ℕ} → say_piece 1 b (length y) 2 2 ≡ told 0 0 → state_bytes (state_of 1 (stand_in 1 (state_in b) ++ y)) ≡ new → fixed_by low 1 (state_in b) y ≡ lows
    → fixed_by high 1 (state_in b) y ≡ highs → Takes b y new lows highs
takes says es ea ed = record { call = λ m. (m.answer ∙ rw says refl, m.state ∙ rw says es, m.approx ∙ rw (says, ea) refl, m.details ∙ rw (says, ed) refl) }

ends : {b lows highs : List ℕ} → say_finish 1 b 2 2 ≡ told 0 0 → rest_of low approx_length 1 (state_in b) ≡ lows → rest_of high details_length 1 (state_in b) ≡ highs → Ends b none lows highs
unfolding fresh
ends says ea ed = record { call = λ m. (m.answer ∙ rw says refl, m.state ∙ rw says refl, m.approx ∙ rw (says, ea) refl, m.details ∙ rw (says, ed) refl) }

example : Table none each
unfolding Table say_piece could_be state_of state_bytes stand_word stand_in le_at le_bytes tabulate word_at words_of bytes_of val residue wrap decode encode detail details approx approxs low high
example =
    (takes refl refl refl refl, (takes refl refl refl refl, (takes refl refl refl refl, (takes refl refl refl refl, (takes refl refl refl refl, (takes refl refl refl refl, (takes refl refl refl refl, tt)))))))

wrapped : Table none wrapping
unfolding Table say_piece could_be state_of state_bytes stand_word stand_in le_at le_bytes tabulate word_at words_of bytes_of val residue wrap decode encode detail details approx approxs low high
wrapped = (takes refl refl refl refl, (takes refl refl refl refl, (takes refl refl refl refl, tt)))

damaged : Damaged
unfolding say_piece say_finish could_be word_at le_at
damaged =
    record {
      odd = record { piece = refl; finish = refl };
      detail = record { piece = refl; finish = refl };
      even = record { piece = refl; finish = refl };
      narrow = record { piece = refl; finish = refl };
      wider = refl;
      over = record { piece = refl; finish = refl };
      at-limit = refl;
      past-limit = refl;
      byte-missing = record { piece = refl; finish = refl };
    }

pub in_pieces : InPieces
unfolding say_piece say_finish could_be state_of state_bytes stand_word stand_in fresh le_at le_bytes tabulate word_at words_of bytes_of val residue wrap decode encode detail details approx approxs low high
in_pieces =
    record {
      zeros = refl;
      example = example;
      example-end = ends refl refl refl;
      even-end = ends refl refl refl;
      joined = (refl, refl);
      wrapped = wrapped;
      wrapped-end = ends refl refl refl;
      early = refl;
      no_room = refl;
      damaged = damaged;
    }
