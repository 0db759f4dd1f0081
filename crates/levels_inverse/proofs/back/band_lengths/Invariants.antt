-- `band_lengths` meets its contract. The invariant: what is left of the lengths decides.
use Prim.Native.Nat.{◌+◌}
use mathlib.Core.Path.{◌≡◌}
use Rattle.std.specs.Slice.Iter.{chunks_exact_rest, chunks_exact_size}
use Rattle.base_answers.specs.Checks.{passes}
use Rattle.base_samples.specs.Words.{words_of}
use Rattle.levels_filter.specs.Backward.{total, band_checks}
use Rattle.levels_inverse.proofs.back.band_lengths.Given as goal

abbrev pub invariant-loop-word : goal.invariant-loop-word
invariant-loop-word l =
    (chunks_exact_size l.word-iterator ≡ 4)
    × (l.n + total (words_of 4 (chunks_exact_rest l.word-iterator)) ≡ l.a + total (words_of 4 l.lengths))
    × (passes (band_checks l.w l.a (words_of 4 l.lengths)) ≡ passes (band_checks l.w l.n (words_of 4 (chunks_exact_rest l.word-iterator))))
