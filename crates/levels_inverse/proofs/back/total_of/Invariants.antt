-- `total_of` meets its contract. The invariant: what is added up, and what is left.
use Prim.Native.Nat.{◌+◌, ◌*◌, ◌/◌, ◌≤◌}
use mathlib.Core.Path.{◌≡◌}
use lib.ListN.{length}
use Rattle.std.specs.Slice.Iter.{chunks_exact_rest, chunks_exact_size}
use Rattle.base_samples.specs.Words.{words_of}
use Rattle.levels_filter.specs.Backward.{total}
use Rattle.levels_inverse.proofs.back.total_of.Given as goal

abbrev pub invariant-loop-word : goal.invariant-loop-word
invariant-loop-word l = (chunks_exact_size l.word-iterator ≡ 4) × (l.sum + total (words_of 4 (chunks_exact_rest l.word-iterator)) ≡ total (words_of 4 l.lengths)) × (l.sum + length (chunks_exact_rest l.word-iterator) / 4 * 4294967296 ≤ length l.lengths / 4 * 4294967296)
