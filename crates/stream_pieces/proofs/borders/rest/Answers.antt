-- `rest` meets its contract: the last approximation, and where an odd sample waits its detail, whose right neighbour is mirrored.
use borrow.Author.Tests.{eqb-true, eqb-false}
use mathlib.Core.List.{List}
use mathlib.Core.Path.{◌≡◌, refl, sym, ap, ◌∙◌}
use Prim.Native.Nat.{ℕ, ◌+◌, ◌-◌, ◌/◌, ◌^◌, ◌≤◌}
use native.Mathlib.Omega.{arith}
use lib.IntN.{pos, ◌+ℤ◌, ◌-ℤ◌}
use lib.ListN.{length}
use lib.Signed.{shr_z}
use Rattle.base_lengths.specs.Lengths.{approx_length, details_length}
use Rattle.base_samples.specs.Words.{put_at, Holds}
use Rattle.base_samples.specs.Integers.{Width, val, residue}
use Rattle.base_samples.proofs.Fronts.{front-none, front-more, front_at}
use Rattle.filter_cdf53i.specs.Bands.{low, high, detail_word, approx_word}
use Rattle.filter_cdf53i.proofs.WordTurns.{detail-at, approx-from}
use Rattle.stream_pieces.specs.declared.recorder.Recorder.{Recorder}
use Rattle.stream_pieces.specs.States.{fixed, Possible, stand_in, rest_of}
use Rattle.stream_pieces.proofs.Tables.{some_words, lows-are, highs-are}
use Rattle.stream_pieces.proofs.Stands.{count-stand, even_is, odd_is, detail-kept}
use Rattle.stream_pieces.proofs.borders.rest.Goals as goal

module _ {k : ℕ} (w : Width k) (s : Recorder) (p : Possible k s) (long : 3 ≤ s.total) where
  abbrev m : ℕ
  m = fixed s.total

  count : length (stand_in k s) / k ≡ s.total
  count = count-stand w s p

  -- the detail of the odd sample that waits, from the words of both
  odd-detail : {e o : ℕ} → e ≡ s.even → o ≡ s.odd → details_length s.total ≡ m + 1 → residue (256 ^ k) (val (256 ^ k) o -ℤ shr_z (val (256 ^ k) e +ℤ val (256 ^ k) e) 2) ≡ detail_word k (stand_in k s) m
  unfolding detail_word
  odd-detail ee eo h = rw (ee, eo) (rw (even_is w s p, odd_is w s p) at (detail-at w (stand_in k s) m m (omega (arith, count)) (omega (arith, count))))

  -- the last detail that was written, of the word b
  before : {b : ℕ} → b ≡ s.detail → b ≡ detail_word k (stand_in k s) (m - 1)
  before eb = eb ∙ detail-kept w s p (omega arith)

  -- all that is left of each band: the last approximation is of the even sample that waits, of the word e, beside the last detail, of the word z
  lows-left : {a a' : List ℕ} {r e b z u : ℕ} → Holds k (approx_length s.total - m) a → r ≡ details_length s.total - 1
      → e ≡ s.even → b ≡ s.detail → z ≡ detail_word k (stand_in k s) r
      → u ≡ residue (256 ^ k) (val (256 ^ k) e +ℤ shr_z (val (256 ^ k) b +ℤ val (256 ^ k) z +ℤ pos 2) 4) → a' ≡ put_at k a 0 u → a' ≡ rest_of low approx_length k s
  lows-left {r = r} h er ee eb ez eu put =
      let last = approx-from w (stand_in k s) m r (omega (arith, count)) (omega (arith, count)) (omega (arith, count)) (ee ∙ sym (even_is w s p)) (before eb) ez in
      lows-are k (stand_in k s) m (approx_length s.total) (omega arith) (omega (arith, count))
      (front_at _ (front-more (front-none _ h) refl (omega arith) (eu ∙ last ∙ ap (approx_word k (stand_in k s)) (omega arith)) put) (omega arith))

  highs-left : {d d' : List ℕ} {u : ℕ} → Holds k (details_length s.total - m) d → details_length s.total ≡ m + 1 → u ≡ detail_word k (stand_in k s) m → d' ≡ put_at k d 0 u → d' ≡ rest_of high details_length k s
  highs-left h e eu put =
      highs-are k (stand_in k s) m (details_length s.total) (omega arith) (omega (arith, count))
      (front_at _ (front-more (front-none _ h) refl (omega arith) (eu ∙ ap (detail_word k (stand_in k s)) (omega arith)) put) (omega arith))

pub returns-then-is_empty-clause-a_after : goal.returns-then-is_empty-clause-a_after
returns-then-is_empty-clause-a_after g c =
    let s = c.args.s in
    let w = g.met.S.Sample.width in
    let p = c.requires.possible.0 in
    let long = c.requires.possible.1 in
    let none : details_length s.total ≡ m w s p long = omega (arith, c.requires.holds.1.most, eqb-true _ 0 (sym c.is_empty.ensures ∙ c.if-is_empty.true)) in
    lows-left w s p long c.requires.holds.0 (omega (arith, none)) c.of_word-even.ensures c.of_word-detail.ensures (before w s p long c.of_word-detail.ensures) c.approx_of.ensures c.put.ensures

pub returns-clause-a_after : goal.returns-clause-a_after
returns-clause-a_after g c =
    let s = c.args.s in
    let w = g.met.S.Sample.width in
    let p = c.requires.possible.0 in
    let long = c.requires.possible.1 in
    let one : details_length s.total ≡ m w s p long + 1 = omega (arith, some_words c.requires.holds.1 (eqb-false _ 0 (sym c.is_empty.ensures ∙ c.if-is_empty.false))) in
    let last = c.detail_of-h.ensures ∙ odd-detail w s p long c.of_word-even.ensures c.of_word.ensures one in
    lows-left w s p long c.requires.holds.0 (omega (arith, one)) c.of_word-even.ensures c.of_word-detail.ensures last c.approx_of-2.ensures c.put-3.ensures

pub returns-clause-d_after : goal.returns-clause-d_after
returns-clause-d_after g c =
    let s = c.args.s in
    let w = g.met.S.Sample.width in
    let p = c.requires.possible.0 in
    let long = c.requires.possible.1 in
    let one : details_length s.total ≡ m w s p long + 1 = omega (arith, some_words c.requires.holds.1 (eqb-false _ 0 (sym c.is_empty.ensures ∙ c.if-is_empty.false))) in
    highs-left w s p long c.requires.holds.1 one (c.detail_of-h.ensures ∙ odd-detail w s p long c.of_word-even.ensures c.of_word.ensures one) c.put-2.ensures
