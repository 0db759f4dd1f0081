-- `next` meets its contract: what waits after the piece, and the last detail, of the piece or as it was.
use borrow.Author.Tests.{eqb-true, eqb-false}
use mathlib.Core.Bool.{Bool, true, false, cond}
use mathlib.Core.List.{List, ◌++◌}
use mathlib.Core.Logic.{⊎_elim}
use mathlib.Core.Path.{◌≡◌, refl, ap, sym, ◌∙◌}
use Prim.Native.Nat.{ℕ, ◌+◌, ◌-◌, ◌*◌, ◌/◌, ◌^◌, ◌<◌}
use native.Mathlib.Omega.{arith}
use lib.Dec.{eqb}
use lib.ListN.{length, take}
use Rattle.base_samples.specs.Words.{tabulate, word_at, bytes_of, Holds}
use Rattle.base_samples.proofs.LeLaws.{top_pos}
use Rattle.base_samples.proofs.Words.{holds, length-bytes, length-tabulate, word-take, word-table}
use Rattle.base_samples.proofs.IntegerLaws.{residue-lt}
use Rattle.filter_cdf53i.specs.Bands.{high, detail_word}
use Rattle.filter_cdf53i.proofs.Words.{high_word}
use Rattle.stream_pieces.specs.declared.recorder.Recorder.{Recorder}
use Rattle.stream_pieces.specs.States.{fixed, state_of, stand_in, fixed_by}
use Rattle.stream_pieces.specs.Steps.{next_word, next_detail, newly, Taking}
use Rattle.stream_pieces.proofs.Kept.{word_none, kept-or}
use Rattle.stream_pieces.proofs.Tables.{between-high}
use Rattle.stream_pieces.proofs.NextWords.{count, detail-before}
use Rattle.stream_calls.proofs.bands.next.Goals as goal

module _ {k : ℕ} {s : Recorder} {y : List ℕ} (g : Taking k s y) where
  abbrev x : List ℕ
  x = stand_in k s ++ y

  abbrev m : ℕ
  m = fixed (s.total + length y / k)

  -- the state after the piece, which fixes n of each band, has the last detail that is written, of the word u
  goes_on : {n q e o u : ℕ} → n ≡ newly k s y → q ≡ length y / k → e ≡ next_word k s y (2 * n) → o ≡ next_word k s y (2 * n + 1) → u ≡ word_at k (take (k * m) (high k x)) (m - 1)
      → record { total = s.total + q; even = e; odd = o; detail = u } ≡ state_of k x
  unfolding state_of
  goes_on {n} en eq ee eo eu =
      let at : 2 * fixed s.total + 2 * n ≡ 2 * m = omega arith in
      let next : 2 * fixed s.total + (2 * n + 1) ≡ 2 * m + 1 = omega arith in
      rw (count g) (λ i. record { total = s.total + eq i; even = (ee ∙ ap (word_at k x) at) i; odd = (eo ∙ ap (word_at k x) next) i; detail = eu i })

  -- a written detail
  written : 0 < m → detail_word k x (m - 1) ≡ word_at k (take (k * m) (high k x)) (m - 1)
  written h = sym (word-take k (high k x) m (m - 1) (omega arith) ∙ high_word k x (m - 1) (omega (arith, count g)))

  module _ {d : List ℕ} (e : d ≡ fixed_by high k s y) where
    words : d ≡ bytes_of k (tabulate (newly k s y) (next_detail k s y))
    words = e ∙ between-high k x (fixed s.total) m (omega arith) (omega (arith, count g))

    fits : Holds k (newly k s y) d
    fits = holds g.width.some d (newly k s y) (ap length words ∙ length-bytes k _ ∙ ap (λ (n : ℕ). k * n) (length-tabulate (newly k s y) (next_detail k s y)))

    -- the last detail as the code picks it: the one before where none is new, and else the last new one
    last-is : cond (eqb (length d / k) 0) s.detail (word_at k d (length d / k - 1)) ≡ word_at k (take (k * m) (high k x)) (m - 1)
    unfolding detail_word
    last-is = rw fits.count (pick (eqb (newly k s y) 0) refl)
      where
        pick : (t : Bool) → eqb (newly k s y) 0 ≡ t → cond t s.detail (word_at k d (newly k s y - 1)) ≡ word_at k (take (k * m) (high k x)) (m - 1)
        pick true h =
            let none = eqb-true (newly k s y) 0 h in
            ⊎_elim
            (λ q. detail-before g q.0 ∙ ap (detail_word k x) (omega (arith, none, q.0)) ∙ written (omega (arith, none, q.0)))
            (λ q. q.1 ∙ sym (word_none k (high k x) m (m - 1) (omega (arith, none, q.0))))
            (kept-or k 0 (fixed s.total) s.detail g.state.detail)
        pick false h =
            let some = eqb-false (newly k s y) 0 h in
            ap (λ (l : List ℕ). word_at k l (newly k s y - 1)) words
            ∙ word-table k (newly k s y) (next_detail k s y) (newly k s y - 1) (omega arith) (residue-lt (256 ^ k) _ (top_pos k))
            ∙ ap (detail_word k x) (omega arith)
            ∙ written (omega arith)

pub returns : goal.returns
returns g c =
    goes_on c.requires.taking (c.count-n.ensures ∙ (fits c.requires.taking c.requires.d_value).count) c.count.ensures (c.to_word.ensures ∙ c.word_of.ensures) (c.to_word-2.ensures ∙ c.word_of-2.ensures) (c.last_detail.ensures ∙ last-is c.requires.taking c.requires.d_value)
