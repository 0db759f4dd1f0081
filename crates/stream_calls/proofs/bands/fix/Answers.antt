-- `fix` meets its contract: the first coefficients and the others are all that the piece fixes.
use borrow.Author.Tests.{eqb-false}
use mathlib.Core.List.{List, ◌++◌}
use mathlib.Core.Path.{◌≡◌, ap₂, sym, ◌∙◌}
use Prim.Native.Nat.{ℕ, ◌+◌, ◌-◌, ◌*◌, ◌/◌, ◌≤◌, ◌<◌}
use native.Mathlib.Nat.{mul-le-mul_left}
use native.Mathlib.Omega.{arith}
use lib.ListN.{length, drop}
use Rattle.base_samples.specs.Words.{tabulate, bytes_of, Front}
use Rattle.filter_cdf53i.specs.Bands.{low, high}
use Rattle.stream_pieces.specs.declared.recorder.Recorder.{Recorder}
use Rattle.stream_pieces.specs.States.{fixed, waiting, stand_in, fixed_by}
use Rattle.stream_pieces.specs.Steps.{next_detail, next_approx, newly, Taking}
use Rattle.stream_pieces.proofs.Tables.{some_words, between-low, between-high}
use Rattle.stream_pieces.proofs.NextWords.{count}
use Rattle.stream_calls.specs.Loops.{Others}
use Rattle.stream_calls.proofs.Rears.{rear_of, rear-is}
use Rattle.stream_calls.proofs.Others.{holds-z, details-all, approxs-all}
use Rattle.stream_calls.proofs.bands.fix.Goals as goal

-- c coefficients of each band read 2 c + 1 samples, of which v waited; the others read all but two of them
enough : (c v n : ℕ) → 0 < c → 2 * c < v + n → v ≤ 2 → 2 * (c - 1) < n - (2 - v)
enough c v n some h two = omega arith

-- where a coefficient is new, the even sample from which the others are read is within the piece
module _ {k : ℕ} {s : Recorder} {y : List ℕ} (g : Taking k s y) (some : 0 < newly k s y) {b v : ℕ} (eb : b ≡ k) (e : v ≡ waiting s.total) where
  rear-within : b * (2 - v) ≤ length y
  rear-within = rw (eb, e, g.piece.size) (mul-le-mul_left k (omega arith))

  rear : rear_of (b * (2 - v)) y ≡ drop (k * (2 - waiting s.total)) y
  rear = rear-is (b * (2 - v)) y ∙ ap₂ (λ (c u : ℕ). drop (c * (2 - u)) y) eb e

  asked : {a d : List ℕ} → Front k (newly k s y) 1 (next_approx k s y) a → Front k (newly k s y) 1 (next_detail k s y) d → Others k (length d / k) (rear_of (b * (2 - v)) y) a d
  asked a d =
      let h = holds-z g rear (omega arith) in
      record { width = g.width; samples = rw h.count h; approx = rw d.holds.count a.holds; details = rw d.holds.count d.holds; some = rw d.holds.count some; more = rw (d.holds.count, h.count) (enough (newly k s y) (waiting s.total) (length y / k) some (omega arith) (omega arith)) }

-- the words of all new coefficients are the new part of the band
module _ {k : ℕ} {s : Recorder} {y : List ℕ} (g : Taking k s y) where
  lows : {a : List ℕ} → a ≡ bytes_of k (tabulate (newly k s y) (next_approx k s y)) → a ≡ fixed_by low k s y
  lows e = e ∙ sym (between-low k (stand_in k s ++ y) (fixed s.total) (fixed (s.total + length y / k)) (omega arith) (omega (arith, count g)))

  highs : {d : List ℕ} → d ≡ bytes_of k (tabulate (newly k s y) (next_detail k s y)) → d ≡ fixed_by high k s y
  highs e = e ∙ sym (between-high k (stand_in k s ++ y) (fixed s.total) (fixed (s.total + length y / k)) (omega arith) (omega (arith, count g)))

pub returns-clause-a_after : goal.returns-clause-a_after
returns-clause-a_after g c =
    let t = c.requires.taking in
    let some = some_words c.requires.holds.1 (eqb-false _ 0 (sym c.is_empty.ensures ∙ c.if-is_empty.false)) in
    lows t (approxs-all t (rear t some c.bytes.ensures c.waiting.ensures) some c.first.ensures.front_2 c.others.ensures.d_after c.first.ensures.front c.others.ensures.a_after)

pub returns-clause-d_after : goal.returns-clause-d_after
returns-clause-d_after g c =
    let t = c.requires.taking in
    let some = some_words c.requires.holds.1 (eqb-false _ 0 (sym c.is_empty.ensures ∙ c.if-is_empty.false)) in
    highs t (details-all t (rear t some c.bytes.ensures c.waiting.ensures) some c.first.ensures.front_2 c.others.ensures.d_after)
