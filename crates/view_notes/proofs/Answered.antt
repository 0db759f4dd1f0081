-- What the checks of a level leave, and about the answers of `note_column` and `note_span`: where they are done, that the column of a note can be asked back
-- for its span, and that the spans of a level's band cover the samples.
use mathlib.Core.Bool.{not}
use mathlib.Core.Logic.{⊎_elim}
use mathlib.Core.Path.{◌≡◌, ap, ◌∙◌}
use Prim.Native.Nat.{ℕ, zero, suc, ◌+◌, ◌-◌, ◌*◌, ◌^◌, ◌≤◌, ◌<◌}
use native.Mathlib.Nat.{pow-succ'}
use native.Mathlib.Omega.{arith}
use borrow.Author.Tests.{lt-ltb, le-ltb, ltb-true, ltb-false, eqb-false, ne_eqb, not-false}
use lib.Pow.{pow_mono}
use Rattle.base_answers.specs.declared.err.Answer.{Answer}
use Rattle.base_answers.specs.Answers.{Outcome, told, answer_of}
use Rattle.base_answers.specs.Checks.{first_refusal}
use Rattle.base_order.proofs.Order.{lt-or-le}
use Rattle.base_answers.proofs.Passed.{Passing, passing, both-pass, pass-both, through}
use Rattle.base_answers.proofs.Endings.{is-done}
use Rattle.base_lengths.specs.declared.Wavelet.TheVariants.{Cdf53}
use Rattle.base_lengths.specs.Lengths.{most_samples}
use Rattle.base_lengths.specs.Levels.{count_at, depth_of}
use Rattle.base_lengths.proofs.Depths.{long-enough}
use Rattle.view_spans.specs.declared.Band.{Band}
use Rattle.view_spans.specs.declared.Band.TheVariants.{Approx}
use Rattle.view_spans.specs.Spans.{span_of, band_count}
use Rattle.view_notes.specs.Notes.{column_of, level_checks, place_checks, note_checks, say_column, say_span, Drawn}
use Rattle.view_notes.proofs.Spans.{starts, band-below, holds, column-below, first-starts, next-reaches, last-ends}

-- a level within the depth: fewer than n samples show at one of its approximations
pub within_depth : (n l : ℕ) → 1 ≤ l → l ≤ depth_of Cdf53 n → 2 ^ l < n
within_depth n zero p h = absurd (omega arith)
within_depth n (suc l) p h =
    let two : 3 ≤ count_at l n = long-enough 3 (omega arith) (suc l) l n h (omega arith) in
    omega (arith, starts n l 2 two, pow-succ' 2 l)

-- what the checks of a level leave
pub passes : (n l : ℕ) → Passing (level_checks n l) → Drawn n l
passes n l q =
    let some : 1 ≤ l = omega (arith, eqb-false l 0 q.1.0) in
    record { some = some; few = ltb-false most_samples n q.0; wide = within_depth n l some (ltb-false (depth_of Cdf53 n) l q.1.1.0) }

-- of so few samples there are few levels
pub few_levels : (l : ℕ) → 2 ^ l ≤ most_samples → l < 63
few_levels l h = ⊎_elim (λ q. omega arith) (λ q. absurd (omega (arith, pow_mono q))) (lt-or-le l 63)

-- two to the level fits, and to one level more
pub fits : (n l : ℕ) → Drawn n l → l < 63
fits n l d = few_levels l (omega (arith, d.few, d.wide))

-- a place of a band stands at a sample
pub stands : (b : Band) (n l p : ℕ) → Drawn n l → p < band_count b l n → p * 2 ^ l < n
stands b n l p d h = starts n l p (band-below b n l p d.some h)

-- what is left for the numbers of a span: place p of w samples each
pub record Placed (n p w : ℕ) : Type 0 where
  pub wide : w < n
  pub few : n ≤ most_samples
  pub first : p * w < n

pub placed : (b : Band) (n l p w : ℕ) → w ≡ 2 ^ l → Drawn n l → p < band_count b l n → Placed n p w
placed b n l p w e d h = rw e (record { wide = d.wide; few = d.few; first = stands b n l p d h })

-- ---- about the calls: what they say of a level and a place that are there, and that a done call was asked for such

-- a level that is there
level-passes : (n l : ℕ) → n ≤ most_samples → 1 ≤ l → l ≤ depth_of Cdf53 n → Passing (level_checks n l)
level-passes n l few some deep = (le-ltb most_samples n few, (ne_eqb l 0 (λ z. omega arith), (le-ltb (depth_of Cdf53 n) l deep, tt)))

module _ (n l place limit : ℕ) (z : Outcome) where
  -- and a place below the limit
  note-says : Passing (level_checks n l) → place < limit → first_refusal (note_checks n l place limit) z ≡ z
  note-says h g = through (note_checks n l place limit) z (pass-both (level_checks n l) (place_checks place limit) h (ap not (lt-ltb place limit g), tt))

  -- what a done call has passed, and its answer q
  note-told : (q : Answer) → q ≡ answer_of (first_refusal (note_checks n l place limit) z) → q.number ≡ 0 → Passing (level_checks n l) × (place < limit) × (q ≡ answer_of z)
  note-told q e t =
      let v = passing (note_checks n l place limit) z (is-done (first_refusal (note_checks n l place limit) z) q e t) in
      let b = both-pass (level_checks n l) (place_checks place limit) v in
      (b.0, ltb-true place limit (not-false _ b.1.0), e ∙ ap answer_of (through (note_checks n l place limit) z v))

module _ (n l : ℕ) where
  -- `note_span` is done with each coefficient of each level
  pub span-done : (b : Band) → n ≤ 16777216 → 1 ≤ l → l ≤ depth_of Cdf53 n → (p : ℕ) → p < band_count b l n → say_span b n l p ≡ told (span_of b n l p).0 (span_of b n l p).1
  unfolding say_span
  span-done b few some deep p h = note-says n l p (band_count b l n) (told (span_of b n l p).0 (span_of b n l p).1) (level-passes n l few some deep) h

  -- `note_column` with each sample
  pub column-done : n ≤ 16777216 → 1 ≤ l → l ≤ depth_of Cdf53 n → (s : ℕ) → s < n → say_column n l s ≡ told (column_of l s) 0
  unfolding say_column
  column-done few some deep s h = note-says n l s n (told (column_of l s) 0) (level-passes n l few some deep) h

  -- q is a done answer of `note_column` for sample s
  column-told : (s : ℕ) (q : Answer) → q ≡ answer_of (say_column n l s) → q.number ≡ 0 → Passing (level_checks n l) × (s < n) × (q ≡ answer_of (told (column_of l s) 0))
  unfolding say_column
  column-told s q = note-told n l s n (told (column_of l s) 0) q

  -- the column of a note is one of the places
  pub column-in : (s : ℕ) (q : Answer) → q ≡ answer_of (say_column n l s) → q.number ≡ 0 → q.first < count_at l n
  column-in s q e z =
      let (level, below, c) = column-told s q e z in
      omega (arith, ap (λ (x : Answer). x.first) c, column-below n l s below)

  -- asked back: r is what `note_span` answers for the column in q, and the span holds the note
  pub asked-back : (s : ℕ) (q r : Answer) → q ≡ answer_of (say_column n l s) → q.number ≡ 0 → r ≡ answer_of (say_span Approx n l q.first) → (r.number ≡ 0) × (r.first ≤ s) × (s ≤ r.second)
  unfolding say_span
  asked-back s q r e z f =
      let (level, below, c) = column-told s q e z in
      let p = column_of l s in
      let span = told (span_of Approx n l p).0 (span_of Approx n l p).1 in
      let t : say_span Approx n l p ≡ span = note-says n l p (count_at l n) span level (column-below n l s below) in
      let a : r ≡ answer_of span = f ∙ ap (λ (x : Answer). answer_of (say_span Approx n l x.first)) c ∙ ap answer_of t in
      let w = holds n l s below in
      (ap (λ (x : Answer). x.number) a, omega (arith, ap (λ (x : Answer). x.first) a), omega (arith, ap (λ (x : Answer). x.second) a))

-- ---- q is a done answer of `note_span` for coefficient p of a band: a level and a place that are there, and the ends of its span

pub record Spanned (b : Band) (n l p : ℕ) (q : Answer) : Type 0 where
  pub some : 1 ≤ l
  pub deep : l ≤ depth_of Cdf53 n
  pub place : p < band_count b l n
  pub first : q.first ≡ (span_of b n l p).0
  pub last : q.second ≡ (span_of b n l p).1

pub span-told : (b : Band) (n l p : ℕ) (q : Answer) → q ≡ answer_of (say_span b n l p) → q.number ≡ 0 → Spanned b n l p q
unfolding say_span
span-told b n l p q e z =
    let (level, place, a) = note-told n l p (band_count b l n) (told (span_of b n l p).0 (span_of b n l p).1) q e z in
    record {
      some = (passes n l level).some;
      deep = ltb-false (depth_of Cdf53 n) l level.1.1.0;
      place = place;
      first = ap (λ (x : Answer). x.first) a;
      last = ap (λ (x : Answer). x.second) a;
    }

-- the spans that it answers cover the samples
module _ (b : Band) (n l : ℕ) where
  -- the first starts at sample 0
  pub first-answer : (q : Answer) → q ≡ answer_of (say_span b n l 0) → q.number ≡ 0 → q.first ≡ 0
  first-answer q e z = let t = span-told b n l 0 q e z in t.first ∙ first-starts n l t.some b

  -- each next one starts where the one before ends, or before
  pub next-answer : (p : ℕ) (q r : Answer) → q ≡ answer_of (say_span b n l p) → q.number ≡ 0 → r ≡ answer_of (say_span b n l (p + 1)) → r.number ≡ 0 → r.first ≤ q.second
  next-answer p q r e z f y =
      let t = span-told b n l p q e z in
      let u = span-told b n l (p + 1) r f y in
      omega (arith, t.last, u.first, next-reaches n l t.some b p u.place)

  -- and the last ends at the last sample
  pub last-answer : (q : Answer) → q ≡ answer_of (say_span b n l (band_count b l n - 1)) → q.number ≡ 0 → q.second ≡ n - 1
  last-answer q e z = let t = span-told b n l (band_count b l n - 1) q e z in t.last ∙ last-ends b n l t.some (omega (arith, t.place))
