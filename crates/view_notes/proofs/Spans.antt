-- Columns and spans. The span of a sample's column holds the sample; at one level the spans of a band cover samples 0 to n - 1, each reaching into the next one.
use mathlib.Core.Logic.{⊎_elim}
use mathlib.Core.Path.{◌≡◌, sym, ap, ◌∙◌}
use Prim.Native.Nat.{ℕ, zero, suc, ◌+◌, ◌-◌, ◌*◌, ◌/◌, ◌^◌, ◌≤◌, ◌<◌, min}
use native.Mathlib.Nat.{add-mul, one-mul, mul-le-mul_right, pow-succ', div-div-eq-div-mul, le-div_iff_mul-le, div-mul-le_self, lt-div-mul-add}
use native.Mathlib.Numerals.{add-one}
use native.Mathlib.Omega.{arith}
use lib.Pow.{pow_pos}
use Rattle.base_order.proofs.Order.{lt-or-le}
use Rattle.base_lengths.specs.Lengths.{approx_length, details_length}
use Rattle.base_lengths.specs.Levels.{after_levels, count_at}
use Rattle.base_lengths.proofs.Counts.{after_last}
use Rattle.view_spans.specs.declared.Band.{Band}
use Rattle.view_spans.specs.declared.Band.TheVariants.{Approx, Details}
use Rattle.view_spans.specs.Spans.{reach_of, span_of, band_count}
use Rattle.view_spans.proofs.Untouched.{doubled}
use Rattle.view_notes.specs.Notes.{column_of}

-- how many places there are: ceil(n / 2^l)
pub count-at-ceil : (l n : ℕ) → count_at l n ≡ (n + 2 ^ l - 1) / 2 ^ l
unfolding after_levels
count-at-ceil zero n = omega arith
count-at-ceil (suc l) n =
    let p = pow_pos l in
    let h : (n + 2 * 2 ^ l - 1) / 2 ≡ approx_length n + 2 ^ l - 1 = omega arith in
    count-at-ceil l (approx_length n)
    ∙ ap (λ m. m / 2 ^ l) (sym h)
    ∙ div-div-eq-div-mul (n + 2 * 2 ^ l - 1) 2 (2 ^ l)
    ∙ ap (λ m. (n + m - 1) / m) (sym (pow-succ' 2 l))

-- where the next place stands
pub next : (p w : ℕ) → (p + 1) * w ≡ p * w + w
next p w = add-mul p 1 w ∙ ap (λ m. p * w + m) (one-mul w)

-- how far an approximation reads on either side
pub reach_is : (l : ℕ) → reach_of l ≡ 2 * 2 ^ l - 2
reach_is l = omega (arith, ap (λ (m : ℕ). 2 ^ m) (add-one l), pow-succ' 2 l)

-- and one of the level before
pub reach-before : (l : ℕ) → 1 ≤ l → reach_of (l - 1) ≡ 2 ^ l - 2
reach-before l o = let e : l - 1 + 1 ≡ l = omega arith in ap (λ (m : ℕ). 2 ^ m - 2) e

-- the places are those that stand at a sample
pub starts : (n l p : ℕ) → p < count_at l n → p * 2 ^ l < n
starts n l p h =
    let q : p + 1 ≤ (n + 2 ^ l - 1) / 2 ^ l = omega (arith, count-at-ceil l n) in
    omega (arith, (le-div_iff_mul-le (pow_pos l)).0 q, next p (2 ^ l), pow_pos l)

pub is-place : (n l p : ℕ) → p * 2 ^ l < n → p < count_at l n
is-place n l p h =
    let q : (p + 1) * 2 ^ l ≤ n + 2 ^ l - 1 = omega (arith, next p (2 ^ l)) in
    omega (arith, count-at-ceil l n, (le-div_iff_mul-le {x = p + 1} {y = n + 2 ^ l - 1} (pow_pos l)).1 q)

-- at all of them together no sample is left to show
all-places : (n l : ℕ) → n ≤ count_at l n * 2 ^ l
all-places n l = ⊎_elim (λ b. absurd (omega (arith, is-place n l (count_at l n) b))) (λ b. b) (lt-or-le (count_at l n * 2 ^ l) n)

-- ---- columns

module _ (n l : ℕ) where
  -- a sample's column is one of the places
  pub column-below : (s : ℕ) → s < n → column_of l s < count_at l n
  column-below s h = is-place n l (s / 2 ^ l) (omega (arith, div-mul-le_self s (2 ^ l)))

  -- the span of a sample's column holds the sample
  pub holds : (s : ℕ) → s < n → ((span_of Approx n l (column_of l s)).0 ≤ s) × (s ≤ (span_of Approx n l (column_of l s)).1)
  unfolding span_of
  holds s h =
      let r = reach_is l in
      let p = pow_pos l in
      (omega (arith, div-mul-le_self s (2 ^ l)), omega (arith, lt-div-mul-add {a = s} p))

-- ---- the spans of a band of level l

-- a level has no more details than approximations
pub band-below : (b : Band) (n l p : ℕ) → 1 ≤ l → p < band_count b l n → p < count_at l n
band-below Approx n l p o h = h
band-below Details n l p o h = let e : l ≡ suc (l - 1) = omega arith in omega (arith, ap (λ (m : ℕ). count_at m n) e, after_last approx_length (l - 1) n)

module _ (n l : ℕ) (o : 1 ≤ l) where
  two : 2 ≤ 2 ^ l
  two = omega (arith, doubled 1 l o, pow_pos (l - 1))

  -- both bands' spans of a place end at the same sample
  last-is : (b : Band) (p : ℕ) → (span_of b n l p).1 ≡ min (p * 2 ^ l + 2 * 2 ^ l - 2) (n - 1)
  unfolding span_of
  last-is Approx p = omega (arith, reach_is l, two)
  last-is Details p = omega (arith, reach-before l o, next p (2 ^ l), two)

  -- and start at p·2^l + 2 - 2^l, or before
  first_by : (b : Band) (p : ℕ) → (span_of b n l p).0 ≤ p * 2 ^ l + 2 - 2 ^ l
  unfolding span_of
  first_by Approx p = omega (arith, reach_is l, two)
  first_by Details p = omega (arith, reach-before l o, two)

  -- no span is empty, and none goes past the last sample
  pub not-empty : (b : Band) (p : ℕ) → p < band_count b l n → ((span_of b n l p).0 ≤ (span_of b n l p).1) × ((span_of b n l p).1 < n)
  not-empty b p h = let f = starts n l p (band-below b n l p o h) in (omega (arith, last-is b p, first_by b p, two), omega (arith, last-is b p))

  -- the first span starts at sample 0
  pub first-starts : (b : Band) → (span_of b n l 0).0 ≡ 0
  first-starts b = omega (arith, first_by b 0, two)

  -- the next span starts where this one ends, or before
  pub next-reaches : (b : Band) (p : ℕ) → p + 1 < band_count b l n → (span_of b n l (p + 1)).0 ≤ (span_of b n l p).1
  next-reaches b p h = omega (arith, starts n l (p + 1) (band-below b n l (p + 1) o h), next p (2 ^ l), last-is b p, first_by b (p + 1), two)

-- the last place stands less than two of its own width before the end
last-place : (b : Band) (n l : ℕ) → 1 ≤ l → 0 < band_count b l n → n + 1 ≤ (band_count b l n - 1) * 2 ^ l + 2 * 2 ^ l
last-place Approx n l o t =
    let c = count_at l n in
    let e : c - 1 + 1 ≡ c = omega arith in
    omega (arith, ap (λ (m : ℕ). m * 2 ^ l) e, next (c - 1) (2 ^ l), all-places n l, pow_pos l)
last-place Details n l o t =
    let m = count_at (l - 1) n in
    let c = details_length m in
    let w = 2 ^ (l - 1) in
    let e : c - 1 + 1 ≡ c = omega arith in
    let h : m ≤ 2 * c + 1 = omega arith in
    omega (arith, ap (λ (q : ℕ). q * 2 ^ l) e, next (c - 1) (2 ^ l), all-places n (l - 1), mul-le-mul_right w h, next (2 * c) w, doubled c l o, doubled 1 l o, pow_pos (l - 1))

-- the last span ends at the last sample
pub last-ends : (b : Band) (n l : ℕ) → 1 ≤ l → 0 < band_count b l n → (span_of b n l (band_count b l n - 1)).1 ≡ n - 1
last-ends b n l o t = omega (arith, last-is n l o b (band_count b l n - 1), last-place b n l o t)
