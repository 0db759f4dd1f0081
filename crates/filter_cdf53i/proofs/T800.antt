-- Document 01's steps with its end rules are T.800's, both ways and at every index, once over what is kept of a coefficient: for two samples and more. So are
-- the bytes that the filter makes of bytes, with each stored result kept modulo two to the width.
use Rattle.std.proofs.Common.{◌≡◌, ℕ, zero, suc, ◌+◌, ◌-◌, ◌*◌, ◌/◌, ◌%◌, ◌<◌, ◌≤◌, min, cond, eqb, List, length, ℤ, pos, negsuc, ◌+ℤ◌, ◌-ℤ◌, sym, ap, ◌∙◌, ⊎_elim, arith, eq-eqb, ne_eqb}
use lib.IntN.{+ℤ_comm}
use Rattle.base_samples.specs.Words.{tabulate}
use Rattle.base_samples.specs.Integers.{wrap, decode, encode}
use Rattle.base_samples.proofs.Diff.{sub-ge}
use Rattle.base_order.proofs.Order.{lt-or-le}
use Rattle.base_samples.proofs.Words.{length-tabulate, get_or-tabulate, tabulate-same}
use Rattle.base_samples.proofs.IntegerLaws.{length-decode}
use Rattle.base_lengths.specs.Lengths.{approx_length, details_length}
use Rattle.filter_cdf53i.specs.Lift.{at, floor_div, even_count, odd_count, detail, details, approx, approxs, even, odd, sample, restored}
use Rattle.base_samples.specs.Halves.{joined}
use Rattle.filter_cdf53i.specs.Bands as bytes
use Rattle.filter_cdf53i.specs.T800.{extended, high, low, highs, lows, interleaved, even_back, odd_back, back, backs}
use Rattle.filter_cdf53i.proofs.Extension.{place, extended-at, extended-before}
use Rattle.filter_cdf53i.proofs.Lengths.{length-details}
use Rattle.filter_cdf53i.proofs.Undo.{at-details}

-- ---- forward

module _ (keep : ℤ → ℤ) (x : List ℤ) (some : 2 ≤ length x) where
  detail-is : (i : ℕ) → i < details_length (length x) → detail keep x i ≡ keep (high x (pos i))
  unfolding detail high
  detail-is i h =
      rw (
        extended-at x some (i + i + 1) (2 * i + 1) (omega arith) (omega arith),
        extended-at x some (i + i) (2 * i) (omega arith) (omega arith),
        extended-at x some (i + i + 2) (2 * min (i + 1) (even_count x - 1)) (omega arith) (omega arith),
      )

  -- a Y(2j+1) past an end is the detail whose three samples are mirrored there
  mirrored : (i : ℕ) (j : ℤ) → extended x (j +ℤ j +ℤ pos 1) ≡ at x (2 * i + 1) → extended x (j +ℤ j) ≡ at x (2 * min (i + 1) (even_count x - 1)) → extended x (j +ℤ j +ℤ pos 2) ≡ at x (2 * i)
      → detail keep x i ≡ keep (high x j)
  unfolding detail high
  mirrored i j p q r = rw (p, q, r) (ap (λ z. keep (at x (2 * i + 1) -ℤ floor_div z 2)) (+ℤ_comm (at x (2 * i)) (at x (2 * min (i + 1) (even_count x - 1)))))

  -- Y(-1) is Y(1), and for an odd number n of samples Y(n) is Y(n - 2)
  before : detail keep x 0 ≡ keep (high x (negsuc 0))
  before = mirrored 0 (negsuc 0) (extended-before x some 0 1 (omega arith) (omega arith)) (extended-before x some 1 (2 * min 1 (even_count x - 1)) (omega arith) (omega arith)) (extended-at x some 0 0 (omega arith) (omega arith))

  after : (i : ℕ) → length x ≡ 2 * i + 3 → detail keep x i ≡ keep (high x (pos (i + 1)))
  after i e =
      mirrored i (pos (i + 1))
      (extended-at x some (i + 1 + (i + 1) + 1) (2 * i + 1) (omega arith) (omega arith))
      (extended-at x some (i + 1 + (i + 1)) (2 * min (i + 1) (even_count x - 1)) (omega arith) (omega arith))
      (extended-at x some (i + 1 + (i + 1) + 2) (2 * i) (omega arith) (omega arith))

  pub details-is : details keep x ≡ highs keep x
  unfolding details highs
  details-is = tabulate-same (odd_count x) (detail keep x) (λ i. keep (high x (pos i))) detail-is

  -- the details on either side of an even sample
  left : (i : ℕ) → i < approx_length (length x) → at (details keep x) (i - 1) ≡ keep (high x (pos i -ℤ pos 1))
  left zero h = at-details keep x 0 (omega arith) ∙ before
  left (suc i) h = rw (sub-ge (suc i) 1 (omega arith)) (at-details keep x (suc i - 1) (omega arith) ∙ detail-is (suc i - 1) (omega arith))

  right : (i : ℕ) → i < approx_length (length x) → at (details keep x) (min i (length (details keep x) - 1)) ≡ keep (high x (pos i))
  right i h =
      rw (length-details keep x)
      (⊎_elim
      (λ k. ap (at (details keep x)) (omega arith) ∙ at-details keep x i k ∙ detail-is i k)
      (λ k. ap (at (details keep x)) (omega arith) ∙ at-details keep x (i - 1) (omega arith) ∙ after (i - 1) (omega arith) ∙ ap (λ j. keep (high x (pos j))) (omega arith))
      (lt-or-le i (details_length (length x))))

  approx-is : (i : ℕ) → i < approx_length (length x) → approx keep x (details keep x) i ≡ keep (low x (λ j. keep (high x j)) (pos i))
  unfolding approx low
  approx-is i h = rw (left i h, right i h, extended-at x some (i + i) (2 * i) (omega arith) (omega arith))

  pub approxs-is : approxs keep x ≡ lows keep x
  unfolding approxs lows
  approxs-is = tabulate-same (even_count x) (approx keep x (details keep x)) (λ i. keep (low x (λ j. keep (high x j)) (pos i))) approx-is

-- ---- two sequences in turn: f 0, g 0, f 1, g 1, ..

abbrev in_turn : (ℕ → ℤ) → (ℕ → ℤ) → ℕ → ℤ
in_turn f g i = cond (eqb (i % 2) 0) (f (i / 2)) (g (i / 2))

module _ (n : ℕ) (f g : ℕ → ℤ) where
  at-even : (i : ℕ) → 2 * i < n → at (tabulate n (in_turn f g)) (2 * i) ≡ f i
  at-even i h = get_or-tabulate n (in_turn f g) (2 * i) (pos 0) h ∙ rw (eq-eqb ((2 * i) % 2) 0 (omega arith)) (ap f (omega arith))

  at-odd : (i : ℕ) → 2 * i + 1 < n → at (tabulate n (in_turn f g)) (2 * i + 1) ≡ g i
  at-odd i h = get_or-tabulate n (in_turn f g) (2 * i + 1) (pos 0) h ∙ rw (ne_eqb ((2 * i + 1) % 2) 0 (omega arith)) (ap g (omega arith))

  in-turn : (f' g' : ℕ → ℤ) → ((i : ℕ) → 2 * i < n → f i ≡ f' i) → ((i : ℕ) → 2 * i + 1 < n → g i ≡ g' i) → tabulate n (in_turn f g) ≡ tabulate n (in_turn f' g')
  in-turn f' g' p q =
      tabulate-same n (in_turn f g) (in_turn f' g')
      (λ i h.
      ⊎_elim
      (λ k. rw (eq-eqb (i % 2) 0 (omega arith)) (p (i / 2) (omega arith)))
      (λ k. rw (ne_eqb (i % 2) 0 (omega arith)) (q (i / 2) (omega arith)))
      (lt-or-le (i % 2) 1))

-- ---- inverse

module _ (keep : ℤ → ℤ) (a d : List ℤ) (more : length d ≤ length a) (less : length a ≤ length d + 1) (one : 1 ≤ length d) where
  abbrev y : List ℤ
  y = interleaved a d

  length-y : length y ≡ length a + length d
  unfolding joined
  length-y = length-tabulate (length a + length d) (in_turn (at a) (at d))

  some : 2 ≤ length y
  some = omega (arith, length-y)

  -- Y_ext(j) is one of a, or one of d
  is-a : (i j : ℕ) → i < length a → j ≤ length a + length d + 1 → place (length a + length d) j ≡ 2 * i → at a i ≡ extended y (pos j)
  unfolding joined
  is-a i j h l e = sym (extended-at y some j (2 * i) (rw length-y l) (rw length-y e) ∙ at-even (length a + length d) (at a) (at d) i (omega arith))

  is-d : (i j : ℕ) → i < length d → j ≤ length a + length d + 1 → place (length a + length d) j ≡ 2 * i + 1 → at d i ≡ extended y (pos j)
  unfolding joined
  is-d i j h l e = sym (extended-at y some j (2 * i + 1) (rw length-y l) (rw length-y e) ∙ at-odd (length a + length d) (at a) (at d) i (omega arith))

  -- Y_ext(2i-1); Y_ext(-1) is the first of d
  left-d : (i : ℕ) → i ≤ length d → at d (i - 1) ≡ extended y (pos (i + i) -ℤ pos 1)
  unfolding joined
  left-d zero h = sym (extended-before y some 0 1 (omega arith) (rw length-y (omega arith)) ∙ at-odd (length a + length d) (at a) (at d) 0 (omega arith))
  left-d (suc i) h = rw (sub-ge (suc i + suc i) 1 (omega arith)) (is-d (suc i - 1) (suc i + suc i - 1) (omega arith) (omega arith) (omega arith))

  even_is : (i : ℕ) → i < length a → even keep a d i ≡ keep (even_back y (pos i))
  unfolding even even_back
  even_is i h = rw (is-a i (i + i) h (omega arith) (omega arith), left-d i (omega arith), is-d (min i (length d - 1)) (i + i + 1) (omega arith) (omega arith) (omega arith))

  -- for an even number n of samples X(n) is X(n - 2)
  even-after : (i : ℕ) → length a ≡ i + 1 → length d ≡ i + 1 → even keep a d i ≡ keep (even_back y (pos (i + 1)))
  unfolding even even_back
  even-after i p q =
      let e : at d (min i (length d - 1)) ≡ at d (i + 1 - 1) = ap (at d) (omega arith) in
      rw (
        is-a i (i + 1 + (i + 1)) (omega arith) (omega arith) (omega arith),
        is-d (i - 1) (i + 1 + (i + 1) + 1) (omega arith) (omega arith) (omega arith),
        e,
        left-d (i + 1) (omega arith),
        +ℤ_comm (extended y (pos (i + 1 + (i + 1) + 1))),
      )

  next : (i : ℕ) → i < length d → even keep a d (min (i + 1) (length a - 1)) ≡ keep (even_back y (pos (i + 1)))
  next i h =
      ⊎_elim
      (λ k. ap (even keep a d) (omega arith) ∙ even_is (i + 1) k)
      (λ k. ap (even keep a d) (omega arith) ∙ even-after i (omega arith) (omega arith))
      (lt-or-le (i + 1) (length a))

  odd_is : (i : ℕ) → i < length d → odd keep (even keep a d) (length a) d i ≡ keep (odd_back y (λ j. keep (even_back y j)) (pos i))
  unfolding odd odd_back
  odd_is i h = rw (is-d i (i + i + 1) h (omega arith) (omega arith), even_is i (omega arith), next i h)

  pub restored-is : restored keep a d ≡ backs keep a d
  unfolding restored sample backs back
  restored-is =
      in-turn (length a + length d) (even keep a d) (odd keep (even keep a d) (length a) d) (λ i. keep (even_back y (pos i))) (λ i. keep (odd_back y (λ j. keep (even_back y j)) (pos i)))
      (λ i h. even_is i (omega arith)) (λ i h. odd_is i (omega arith))

-- ---- on bytes: samples of k bytes, and each stored result kept modulo two to the width

module _ (k : ℕ) where
  module _ (x : List ℕ) (two : 2 ≤ length x / k) where
    some-samples : 2 ≤ length (decode k x)
    some-samples = rw (length-decode k x) two

    pub low-is : bytes.low k x ≡ encode k (lows (wrap k) (decode k x))
    unfolding bytes.low
    low-is = ap (encode k) (approxs-is (wrap k) (decode k x) some-samples)

    pub high_is : bytes.high k x ≡ encode k (highs (wrap k) (decode k x))
    unfolding bytes.high
    high_is = ap (encode k) (details-is (wrap k) (decode k x) some-samples)

  -- of the bands of n samples
  pub back_is : (a d : List ℕ) (n : ℕ) → length a / k ≡ approx_length n → length d / k ≡ details_length n → 2 ≤ n → bytes.back k a d ≡ encode k (backs (wrap k) (decode k a) (decode k d))
  unfolding bytes.back
  back_is a d n ea ed two =
      let la = length-decode k a in
      let ld = length-decode k d in
      ap (encode k) (restored-is (wrap k) (decode k a) (decode k d) (omega arith) (omega arith) (omega arith))
