-- One level of the float 5/3 filter is exact, and its inverse gives the inputs back: its lists are those that the integer steps give, over 2 ^ (k + 1) and
-- 2 ^ (k + 3). Over the format, where there is room.
use mathlib.Core.Bool.{true, false, cond}
use mathlib.Core.List.{List}
use mathlib.Core.Logic.{⊎_elim}
use mathlib.Core.Path.{◌≡◌, sym, ap, ◌∙◌}
use Prim.Native.Nat.{ℕ, ◌+◌, ◌-◌, ◌*◌, ◌/◌, ◌%◌, ◌≤◌, ◌<◌, min}
use native.Mathlib.Omega.{arith}
use borrow.Author.Tests.{eq-eqb, ne_eqb}
use lib.Dec.{eqb}
use lib.Ieee.{Float, nan, Format}
use lib.IntN.{ℤ, pos, nat_abs}
use lib.ListN.{length, get_or}
use Rattle.base_lengths.specs.declared.Wavelet.TheVariants.{Cdf53}
use Rattle.base_order.proofs.Order.{lt-or-le}
use Rattle.base_samples.specs.Words.{tabulate}
use Rattle.base_samples.specs.Halves.{even_of, odd_of, joined}
use Rattle.base_samples.proofs.Words.{length-tabulate, get_or-tabulate}
use Rattle.base_samples.proofs.Halves.{length-even, length-odd, at-even, at-odd}
use Rattle.filter_floats.specs.Steps.{odd_at, even_at, odds, evens, lift}
use Rattle.filter_floats.specs.Filters.{decimal, steps53, back53}
use Rattle.filter_floats.specs.Bands.{approxs, details, restored}
use Rattle.law_exact.specs.Exact.{Whole, Are, FormatHolds, detail, approx, details2, approximations8}
use Rattle.law_exact.proofs.Scalar.{detail-exact, approx-exact, even-back, odd-back, minus-half, quarter, minus-quarter, half}

-- ---- how long the bands are

pub length-details2 : (z : List ℤ) → length (details2 z) ≡ length z / 2
unfolding details2 odds
length-details2 z = length-tabulate _ _ ∙ length-odd (pos 0) z

pub length-approximations8 : (z : List ℤ) → length (approximations8 z) ≡ (length z + 1) / 2
unfolding approximations8 evens
length-approximations8 z = length-tabulate _ _ ∙ length-even (pos 0) z

-- ---- lists of floats that are whole numbers

module _ (k b : ℕ) where
  pub are-list : (n : ℕ) (g : ℕ → Float) (zs : List ℤ) → n ≡ length zs → ((i : ℕ) → i < length zs → Whole k b (g i) (get_or zs i (pos 0))) → Are k b (tabulate n g) zs
  are-list n g zs e p = record {
    same = length-tabulate n g ∙ e;
    each = λ i l. let l' : i < n = omega arith in rw (get_or-tabulate n g i nan l') (p i l);
  }

  pub are-tab : (n m : ℕ) (g : ℕ → Float) (h : ℕ → ℤ) → n ≡ m → ((i : ℕ) → i < m → Whole k b (g i) (h i)) → Are k b (tabulate n g) (tabulate m h)
  are-tab n m g h e p =
      are-list n g (tabulate m h) (e ∙ sym (length-tabulate m h))
      (λ i l. let l' : i < m = rw (length-tabulate m h) at l in rw (get_or-tabulate m h i (pos 0) l') (p i l'))

  module _ (xs : List Float) (zs : List ℤ) (r : Are k b xs zs) where
    are-even : Are k b (even_of nan xs) (even_of (pos 0) zs)
    unfolding even_of
    are-even = are-tab _ _ _ _ (ap (λ (n : ℕ). (n + 1) / 2) r.same) (λ i l. r.each (2 * i) (omega arith))

    are-odd : Are k b (odd_of nan xs) (odd_of (pos 0) zs)
    unfolding odd_of
    are-odd = are-tab _ _ _ _ (ap (λ (n : ℕ). n / 2) r.same) (λ i l. r.each (2 * i + 1) (omega arith))

  -- the even and the odd entries of z, joined, are z
  are-joined : (a d : List Float) (z : List ℤ) → Are k b a (even_of (pos 0) z) → Are k b d (odd_of (pos 0) z) → Are k b (joined nan a d) z
  unfolding joined
  are-joined a d z ra rd =
      are-list (length a + length d) _ z (omega (arith, ra.same, rd.same, length-even (pos 0) z, length-odd (pos 0) z))
      (λ i l. ⊎_elim (from-even i l) (from-odd i l) (lt-or-le (i % 2) 1))
    where
      at : ℕ → Float
      at i = cond (eqb (i % 2) 0) (get_or a (i / 2) nan) (get_or d (i / 2) nan)

      from-even : (i : ℕ) → i < length z → i % 2 < 1 → Whole k b (at i) (get_or z i (pos 0))
      from-even i l h =
          let q : i / 2 < (length z + 1) / 2 = omega arith in
          let p : 2 * (i / 2) ≡ i = omega arith in
          rw (eq-eqb (i % 2) 0 (omega arith)) (rw (at-even (pos 0) z (i / 2) (omega arith), p) at (ra.each (i / 2) (rw (length-even (pos 0) z) q)))

      from-odd : (i : ℕ) → i < length z → 1 ≤ i % 2 → Whole k b (at i) (get_or z i (pos 0))
      from-odd i l h =
          let q : i / 2 < length z / 2 = omega arith in
          let p : 2 * (i / 2) + 1 ≡ i = omega arith in
          rw (ne_eqb (i % 2) 0 (λ n. omega arith)) (rw (at-odd (pos 0) z (i / 2) (omega arith), p) at (rd.each (i / 2) (rw (length-odd (pos 0) z) q)))

-- a step on floats that is exact at each entry is exact on lists
module _ (k₁ b₁ k₂ b₂ k₃ b₃ : ℕ) (g : Float → Float → Float → Float) (h : ℤ → ℤ → ℤ → ℤ)
    (step : (l r x : Float) (z w y : ℤ) → Whole k₁ b₁ l z → Whole k₁ b₁ r w → Whole k₂ b₂ x y → Whole k₃ b₃ (g l r x) (h z w y)) where
  odds-are : (a d : List Float) (za zd : List ℤ) → Are k₁ b₁ a za → Are k₂ b₂ d zd → length zd ≤ length za → Are k₃ b₃ (odds g nan a d) (odds h (pos 0) za zd)
  unfolding odds odd_at
  odds-are a d za zd ra rd le = are-tab k₃ b₃ (length d) (length zd) _ _ rd.same
      (λ i l. step _ _ _ _ _ _ (ra.each i (omega arith)) (rw ra.same (ra.each (min (i + 1) (length za - 1)) (omega arith))) (rd.each i l))

  evens-are : (a d : List Float) (za zd : List ℤ) → Are k₂ b₂ a za → Are k₁ b₁ d zd → length za ≤ length zd + 1 → 0 < length zd → Are k₃ b₃ (evens g nan a d) (evens h (pos 0) za zd)
  unfolding evens even_at
  evens-are a d za zd ra rd le some = are-tab k₃ b₃ (length a) (length za) _ _ ra.same
      (λ i l. step _ _ _ _ _ _ (rd.each (i - 1) (omega arith)) (rw rd.same (rd.each (min i (length zd - 1)) (omega arith))) (ra.each i l))

-- each of z is at most b in size
abbrev Small : ℕ → List ℤ → Type 0
Small b z = (i : ℕ) → i < length z → nat_abs (get_or z i (pos 0)) ≤ b

small-even : (b : ℕ) (z : List ℤ) → Small b z → Small b (even_of (pos 0) z)
small-even b z small i l = let q : i < (length z + 1) / 2 = rw (length-even (pos 0) z) at l in rw (at-even (pos 0) z i (omega arith)) (small (2 * i) (omega arith))

small-odd : (b : ℕ) (z : List ℤ) → Small b z → Small b (odd_of (pos 0) z)
small-odd b z small i l = let q : i < length z / 2 = rw (length-odd (pos 0) z) at l in rw (at-odd (pos 0) z i (omega arith)) (small (2 * i + 1) (omega arith))

-- ---- one level is exact, and its inverse gives the inputs back

module _ (f : Format) (k b : ℕ) (room : FormatHolds f k b) where
  pub details-exact : (x : List Float) (z : List ℤ) → Are k b x z → Are (k + 1) (4 * b) (details f Cdf53 x) (details2 z)
  unfolding details steps53 details2
  details-exact x z r =
      odds-are k b k b (k + 1) (4 * b) _ _
      (λ l m y u v w p q s. detail-exact f k b room (decimal f true 5 1) l m y u v w (minus-half f) p q s)
      (even_of nan x) (odd_of nan x) (even_of (pos 0) z) (odd_of (pos 0) z) (are-even k b x z r) (are-odd k b x z r)
      (omega (arith, length-even (pos 0) z, length-odd (pos 0) z))

  pub approximations-exact : (x : List Float) (z : List ℤ) → 2 ≤ length z → Are k b x z → Are (k + 3) (16 * b) (approxs f Cdf53 x) (approximations8 z)
  unfolding approxs details steps53 approximations8
  approximations-exact x z n r =
      evens-are (k + 1) (4 * b) k b (k + 3) (16 * b) _ _
      (λ l m y u v w p q s. approx-exact f k b room (decimal f false 25 2) l m y u v w (quarter f) p q s)
      (even_of nan x) (details f Cdf53 x) (even_of (pos 0) z) (details2 z) (are-even k b x z r) (details-exact x z r)
      (omega (arith, length-even (pos 0) z, length-details2 z)) (omega (arith, length-details2 z))

  -- the even inputs come back, and then the odd ones
  evens-back : (a d : List Float) (e u : List ℤ) → Are (k + 3) (16 * b) a (evens approx (pos 0) e u) → Are (k + 1) (4 * b) d u → Small b e → length e ≤ length u + 1 → 0 < length u
      → Are k b (evens (lift f (decimal f true 25 2)) nan a d) e
  unfolding evens even_at
  evens-back a d e u ra rd small le some =
      let n : length (evens approx (pos 0) e u) ≡ length e = length-tabulate (length e) _ in
      are-list k b (length a) _ e (ra.same ∙ n)
      (λ i l.
      even-back f k b room (decimal f true 25 2) _ _ _ (get_or u (i - 1) (pos 0)) (get_or u (min i (length u - 1)) (pos 0)) (get_or e i (pos 0)) (minus-quarter f)
      (rd.each (i - 1) (omega arith))
      (rw rd.same (rd.each (min i (length u - 1)) (omega arith)))
      (rw (get_or-tabulate (length e) (even_at approx (pos 0) e u) i (pos 0) l) at (ra.each i (omega arith)).is)
      (small i l))

  odds-back : (a d : List Float) (e o : List ℤ) → Are k b a e → Are (k + 1) (4 * b) d (odds detail (pos 0) e o) → Small b o → length o ≤ length e
      → Are k b (odds (lift f (decimal f false 5 1)) nan a d) o
  unfolding odds odd_at
  odds-back a d e o ra rd small le =
      let n : length (odds detail (pos 0) e o) ≡ length o = length-tabulate (length o) _ in
      are-list k b (length d) _ o (rd.same ∙ n)
      (λ i l.
      odd-back f k b room (decimal f false 5 1) _ _ _ (get_or e i (pos 0)) (get_or e (min (i + 1) (length e - 1)) (pos 0)) (get_or o i (pos 0)) (half f)
      (ra.each i (omega arith))
      (rw ra.same (ra.each (min (i + 1) (length e - 1)) (omega arith)))
      (rw (get_or-tabulate (length o) (odd_at detail (pos 0) e o) i (pos 0) l) at (rd.each i (omega arith)).is)
      (small i l))

  pub inverse-exact : (a d : List Float) (z : List ℤ) → 2 ≤ length z → ((i : ℕ) → i < length z → nat_abs (get_or z i (pos 0)) ≤ b)
      → Are (k + 3) (16 * b) a (approximations8 z) → Are (k + 1) (4 * b) d (details2 z) → Are k b (restored f Cdf53 a d) z
  unfolding restored back53 approximations8 details2
  inverse-exact a d z n small ra rd =
      let e = even_of (pos 0) z in
      let o = odd_of (pos 0) z in
      let re = evens-back a d e (details2 z) ra rd (small-even b z small) (omega (arith, length-even (pos 0) z, length-details2 z)) (omega (arith, length-details2 z)) in
      are-joined k b _ _ z re (odds-back _ d e o re rd (small-odd b z small) (omega (arith, length-even (pos 0) z, length-odd (pos 0) z)))
