-- 9/7 forward: the lists after each step entry by entry as code makes them, what a turn stores, and that it is no NaN where the samples are small. Once over the format.
use mathlib.Core.Bool.{Bool, true, not}
use mathlib.Core.List.{List}
use mathlib.Core.Logic.{⊎_elim}
use mathlib.Core.Path.{◌≡◌, refl, sym, subst, ◌∙◌}
use Prim.Native.Nat.{ℕ, ◌+◌, ◌-◌, ◌*◌, ◌/◌, ◌%◌, ◌≤◌, ◌<◌, min}
use native.Mathlib.Omega.{arith}
use lib.Ieee.{Float, nan, Format, binary32, binary64, mul, is_nan}
use lib.ListN.{length, get_or}
use Rattle.std.specs.Bool.{IsTrue}
use Rattle.base_order.proofs.Order.{lt-or-le}
use Rattle.base_lengths.specs.declared.Wavelet.TheVariants.{Cdf97}
use Rattle.base_lengths.specs.Lengths.{approx_length, details_length}
use Rattle.base_samples.specs.Words.{Front}
use Rattle.base_samples.specs.Floats.{width, encode_floats}
use Rattle.filter_floats.specs.Filters.{Set, factors_of, steps97}
use Rattle.filter_floats.specs.Steps.{lift}
use Rattle.filter_floats.specs.Bands.{approxs, details, low, high}
use Rattle.filter_small.specs.Small.{Small, SmallFrom, SmallIf}
use Rattle.filter_small.specs.Lists.{even_in, odd_in, odds_to, evens_to, pattern_of}
use Rattle.filter_small.proofs.Sizes.{size_read, ceiling, small-le, small-part}
use Rattle.filter_small.specs.Pieces.{Piece, Stepped}
use Rattle.filter_small.proofs.Pieces.{stepped-piece}
use Rattle.filter_small.proofs.Factors.{Factors, factors}
use Rattle.filter_small.proofs.Lifts as lifts
use Rattle.filter_small.proofs.Firsts as firsts
use Rattle.filter_cdf97f_forward.specs.Ahead.{odds_one, evens_two, odds_three, evens_four, scaled_odds, scaled_evens, Samples, Carried, Handed, Splitting, Split}

-- ---- four steps and a scaling stay far below the largest float

far : (f : Format) → size_read f + 9 + 9 + 9 + 9 + 3 < ceiling f
far binary32 = omega arith
far binary64 = omega arith

module _ {f : Format} {t : Set} {x : List ℕ} (v : Samples f t x) where
  pub long : 3 ≤ length x / width f
  long = omega (arith, v)

  given : Factors t
  given = subst Factors (sym v.set) (factors f)

  pub length-one : length (odds_one f t x) ≡ length x / width f / 2
  length-one = firsts.length-odds_to f x long t.alpha

  pub length_two : length (evens_two f t x) ≡ (length x / width f + 1) / 2
  length_two = firsts.length-evens_to f x long t.alpha t.beta

  length_three : length (odds_three f t x) ≡ length x / width f / 2
  unfolding odds_three
  length_three = lifts.length-odds f t.gamma (evens_two f t x) (odds_one f t x) ∙ length-one

  length-four : length (evens_four f t x) ≡ (length x / width f + 1) / 2
  unfolding evens_four
  length-four = lifts.length-evens f t.delta (evens_two f t x) (odds_three f t x) ∙ length_two

  length-odds-scaled : length (scaled_odds f t x) ≡ length x / width f / 2
  unfolding scaled_odds
  length-odds-scaled = lifts.length-scaled f t.invk (odds_three f t x) ∙ length_three

  length-evens-scaled : length (scaled_evens f t x) ≡ (length x / width f + 1) / 2
  unfolding scaled_evens
  length-evens-scaled = lifts.length-scaled f t.k (evens_four f t x) ∙ length-four

  -- ---- as the code makes them: r is the place of the right neighbour

  pub three_made : (i r : ℕ) {y z u : Float} → i < length x / width f / 2 → r ≡ min (i + 1) ((length x / width f + 1) / 2 - 1) → y ≡ get_or (evens_two f t x) i nan → z ≡ get_or (evens_two f t x) r nan
      → u ≡ get_or (odds_one f t x) i nan → lift f t.gamma y z u ≡ get_or (odds_three f t x) i nan
  unfolding odds_three
  three_made i r h er ey ez eu = lifts.odd-made f t.gamma (evens_two f t x) (odds_one f t x) i r (rw length-one h) (rw length_two er) ey ez eu

  pub low-made : (i l r : ℕ) {y z u : Float} → i < (length x / width f + 1) / 2 → l ≡ i - 1 → r ≡ min i (length x / width f / 2 - 1) → y ≡ get_or (odds_three f t x) l nan → z ≡ get_or (odds_three f t x) r nan
      → u ≡ get_or (evens_two f t x) i nan → mul f (lift f t.delta y z u) t.k ≡ get_or (scaled_evens f t x) i nan
  unfolding scaled_evens evens_four
  low-made i l r h el er ey ez eu =
      lifts.scaled_made f t.k _ i (rw (lifts.length-evens f t.delta (evens_two f t x) (odds_three f t x), length_two) h)
      (lifts.even-made f t.delta (evens_two f t x) (odds_three f t x) i l r (rw length_two h) el (rw length_three er) ey ez eu)

  pub high-made : (i : ℕ) {y : Float} → i < length x / width f / 2 → y ≡ get_or (odds_three f t x) i nan → mul f y t.invk ≡ get_or (scaled_odds f t x) i nan
  unfolding scaled_odds
  high-made i h ey = lifts.scaled_made f t.invk (odds_three f t x) i (rw length_three h) ey

  -- ---- the steps of a block, the turns i to before i + n

  module _ (i n : ℕ) (h : i + n + 1 < length x / width f / 2) {y z u₀ u v₀ w w₀ s : List Float} {p q r : Float} (py : Piece (even_in f x) 0 (i + 1) (n + 1) y) (pz : Piece (odd_in f x) 0 (i + 1) n z)
      (c : Carried f t x i p q r) (one : Stepped f t.alpha y z n p u₀ u) (two : Stepped f t.beta u y n q v₀ w) (three : Stepped f t.gamma w u n r w₀ s) where
    ones : Piece (odds_one f t x) 0 i (n + 1) u
    unfolding odds_to
    ones =
        stepped-piece _ _ _ i one (omega arith) c.one (λ j k hj ek.
        lifts.odd-made f t.alpha (even_in f x) (odd_in f x) k (k + 1) (rw (lifts.length-odd_in f x) (omega arith)) (rw (lifts.length-even_in f x) (omega arith))
        (py.each j k (omega arith) (omega arith)) (py.each (j + 1) (k + 1) (omega arith) (omega arith)) (pz.each j k hj (omega arith)))

    twos : Piece (evens_two f t x) 0 i (n + 1) w
    unfolding evens_to
    twos =
        stepped-piece _ _ _ i two (omega arith) c.two (λ j k hj ek.
        lifts.even-made f t.beta (even_in f x) (odds_one f t x) k (i + j) k (rw (lifts.length-even_in f x) (omega arith)) (omega arith) (rw length-one (omega arith))
        (ones.each j _ (omega arith) (omega arith)) (ones.each (j + 1) k (omega arith) (omega arith)) (py.each j k (omega arith) (omega arith)))

    threes : Piece (odds_three f t x) 1 i (n + 1) s
    threes =
        stepped-piece _ _ _ (i - 1) three refl c.three (λ j k hj ek.
        three_made k (k + 1) (omega arith) (omega arith) (twos.each j k (omega arith) (omega arith)) (twos.each (j + 1) (k + 1) (omega arith) (omega arith)) (ones.each j k (omega arith) (omega arith)))

    pub handed : Handed f t x i n u w s
    handed = record { one = ones; two = twos; three = threes }

  -- ---- small samples leave no NaN: entry i of the bands is made of those from 2 i - 4 to 2 i + 4

  -- each step reaches a sample further on either side
  one-small : (i : ℕ) → i < length x / width f / 2 → SmallFrom f x (2 * i) (2 * i + 3) → Small f (size_read f + 9 + 9) (get_or (odds_one f t x) i nan)
  one-small i h w = small-le f (get_or (odds_one f t x) i nan) (size_read f + 9) (size_read f + 9 + 9) (firsts.odd-small f x long t.alpha i h given.alpha w) (omega arith)

  two-small : (i : ℕ) → i < (length x / width f + 1) / 2 → SmallFrom f x (2 * i - 2) (2 * i + 3) → Small f (size_read f + 9 + 9) (get_or (evens_two f t x) i nan)
  two-small i h w = firsts.even-small f x long t.alpha t.beta i h given.alpha given.beta w

  three-small : (i : ℕ) → i < length x / width f / 2 → SmallFrom f x (2 * i - 2) (2 * i + 5) → Small f (size_read f + 9 + 9 + 9) (get_or (odds_three f t x) i nan)
  unfolding odds_three
  three-small i h w =
      let r = min (i + 1) ((length x / width f + 1) / 2 - 1) in
      lifts.odd-small f t.gamma (evens_two f t x) (odds_one f t x) (size_read f + 9 + 9) given.gamma (omega (arith, far f)) i r (rw length-one h) (rw length_two refl)
      (two-small i (omega arith) (small-part _ _ w (omega arith) (omega arith)))
      (two-small r (omega arith) (small-part _ _ w (omega arith) (omega arith)))
      (one-small i h (small-part _ _ w (omega arith) (omega arith)))

  four-small : (i : ℕ) → i < (length x / width f + 1) / 2 → SmallFrom f x (2 * i - 4) (2 * i + 5) → Small f (size_read f + 9 + 9 + 9 + 9) (get_or (evens_four f t x) i nan)
  unfolding evens_four
  four-small i h w =
      let r = min i (length x / width f / 2 - 1) in
      lifts.even-small f t.delta (evens_two f t x) (odds_three f t x) (size_read f + 9 + 9 + 9) given.delta (omega (arith, far f)) i (i - 1) r (rw length_two h) refl (rw length_three refl)
      (three-small (i - 1) (omega (arith, long)) (small-part _ _ w (omega arith) (omega arith)))
      (three-small r (omega (arith, long)) (small-part _ _ w (omega arith) (omega arith)))
      (small-le f (get_or (evens_two f t x) i nan) (size_read f + 9 + 9) (size_read f + 9 + 9 + 9) (two-small i h (small-part _ _ w (omega arith) (omega arith))) (omega arith))

  module _ {b : Bool} {e : Float} (i : ℕ) (w : SmallIf b f x (2 * i - 4) (2 * i + 5)) where
    pub high-no-nan : i < length x / width f / 2 → e ≡ get_or (scaled_odds f t x) i nan → b ≡ true → IsTrue (not (is_nan e))
    unfolding scaled_odds
    high-no-nan h q s =
        lifts.no-nan-is f (size_read f + 9 + 9 + 9 + 3) (get_or (scaled_odds f t x) i nan)
        (lifts.scaled_small f t.invk (odds_three f t x) (size_read f + 9 + 9 + 9) i given.invk (omega (arith, far f)) (rw length_three h) (three-small i h (small-part _ _ (w s) (omega arith) (omega arith)))) q

    pub low-no-nan : i < (length x / width f + 1) / 2 → e ≡ get_or (scaled_evens f t x) i nan → b ≡ true → IsTrue (not (is_nan e))
    unfolding scaled_evens
    low-no-nan h q s =
        lifts.no-nan-is f (size_read f + 9 + 9 + 9 + 9 + 3) (get_or (scaled_evens f t x) i nan)
        (lifts.scaled_small f t.k (evens_four f t x) (size_read f + 9 + 9 + 9 + 9) i given.k (far f) (rw length-four h) (four-small i h (w s))) q

  -- all of the bands
  pub split-all : {both : Bool} {y z : List ℕ} {i : ℕ} → Front (width f) (approx_length (length x / width f)) i (pattern_of f (scaled_evens f t x)) y → i ≡ approx_length (length x / width f)
      → (both ≡ true → Front (width f) (details_length (length x / width f)) (details_length (length x / width f)) (pattern_of f (scaled_odds f t x)) z) → Split both f t x y z
  split-all h e k = record { approx = lifts.stored-all f (scaled_evens f t x) h e (sym length-evens-scaled); details = λ w. lifts.stored-all f (scaled_odds f t x) (k w) refl (sym length-odds-scaled) }

-- ---- what a block hands on

pub handed-at : {f : Format} {t : Set} {x : List ℕ} {i n : ℕ} {u v w : List Float} {p q r : Float} (j k : ℕ) → Handed f t x i n u v w → j ≤ n → k ≡ i + j → p ≡ get_or u j nan → q ≡ get_or v j nan → r ≡ get_or w j nan
    → Carried f t x k p q r
handed-at j k h l e ep eq er = record {
  one = ep ∙ h.one.each j k (omega arith) (omega arith);
  two = eq ∙ h.two.each j k (omega arith) (omega arith);
  three = er ∙ h.three.each j (k - 1) (omega arith) (omega arith);
}

-- ---- what the loop keeps

pub splitting-at : {both : Bool} {f : Format} {t : Set} {x a d : List ℕ} {i : ℕ} (k : ℕ) → Splitting both f t x a d i → i ≡ k → Splitting both f t x a d k
splitting-at k r e = rw (← e) r

pub carried-at : {f : Format} {t : Set} {x : List ℕ} {i : ℕ} {p q r : Float} (k : ℕ) → Carried f t x i p q r → i ≡ k → Carried f t x k p q r
carried-at k c e = rw (← e) c

-- ---- by the set of the forward filter they are its bands

pub high-97 : (f : Format) (x : List ℕ) {t : Set} {y : List ℕ} → t ≡ factors_of f → y ≡ encode_floats f (scaled_odds f t x) → y ≡ high f Cdf97 x
unfolding high details steps97
high-97 f x et e = e ∙ unfold scaled_odds odds_three evens_to odds_to even_in odd_in in rw et

pub low-97 : (f : Format) (x : List ℕ) {t : Set} {y : List ℕ} → t ≡ factors_of f → y ≡ encode_floats f (scaled_evens f t x) → y ≡ low f Cdf97 x
unfolding low approxs steps97
low-97 f x et e = e ∙ unfold scaled_evens evens_four odds_three evens_to odds_to even_in odd_in in rw et

-- a number that is not even is one more than twice its half
pub odd-count : (n : ℕ) → (n % 2 ≡ 0 → ⊥) → n ≡ 2 * (n / 2) + 1
odd-count n ne = ⊎_elim (λ (z : n % 2 < 1). absurd (ne (omega arith))) (λ (z : 1 ≤ n % 2). omega arith) (lt-or-le (n % 2) 1)

-- a length that is not odd has as many approximations as details
pub even-halves : (n : ℕ) → (n % 2 ≡ 1 → ⊥) → n / 2 ≡ (n + 1) / 2
even-halves n ne = ⊎_elim (λ (z : n % 2 < 1). omega arith) (λ (z : 1 ≤ n % 2). absurd (ne (omega arith))) (lt-or-le (n % 2) 1)
