-- What the blocks of the inverse of 9/7 make and store, and that it is no NaN where the floats around are small. Once over the format.
use mathlib.Core.Bool.{Bool, true, not}
use mathlib.Core.List.{List}
use mathlib.Core.Path.{◌≡◌, refl, sym, subst, ◌∙◌}
use Prim.Native.Nat.{ℕ, ◌+◌, ◌-◌, ◌*◌, ◌/◌, ◌≤◌, ◌<◌, min}
use native.Mathlib.Omega.{arith}
use lib.Ieee.{Float, nan, Format, binary32, binary64, mul, is_nan}
use lib.ListN.{length, get_or}
use Rattle.std.specs.Bool.{IsTrue}
use Rattle.base_lengths.specs.declared.Wavelet.TheVariants.{Cdf97}
use Rattle.base_samples.specs.Words.{Front}
use Rattle.base_samples.specs.Floats.{width, float_at, put_float, decode_floats}
use Rattle.base_samples.proofs.Fronts.{front-none}
use Rattle.base_samples.proofs.FloatLaws.{length-decode_floats, at-decode_floats}
use Rattle.filter_floats.specs.Steps.{lift, evens, odds}
use Rattle.filter_floats.specs.Filters.{Set, factors_of, back97}
use Rattle.filter_floats.specs.Bands.{restored, back}
use Rattle.filter_floats.specs.Loops.{Lent}
use Rattle.filter_small.specs.Small.{Small, Factor, SmallFrom, BothSmallIf}
use Rattle.filter_small.specs.Lists.{in_turn}
use Rattle.filter_small.proofs.Sizes as sizes
use Rattle.filter_small.specs.Pieces.{Piece, Stepped}
use Rattle.filter_small.proofs.Factors.{Factors, factors, factors-turned}
use Rattle.filter_small.proofs.Lifts as lifts
use Rattle.filter_small.proofs.Pieces.{stepped-piece}
use Rattle.filter_cdf97f_inverse.specs.Back.{times_of, evens_one, odds_two, evens_three, odds_four, Bands97, Carried, Pair, Restoring}

-- ---- how far a scaling and four steps reach

far : (f : Format) → sizes.size_read f + 3 + 9 + 9 + 9 + 9 < sizes.ceiling f
far binary32 = omega arith
far binary64 = omega arith

-- ---- a scaling

module _ (f : Format) (k : Float) (s : List ℕ) where
  length-times : length (times_of f k s) ≡ length s / width f
  unfolding times_of
  length-times = lifts.length-scaled f k _ ∙ length-decode_floats f s

  pub times-made : (i : ℕ) {y : Float} → i < length s / width f → y ≡ float_at f s i → mul f y k ≡ get_or (times_of f k s) i nan
  unfolding times_of
  times-made i h e = lifts.scaled_made f k (decode_floats f s) i (rw (length-decode_floats f s) h) (e ∙ sym (at-decode_floats f s i h))

  times-small : {i j : ℕ} (p : ℕ) → Factor k → SmallFrom f s i j → i ≤ p → p < j → p < length s / width f → Small f (sizes.size_read f + 3) (get_or (times_of f k s) p nan)
  unfolding times_of
  times-small p b w ip pj h = lifts.scaled_small f k (decode_floats f s) (sizes.size_read f) p b (omega (arith, far f)) (rw (length-decode_floats f s) h) (lifts.small-in w p ip pj h)

-- ---- a step

-- p and q are as long as the bands a and d
record Counted (f : Format) (a d : List ℕ) (p q : List Float) : Type 0 where
  evens-count : length p ≡ length a / width f
  odds-count : length q ≡ length d / width f

-- entry i of e is what a step by c makes of p and q as the code makes it, at an even place and at an odd one: l and r are the places of the neighbours
abbrev EvenMade : Format → Float → List ℕ → List ℕ → List Float → List Float → List Float → ℕ → ℕ → ℕ → Float → Float → Float → Type 0
EvenMade f c a d p q e i l r y z w =
    i < length a / width f → l ≡ i - 1 → r ≡ min i (length d / width f - 1) → y ≡ get_or q l nan → z ≡ get_or q r nan → w ≡ get_or p i nan → lift f c y z w ≡ get_or e i nan

abbrev OddMade : Format → Float → List ℕ → List ℕ → List Float → List Float → List Float → ℕ → ℕ → Float → Float → Float → Type 0
OddMade f c a d p q e i r y z w =
    i < length d / width f → r ≡ min (i + 1) (length a / width f - 1) → y ≡ get_or p i nan → z ≡ get_or p r nan → w ≡ get_or q i nan → lift f c y z w ≡ get_or e i nan

module _ {f : Format} {a d : List ℕ} {p q : List Float} (c : Float) (b : Counted f a d p q) where
  by-evens : (i l r : ℕ) {y z w : Float} → EvenMade f c a d p q (evens (lift f c) nan p q) i l r y z w
  by-evens i l r h el er = lifts.even-made f c p q i l r (rw b.evens-count h) el (rw b.odds-count er)

  by-odds : (i r : ℕ) {y z w : Float} → OddMade f c a d p q (odds (lift f c) nan p q) i r y z w
  by-odds i r h er = lifts.odd-made f c p q i r (rw b.odds-count h) (rw b.evens-count er)

  after-evens : Counted f a d (evens (lift f c) nan p q) q
  after-evens = record { evens-count = lifts.length-evens f c p q ∙ b.evens-count; odds-count = b.odds-count }

  after-odds : Counted f a d p (odds (lift f c) nan p q)
  after-odds = record { evens-count = b.evens-count; odds-count = lifts.length-odds f c p q ∙ b.odds-count }

  -- small neighbours, of at most 2 ^ j units, leave an entry small; the one that is lifted may be smaller
  module _ (j m : ℕ) (k : Factor c) (l : j + 9 < sizes.ceiling f) (mj : m ≤ j) (i : ℕ) where
    evens-small : i < length a / width f → Small f j (get_or q (i - 1) nan) → Small f j (get_or q (min i (length d / width f - 1)) nan) → Small f m (get_or p i nan)
        → Small f (j + 9) (get_or (evens (lift f c) nan p q) i nan)
    evens-small h y z w =
        lifts.even-small f c p q j k l i (i - 1) (min i (length d / width f - 1)) (rw b.evens-count h) refl (rw b.odds-count refl) y z (sizes.small-le f (get_or p i nan) m j w mj)

    odds-small : i < length d / width f → Small f j (get_or p i nan) → Small f j (get_or p (min (i + 1) (length a / width f - 1)) nan) → Small f m (get_or q i nan)
        → Small f (j + 9) (get_or (odds (lift f c) nan p q) i nan)
    odds-small h y z w =
        lifts.odd-small f c p q j k l i (min (i + 1) (length a / width f - 1)) (rw b.odds-count h) (rw b.evens-count refl) y z (sizes.small-le f (get_or q i nan) m j w mj)

-- ---- the four steps

module _ {f : Format} {t : Set} {a d : List ℕ} (v : Bands97 f t a d) where
  factored : Factors t
  factored = subst Factors (sym v.set) (factors-turned (factors_of f) (factors f))

  scaled : Counted f a d (times_of f t.invk a) (times_of f t.k d)
  scaled = record { evens-count = length-times f _ a; odds-count = length-times f _ d }

  one : Counted f a d (evens_one f t a d) (times_of f t.k d)
  unfolding evens_one
  one = after-evens t.delta scaled

  two : Counted f a d (evens_one f t a d) (odds_two f t a d)
  unfolding odds_two
  two = after-odds t.gamma one

  three : Counted f a d (evens_three f t a d) (odds_two f t a d)
  unfolding evens_three
  three = after-evens t.beta two

  four : Counted f a d (evens_three f t a d) (odds_four f t a d)
  unfolding odds_four
  four = after-odds t.alpha three

  pub one-made : (i l r : ℕ) {y z w : Float} → EvenMade f t.delta a d (times_of f t.invk a) (times_of f t.k d) (evens_one f t a d) i l r y z w
  unfolding evens_one
  one-made = by-evens t.delta scaled

  pub two_made : (i r : ℕ) {y z w : Float} → OddMade f t.gamma a d (evens_one f t a d) (times_of f t.k d) (odds_two f t a d) i r y z w
  unfolding odds_two
  two_made = by-odds t.gamma one

  pub three_made : (i l r : ℕ) {y z w : Float} → EvenMade f t.beta a d (evens_one f t a d) (odds_two f t a d) (evens_three f t a d) i l r y z w
  unfolding evens_three
  three_made = by-evens t.beta two

  -- the odd sample of pair i
  pub pair_made : (i : ℕ) {q r n : Float} → Pair f t a d i q r n → lift f t.alpha r n q ≡ get_or (odds_four f t a d) i nan
  unfolding odds_four
  pair_made i w = by-odds t.alpha three i _ w.inside refl w.three w.next w.two

  -- ---- the steps of a block, i to before i + n

  module _ (i n : ℕ) (h : i + n + 2 ≤ length d / width f) where
    module _ {y z u₀ u v₀ w w₀ x : List Float} {p q r : Float} (py : Piece (times_of f t.k d) 0 (i + 1) (n + 1) y) (pz : Piece (times_of f t.invk a) 0 (i + 2) n z) (c : Carried f t a d i p q r)
        (one : Stepped f t.delta y z n p u₀ u) (two : Stepped f t.gamma u y n q v₀ w) (three : Stepped f t.beta w u n r w₀ x) where
      ones : Piece (evens_one f t a d) 0 (i + 1) (n + 1) u
      ones =
          stepped-piece _ _ _ (i + 1) one (omega arith) c.one (λ j k hj ek.
          one-made k (i + 1 + j) k (omega (arith, v)) (omega arith) (omega arith) (py.each j _ (omega arith) (omega arith)) (py.each (j + 1) _ (omega arith) (omega arith)) (pz.each j _ hj (omega arith)))

      twos : Piece (odds_two f t a d) 0 i (n + 1) w
      twos =
          stepped-piece _ _ _ i two (omega arith) c.two (λ j k hj ek.
          two_made k (k + 1) (omega arith) (omega (arith, v)) (ones.each j _ (omega arith) (omega arith)) (ones.each (j + 1) _ (omega arith) (omega arith)) (py.each j _ (omega arith) (omega arith)))

      threes : Piece (evens_three f t a d) 0 i (n + 1) x
      threes =
          stepped-piece _ _ _ i three (omega arith) c.three (λ j k hj ek.
          three_made k (i + j) k (omega (arith, v)) (omega arith) (omega arith) (twos.each j _ (omega arith) (omega arith)) (twos.each (j + 1) _ (omega arith) (omega arith)) (ones.each j _ (omega arith) (omega arith)))

      -- what is stored is made of these, and the next block is handed the last of them
      pub block-made : {e g h : Float} → e ≡ get_or u n nan → g ≡ get_or w n nan → h ≡ get_or x n nan → Piece (odds_two f t a d) 0 i (n + 1) w × Piece (evens_three f t a d) 0 i (n + 1) x × Carried f t a d (i + n) e g h
      block-made eo et eh = (
        twos,
        threes,
        record {
          one = eo ∙ ones.each n _ (omega arith) (omega arith);
          two = et ∙ twos.each n _ (omega arith) (omega arith);
          three = eh ∙ threes.each n _ (omega arith) (omega arith);
        },
      )

  -- ---- what is stored

  -- an entry is small where the bands are around it
  module _ {i j : ℕ} (wa : SmallFrom f a i j) (wd : SmallFrom f d i j) where
    detail-small : (p : ℕ) → i ≤ p → p < j → p < length d / width f → Small f (sizes.size_read f + 3) (get_or (times_of f t.k d) p nan)
    detail-small p = times-small f t.k d p factored.k wd

    one-small : (p : ℕ) → i ≤ p - 1 → p < j → p < length a / width f → Small f (sizes.size_read f + 3 + 9) (get_or (evens_one f t a d) p nan)
    unfolding evens_one
    one-small p ip pj h =
        evens-small t.delta scaled _ _ factored.delta (omega (arith, far f)) (omega arith) p h
        (detail-small (p - 1) (omega arith) (omega arith) (omega arith)) (detail-small _ (omega arith) (omega arith) (omega arith))
        (times-small f t.invk a p factored.invk wa (omega arith) (omega arith) h)

    two-small : (p : ℕ) → i ≤ p - 1 → p + 1 < j → p < length d / width f → Small f (sizes.size_read f + 3 + 9 + 9) (get_or (odds_two f t a d) p nan)
    unfolding odds_two
    two-small p ip pj h =
        odds-small t.gamma one _ _ factored.gamma (omega (arith, far f)) (omega arith) p h
        (one-small p (omega arith) (omega arith) (omega arith)) (one-small _ (omega arith) (omega arith) (omega arith)) (detail-small p (omega arith) (omega arith) h)

    three-small : (p : ℕ) → i ≤ p - 2 → p + 1 < j → p < length a / width f → Small f (sizes.size_read f + 3 + 9 + 9 + 9) (get_or (evens_three f t a d) p nan)
    unfolding evens_three
    three-small p ip pj h =
        evens-small t.beta two _ _ factored.beta (omega (arith, far f)) (omega arith) p h
        (two-small (p - 1) (omega arith) (omega arith) (omega arith)) (two-small _ (omega arith) (omega arith) (omega arith)) (one-small p (omega arith) (omega arith) h)

    four-small : (p : ℕ) → i ≤ p - 2 → p + 2 < j → p < length d / width f → Small f (sizes.size_read f + 3 + 9 + 9 + 9 + 9) (get_or (odds_four f t a d) p nan)
    unfolding odds_four
    four-small p ip pj h =
        odds-small t.alpha three _ _ factored.alpha (far f) (omega arith) p h
        (three-small p (omega arith) (omega arith) (omega arith)) (three-small _ (omega arith) (omega arith) (omega arith)) (two-small p (omega arith) (omega arith) h)

  -- so what pair i stores is no NaN
  module _ {b : Bool} {i : ℕ} (w : BothSmallIf b f a d (i - 2) (i + 3)) where
    pub even-no-nan : {e : Float} → i < length a / width f → e ≡ get_or (evens_three f t a d) i nan → b ≡ true → IsTrue (not (is_nan e))
    even-no-nan h q y = lifts.no-nan-is f _ (get_or (evens_three f t a d) i nan) (three-small (w.0 y) (w.1 y) i (omega arith) (omega arith) h) q

    pub odd_no_nan : {o : Float} → i < length d / width f → o ≡ get_or (odds_four f t a d) i nan → b ≡ true → IsTrue (not (is_nan o))
    odd_no_nan h q y = lifts.no-nan-is f _ (get_or (odds_four f t a d) i nan) (four-small (w.0 y) (w.1 y) i (omega arith) (omega arith) h) q

  all-stored : {x : List ℕ} {i : ℕ} → Front (width f) (length a / width f + length d / width f) i (in_turn f (evens_three f t a d) (odds_four f t a d)) x
      → i ≡ length a / width f + length d / width f → x ≡ back f Cdf97 a d
  unfolding back restored back97
  all-stored h e = lifts.turns-all f (evens_three f t a d) (odds_four f t a d) h e (rw (four.evens-count, four.odds-count)) ∙ unfold evens_three odds_four odds_two evens_one times_of in rw v.set

  -- all samples: pairs alone, or an even sample after them
  pub restored-all : {x : List ℕ} (i : ℕ) → Restoring f t a d x i → 2 * i ≡ length a / width f + length d / width f → x ≡ back f Cdf97 a d
  restored-all i h n = all-stored h n

  pub restored-last : {x y : List ℕ} {e : Float} (i : ℕ) → Restoring f t a d x i → 2 * i + 1 ≡ length a / width f + length d / width f → e ≡ get_or (evens_three f t a d) i nan → y ≡ put_float f x (2 * i) e
      → y ≡ back f Cdf97 a d
  restored-last i h n q put = all-stored (lifts.even-more f _ _ i h (omega arith) q put) n

-- ---- a pair whose right neighbour is at j

pub pair-by : {f : Format} {t : Set} {a d : List ℕ} (i j : ℕ) {q r n : Float} → i < length d / width f → j ≡ min (i + 1) (length a / width f - 1)
    → q ≡ get_or (odds_two f t a d) i nan → r ≡ get_or (evens_three f t a d) i nan → n ≡ get_or (evens_three f t a d) j nan → Pair f t a d i q r n
pair-by i j h e two three next = record { inside = h; two = two; three = three; next = rw (← e) next }

pub next-at : {f : Format} {t : Set} {a d : List ℕ} {i : ℕ} {q r n : Float} (j : ℕ) → Pair f t a d i q r n → j ≡ min (i + 1) (length a / width f - 1) → n ≡ get_or (evens_three f t a d) j nan
next-at j w e = rw e w.next

pub carried-at : {f : Format} {t : Set} {a d : List ℕ} {i : ℕ} {p q r : Float} (k : ℕ) → Carried f t a d i p q r → i ≡ k → Carried f t a d k p q r
carried-at k c e = rw (← e) c

-- ---- from what the inverse is lent

module _ {f : Format} {x a d : List ℕ} (l : Lent f x a d) where
  pub none-restored : (t : Set) → Restoring f t a d x 0
  none-restored t =
      let n : length x / width f ≡ length a / width f + length d / width f = omega (arith, l.details.count, l.approx.count) in
      front-none _ (rw (← n) l.samples)
