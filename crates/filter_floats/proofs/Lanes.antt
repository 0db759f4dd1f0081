-- The steps on both bands in one list are the steps on the two bands, and what a turn of their loops stores, once over the format.
use mathlib.Core.Bool.{cond}
use mathlib.Core.List.{List, [], ◌∷◌}
use mathlib.Core.Path.{◌≡◌, sym, ap, ◌∙◌}
use Prim.Native.Nat.{ℕ, zero, suc, ◌+◌, ◌-◌, ◌*◌, ◌/◌, ◌%◌, ◌≤◌, ◌<◌, min}
use native.Mathlib.Omega.{arith}
use borrow.Author.Tests.{eq-eqb, ne_eqb}
use lib.Dec.{eqb}
use lib.Ieee.{Float, nan, Format, mul}
use lib.ListN.{length, get_or}
use Rattle.base_samples.specs.Halves.{even_of, odd_of}
use Rattle.base_samples.specs.Floats.{width, float_at, put_float, decode_floats, encode_floats, Plain}
use Rattle.base_samples.proofs.Words.{length-tabulate, get_or-tabulate}
use Rattle.base_samples.proofs.Halves.{length-even, length-odd, at-even, at-odd, joined_is}
use Rattle.base_samples.proofs.FloatLaws.{length-decode_floats, at-decode_floats}
use Rattle.filter_floats.specs.Steps.{lift, odd_at, even_at, odds, evens, scaled, oddly, evenly, scaling}
use Rattle.filter_floats.specs.Loops.{Stored}
use Rattle.filter_floats.specs.Lanes.{left_of, right_of, lane_at, lane, scaled_lanes, run_on, Lanes}
use Rattle.filter_floats.proofs.Midway.{Midway, floats_of, midway-none, midway-put, midway-skip, midway-later, midway-kept, kept-plain, midway-all, midway-plain, stored-plain}

module _ (f : Format) (x : List Float) where
  halves : length (even_of nan x) + length (odd_of nan x) ≡ length x
  halves = rw (length-even nan x, length-odd nan x) (omega arith)

  -- even entry i is entry k, odd entry i is entry k
  even_is : (i k : ℕ) → k ≡ 2 * i → k < length x → get_or (even_of nan x) i nan ≡ get_or x k nan
  even_is i k e h = at-even nan x i (omega arith) ∙ ap (λ j. get_or x j nan) (sym e)

  odd_is : (i k : ℕ) → k ≡ 2 * i + 1 → k < length x → get_or (odd_of nan x) i nan ≡ get_or x k nan
  odd_is i k e h = at-odd nan x i (omega arith) ∙ ap (λ j. get_or x j nan) (sym e)

  module _ (long : 2 ≤ length x) (c : Float) where
    pub lane-odds : lane f c 1 x ≡ run_on f (oddly c ∷ []) x
    unfolding lane lane_at run_on odds odd_at
    lane-odds =
        joined_is nan (even_of nan x) (odds (lift f c) nan (even_of nan x) (odd_of nan x)) (length x) _ (rw (length-tabulate) halves)
        (λ j h p. rw (ne_eqb (j % 2) 1 (omega arith)) (sym (even_is (j / 2) j (omega arith) h)))
        (λ j h p.
        rw (eq-eqb (j % 2) 1 p, get_or-tabulate (length (odd_of nan x)) _ (j / 2) nan (rw (length-odd nan x) (omega arith)), length-even nan x)
        (rw (even_is (j / 2) (left_of j) (omega arith) (omega arith), even_is (min (j / 2 + 1) ((length x + 1) / 2 - 1)) (right_of (length x) j) (omega arith) (omega arith), odd_is (j / 2) j (omega arith) h)))

    pub lane-evens : lane f c 0 x ≡ run_on f (evenly c ∷ []) x
    unfolding lane lane_at run_on evens even_at
    lane-evens =
        joined_is nan (evens (lift f c) nan (even_of nan x) (odd_of nan x)) (odd_of nan x) (length x) _ (rw (length-tabulate) halves)
        (λ j h p.
        rw (eq-eqb (j % 2) 0 p, get_or-tabulate (length (even_of nan x)) _ (j / 2) nan (rw (length-even nan x) (omega arith)), length-odd nan x)
        (rw (odd_is (j / 2 - 1) (left_of j) (omega arith) (omega arith), odd_is (min (j / 2) (length x / 2 - 1)) (right_of (length x) j) (omega arith) (omega arith), even_is (j / 2) j (omega arith) h)))
        (λ j h p. rw (ne_eqb (j % 2) 0 (omega arith)) (sym (odd_is (j / 2) j (omega arith) h)))

  pub lanes-scaled : (p q : Float) → scaled_lanes f p q x ≡ run_on f (scaling p q ∷ []) x
  unfolding scaled_lanes run_on scaled
  lanes-scaled p q =
      joined_is nan (scaled f p (even_of nan x)) (scaled f q (odd_of nan x)) (length x) _ (rw (length-tabulate, length-tabulate) halves)
      (λ j h e. rw (eq-eqb (j % 2) 0 e, get_or-tabulate (length (even_of nan x)) _ (j / 2) nan (rw (length-even nan x) (omega arith)), even_is (j / 2) j (omega arith) h))
      (λ j h e. rw (ne_eqb (j % 2) 0 (omega arith), get_or-tabulate (length (odd_of nan x)) _ (j / 2) nan (rw (length-odd nan x) (omega arith)), odd_is (j / 2) j (omega arith) h))

-- ---- a turn of each loop

module _ (f : Format) (s₀ : List ℕ) where
  -- the floats after a lifting step on the places p, p + 2, .., and after a scaling
  abbrev pub lane_of : Float → ℕ → ℕ → Float
  lane_of c p = lane_at f c p (decode_floats f s₀)

  abbrev pub lanes_of : Float → Float → ℕ → Float
  lanes_of p q j = mul f (floats_of f s₀ j) (cond (eqb (j % 2) 0) p q)

  -- the other places keep their floats
  lane-other : (c : Float) (p i : ℕ) → (i % 2 ≡ p → ⊥) → lane_of c p i ≡ floats_of f s₀ i
  unfolding lane_at
  lane-other c p i ne = rw (ne_eqb (i % 2) p ne)

  lane-start : (c : Float) (p : ℕ) {n : ℕ} → p < 2 → Stored f n s₀ → Midway f n p (lane_of c p) (floats_of f s₀) s₀
  lane-start c zero h st = midway-none (lane_of c 0) st
  lane-start c (suc zero) h st = midway-skip (midway-none (lane_of c 1) st) (λ l. lane-other c 1 0 (λ q. omega arith))
  lane-start c (suc (suc p)) h st = absurd (omega arith)

-- ---- a lifting step on the places p, p + 2, .. of x: the floats before j are new, or stay as they are, and l is the one before j

pub record LaneTo (f : Format) (c : Float) (p : ℕ) (x : List ℕ) (j : ℕ) (l : Float) (s : List ℕ) : Type 0 where
  pub lanes : Lanes f x
  pub up_to : j ≤ length x / width f + 1
  pub parity : j % 2 ≡ p
  pub left : l ≡ floats_of f x (left_of j)
  pub new : Midway f (length x / width f) j (lane_of f x c p) (floats_of f x) s

-- the loop starts at place 0 or 1, and the float before it is at the other of the two
pub lane_first : {f : Format} {p : ℕ} {x : List ℕ} → Lanes f x × (p < 2) → Plain f x (1 - p)
lane_first l = stored-plain l.0.stored (omega (arith, l.0.long))

module _ {f : Format} {c : Float} {p : ℕ} {x : List ℕ} where
  pub lane-none : {j : ℕ} {l : Float} → j ≡ p → Lanes f x × (p < 2) → l ≡ float_at f x (1 - p) → LaneTo f c p x j l x
  lane-none ej h e =
      let long = h.0.long in
      let left : left_of p ≡ 1 - p = omega (arith, h.1) in
      rw ej record {
        lanes = h.0;
        up_to = omega (arith, h.1);
        parity = omega (arith, h.1);
        left = rw (left, at-decode_floats f x (1 - p) (omega arith)) e;
        new = lane-start f x c p h.1 h.0.stored;
      }

  module _ {j : ℕ} {l : Float} {s : List ℕ} (m : LaneTo f c p x j l s) where
    lane-turn : {r : Float} {t : List ℕ} → j < length x / width f → r ≡ floats_of f x (right_of (length x / width f) j)
        → t ≡ put_float f s j (lift f c l r (float_at f s j)) → Midway f (length x / width f) (j + 2) (lane_of f x c p) (floats_of f x) t
    unfolding lane_at
    lane-turn hj er put =
        let parity = m.parity in
        let two : j + 1 + 1 ≡ j + 2 = omega arith in
        rw two at
        (midway-skip
        (midway-put m.new hj (rw (m.left, er, midway-later x m.new j hj (omega arith), eq-eqb (j % 2) p parity, length-decode_floats f x)) put)
        (λ h. lane-other f x c p (j + 1) (λ q. omega arith)))

    module _ (h : j + 1 < length x / width f) where
      other : lane_of f x c p (j + 1) ≡ floats_of f x (j + 1)
      other = let parity = m.parity in lane-other f x c p (j + 1) (λ q. omega arith)

      pub lane-right : Plain f s (j + 1)
      lane-right = kept-plain x m.new (j + 1) h other

      pub lane_here : Plain f s j
      lane_here = midway-plain x m.new (omega arith) (omega arith)

      pub lane-next : {k : ℕ} {r : Float} {t : List ℕ} → k ≡ j + 2 → r ≡ float_at f s (j + 1) → t ≡ put_float f s j (lift f c l r (float_at f s j)) → LaneTo f c p x k r t
      lane-next ek er put =
          let r' = er ∙ midway-kept x m.new (j + 1) h other in
          let left : left_of (j + 2) ≡ j + 1 = omega arith in
          let right : right_of (length x / width f) j ≡ j + 1 = omega arith in
          rw ek record { lanes = m.lanes; up_to = omega arith; parity = omega (arith, m.parity); left = rw left r'; new = lane-turn (omega arith) (rw right r') put }

    lane_made : {k : ℕ} {t : List ℕ} → Midway f (length x / width f) k (lane_of f x c p) (floats_of f x) t → length x / width f ≤ k → t ≡ encode_floats f (lane f c p (decode_floats f x))
    unfolding lane
    lane_made q h = rw (length-decode_floats f x) (midway-all q h)

    pub lane-all : length x / width f ≤ j → s ≡ encode_floats f (lane f c p (decode_floats f x))
    lane-all h = lane_made m.new h

    -- the last place: the float after it is the one before it
    module _ {k : ℕ} (e : j ≡ k) (h : k < length x / width f) where
      pub lane-last : Plain f s k
      lane-last = midway-plain x m.new (omega arith) h

      pub lane-all-last : {t : List ℕ} → length x / width f ≤ k + 1 → t ≡ put_float f s k (lift f c l l (float_at f s k)) → t ≡ encode_floats f (lane f c p (decode_floats f x))
      lane-all-last last put =
          let long = m.lanes.long in
          let same : right_of (length x / width f) j ≡ left_of j = omega arith in
          let put' = rw (← e) at put in
          lane_made (lane-turn (omega arith) (rw same m.left) put') (omega arith)

-- ---- a scaling: i floats of even places and i of odd ones are new

pub record LanesTo (f : Format) (p q : Float) (x : List ℕ) (i : ℕ) (s : List ℕ) : Type 0 where
  pub up_to : i ≤ length x / width f / 2
  pub new : Midway f (length x / width f) (2 * i) (lanes_of f x p q) (floats_of f x) s

module _ {f : Format} {p q : Float} {x : List ℕ} where
  pub lanes-none : Lanes f x → LanesTo f p q x 0 x
  lanes-none l = record { up_to = omega arith; new = midway-none _ l.stored }

  module _ {i : ℕ} {s : List ℕ} (m : LanesTo f p q x i s) where
    lanes-turn : {j : ℕ} {r t : List ℕ} {k : Float} → Midway f (length x / width f) j (lanes_of f x p q) (floats_of f x) r → j < length x / width f → cond (eqb (j % 2) 0) p q ≡ k
        → t ≡ put_float f r j (mul f (float_at f r j) k) → Midway f (length x / width f) (j + 1) (lanes_of f x p q) (floats_of f x) t
    lanes-turn {j} q hj ek put = midway-put q hj (rw (midway-later x q j hj (omega arith), ek)) put

    lanes-made : {j : ℕ} {t : List ℕ} → Midway f (length x / width f) j (lanes_of f x p q) (floats_of f x) t → length x / width f ≤ j → t ≡ encode_floats f (scaled_lanes f p q (decode_floats f x))
    unfolding scaled_lanes
    lanes-made q h = rw (length-decode_floats f x) (midway-all q h)

    module _ (h : i < length x / width f / 2) where
      pub lanes-even : Plain f s (2 * i)
      lanes-even = midway-plain x m.new (omega arith) (omega arith)

      module _ {t : List ℕ} (even : t ≡ put_float f s (2 * i) (mul f (float_at f s (2 * i)) p)) where
        half : Midway f (length x / width f) (2 * i + 1) (lanes_of f x p q) (floats_of f x) t
        half = lanes-turn m.new (omega arith) (rw (eq-eqb (2 * i % 2) 0 (omega arith))) even

        pub lanes-odd : Plain f t (2 * i + 1)
        lanes-odd = midway-plain x half (omega arith) (omega arith)

        pub lanes_next : {r : List ℕ} → r ≡ put_float f t (2 * i + 1) (mul f (float_at f t (2 * i + 1)) q) → LanesTo f p q x (i + 1) r
        lanes_next odd =
            let two : 2 * i + 1 + 1 ≡ 2 * (i + 1) = omega arith in
            record { up_to = omega arith; new = rw two at (lanes-turn half (omega arith) (rw (ne_eqb ((2 * i + 1) % 2) 0 (omega arith))) odd) }

    pub lanes_all : length x / width f / 2 ≤ i → (length x / width f % 2 ≡ 1 → ⊥) → s ≡ encode_floats f (scaled_lanes f p q (decode_floats f x))
    lanes_all h even = lanes-made m.new (omega arith)

    -- an odd number of floats ends in one of an even place
    module _ {k : ℕ} (odd : length x / width f ≡ suc k) (even : k % 2 ≡ 0) where
      pub lanes-last : Plain f s k
      lanes-last = midway-plain x m.new (omega (arith, m.up_to)) (omega arith)

      pub lanes-all-odd : {t : List ℕ} → k ≤ 2 * i → t ≡ put_float f s k (mul f (float_at f s k) p) → t ≡ encode_floats f (scaled_lanes f p q (decode_floats f x))
      lanes-all-odd h put =
          let e : 2 * i ≡ k = omega (arith, m.up_to) in
          lanes-made (lanes-turn (rw e at m.new) (omega arith) (rw (eq-eqb (k % 2) 0 even)) put) (omega arith)
