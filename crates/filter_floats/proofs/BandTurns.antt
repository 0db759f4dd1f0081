-- What a turn of each loop over a band stores, and what its last one leaves, once over the format.
use mathlib.Core.List.{List}
use mathlib.Core.Path.{◌≡◌, refl}
use Prim.Native.Nat.{ℕ, ◌+◌, ◌-◌, ◌/◌, ◌≤◌, ◌<◌, min}
use native.Mathlib.Omega.{arith}
use lib.Ieee.{Float, nan, Format, mul}
use lib.ListN.{length}
use Rattle.base_samples.specs.Floats.{width, float_at, put_float, decode_floats, encode_floats, Plain}
use Rattle.base_samples.proofs.FloatLaws.{length-decode_floats, at-decode_floats}
use Rattle.filter_floats.specs.Steps.{lift, odd_at, even_at, odds, evens, scaled}
use Rattle.filter_floats.specs.Loops.{Stored, StoredBands}
use Rattle.filter_floats.proofs.Midway.{Midway, floats_of, midway-none, midway-put, midway-later, midway-all, midway-plain, stored-plain}

module _ (f : Format) (c : Float) where
  -- the details after "odds c", the approximations after "evens c", and floats times c
  abbrev pub odds_of : List ℕ → List ℕ → ℕ → Float
  odds_of a d = odd_at (lift f c) nan (decode_floats f a) (decode_floats f d)

  abbrev pub evens_of : List ℕ → List ℕ → ℕ → Float
  evens_of a d = even_at (lift f c) nan (decode_floats f a) (decode_floats f d)

  abbrev pub scaled_of : List ℕ → ℕ → Float
  scaled_of s i = mul f (floats_of f s i) c

-- ---- "odds c": the first i of the details d are new

pub record OddsTo (f : Format) (c : Float) (a d : List ℕ) (i : ℕ) (s : List ℕ) : Type 0 where
  pub bands : StoredBands f a d
  pub up_to : i ≤ length d / width f - 1
  pub new : Midway f (length d / width f) i (odds_of f c a d) (floats_of f d) s

module _ {f : Format} {c : Float} {a d : List ℕ} where
  pub odds-none : StoredBands f a d → OddsTo f c a d 0 d
  odds-none b = record { bands = b; up_to = omega arith; new = midway-none _ b.details }

  module _ {i : ℕ} {s : List ℕ} (h : OddsTo f c a d i s) where
    odds-turn : {p q : ℕ} {t : List ℕ} {l r : Float} → i ≡ p → p < length d / width f → q ≡ min (p + 1) (length a / width f - 1)
        → l ≡ float_at f a p → r ≡ float_at f a q → t ≡ put_float f s p (lift f c l r (float_at f s p)) → Midway f (length d / width f) (p + 1) (odds_of f c a d) (floats_of f d) t
    unfolding odd_at
    odds-turn {p} {q} e hp eq el er put =
        let m : Midway f (length d / width f) p (odds_of f c a d) (floats_of f d) s = rw e at h.new in
        let few = h.bands.fewer in
        midway-put m hp (rw (el, er, midway-later d m p hp (omega arith), length-decode_floats f a, ← eq, at-decode_floats f a p (omega arith), at-decode_floats f a q (omega arith))) put

    -- in the loop: the two approximations, and the detail
    module _ (l : i < length d / width f - 1) where
      pub odds-left : Plain f a i
      odds-left = stored-plain h.bands.approx (omega (arith, h.bands.fewer))

      pub odds-right : Plain f a (i + 1)
      odds-right = stored-plain h.bands.approx (omega (arith, h.bands.fewer))

      pub odds-here : Plain f s i
      odds-here = midway-plain d h.new (omega arith) (omega arith)

      pub odds-next : {u v : Float} {t : List ℕ} → u ≡ float_at f a i → v ≡ float_at f a (i + 1) → t ≡ put_float f s i (lift f c u v (float_at f s i)) → OddsTo f c a d (i + 1) t
      odds-next eu ev put = record { bands = h.bands; up_to = omega arith; new = odds-turn refl (omega arith) (omega (arith, h.bands.fewer)) eu ev put }

    -- and after it: the approximation after the last is the last
    pub odds-last-left : {p : ℕ} → p ≡ length d / width f - 1 → Plain f a p
    odds-last-left e = stored-plain h.bands.approx (omega (arith, h.bands.some, h.bands.fewer))

    pub odds-last-right : {q : ℕ} → q ≡ length a / width f - 1 → Plain f a q
    odds-last-right e = stored-plain h.bands.approx (omega (arith, h.bands.some, h.bands.fewer))

    pub odds-last : {p : ℕ} → p ≡ length d / width f - 1 → Plain f s p
    odds-last e = midway-plain d h.new (omega (arith, h.up_to)) (omega (arith, h.bands.some))

    pub odds-all : {p q : ℕ} {u v : Float} {t : List ℕ} → p ≡ length d / width f - 1 → q ≡ length a / width f - 1 → p ≤ i → u ≡ float_at f a p → v ≡ float_at f a q
        → t ≡ put_float f s p (lift f c u v (float_at f s p)) → t ≡ encode_floats f (odds (lift f c) nan (decode_floats f a) (decode_floats f d))
    unfolding odds
    odds-all ep eq l eu ev put =
        let b = h.bands in
        rw (length-decode_floats f d) (midway-all (odds-turn (omega (arith, h.up_to)) (omega (arith, b.some)) (omega (arith, b.some, b.fewer, b.near)) eu ev put) (omega arith))

-- ---- "evens c": the first i of the approximations a are new, and l is the detail before the next

pub record EvensTo (f : Format) (c : Float) (a d : List ℕ) (i : ℕ) (l : Float) (s : List ℕ) : Type 0 where
  pub bands : StoredBands f a d
  pub up_to : i ≤ length d / width f
  pub left : l ≡ float_at f d (i - 1)
  pub new : Midway f (length a / width f) i (evens_of f c a d) (floats_of f a) s

pub evens-first : {f : Format} {a d : List ℕ} → StoredBands f a d → Plain f d 0
evens-first b = stored-plain b.details b.some

module _ {f : Format} {c : Float} {a d : List ℕ} where
  pub evens-none : {l : Float} → StoredBands f a d → l ≡ float_at f d 0 → EvensTo f c a d 0 l a
  evens-none b e = record { bands = b; up_to = omega arith; left = e; new = midway-none _ b.approx }

  module _ {i : ℕ} {l : Float} {s : List ℕ} (h : EvensTo f c a d i l s) where
    evens-turn : {p q : ℕ} {t : List ℕ} {r : Float} → i ≡ p → p < length a / width f → q ≡ min p (length d / width f - 1)
        → r ≡ float_at f d q → t ≡ put_float f s p (lift f c l r (float_at f s p)) → Midway f (length a / width f) (p + 1) (evens_of f c a d) (floats_of f a) t
    unfolding even_at
    evens-turn {p} {q} e hp eq er put =
        let m : Midway f (length a / width f) p (evens_of f c a d) (floats_of f a) s = rw e at h.new in
        let el : l ≡ float_at f d (p - 1) = rw e at h.left in
        let some = h.bands.some in
        let near = h.bands.near in
        midway-put m hp (rw (el, er, midway-later a m p hp (omega arith), length-decode_floats f d, ← eq, at-decode_floats f d (p - 1) (omega arith), at-decode_floats f d q (omega arith))) put

    module _ (k : i < length d / width f) where
      pub evens-right : Plain f d i
      evens-right = stored-plain h.bands.details k

      pub evens-here : Plain f s i
      evens-here = midway-plain a h.new (omega arith) (omega (arith, h.bands.fewer))

      pub evens-next : {r : Float} {t : List ℕ} → r ≡ float_at f d i → t ≡ put_float f s i (lift f c l r (float_at f s i)) → EvensTo f c a d (i + 1) r t
      evens-next er put =
          let back : i + 1 - 1 ≡ i = omega arith in
          record { bands = h.bands; up_to = omega arith; left = rw back er; new = evens-turn refl (omega (arith, h.bands.fewer)) (omega arith) er put }

    evens-made : {j : ℕ} {t : List ℕ} → Midway f (length a / width f) j (evens_of f c a d) (floats_of f a) t → length a / width f ≤ j → t ≡ encode_floats f (evens (lift f c) nan (decode_floats f a) (decode_floats f d))
    unfolding evens
    evens-made m k = rw (length-decode_floats f a) (midway-all m k)

    -- as many approximations as details, or one more: the detail after the last is the last
    pub evens-all : length d / width f ≤ i → length a / width f ≤ length d / width f → s ≡ encode_floats f (evens (lift f c) nan (decode_floats f a) (decode_floats f d))
    evens-all k same = evens-made h.new (omega arith)

    module _ {p : ℕ} (e : p ≡ length d / width f) (more : p < length a / width f) where
      pub evens-last : Plain f s p
      evens-last = midway-plain a h.new (omega (arith, h.up_to)) more

      pub evens-all-last : {t : List ℕ} → p ≤ i → t ≡ put_float f s p (lift f c l l (float_at f s p)) → t ≡ encode_floats f (evens (lift f c) nan (decode_floats f a) (decode_floats f d))
      evens-all-last k put =
          let ei : i ≡ p = omega (arith, h.up_to) in
          let el : l ≡ float_at f d (p - 1) = rw ei at h.left in
          evens-made (evens-turn ei more (omega (arith, h.bands.some)) el put) (omega (arith, h.bands.near))

-- ---- times c: the first i of the floats s₀ are new

pub record ScaledTo (f : Format) (c : Float) (s₀ : List ℕ) (i : ℕ) (s : List ℕ) : Type 0 where
  pub new : Midway f (length s₀ / width f) i (scaled_of f c s₀) (floats_of f s₀) s

module _ {f : Format} {c : Float} {s₀ : List ℕ} where
  pub scaled-none : Stored f (length s₀ / width f) s₀ → ScaledTo f c s₀ 0 s₀
  scaled-none h = record { new = midway-none _ h }

  module _ {i : ℕ} {s : List ℕ} (h : ScaledTo f c s₀ i s) where
    pub scaled-here : i < length s₀ / width f → Plain f s i
    scaled-here l = midway-plain s₀ h.new (omega arith) l

    pub scaled-next : {t : List ℕ} → i < length s₀ / width f → t ≡ put_float f s i (mul f (float_at f s i) c) → ScaledTo f c s₀ (i + 1) t
    scaled-next l put = record { new = midway-put h.new l (rw (midway-later s₀ h.new i l (omega arith))) put }

    pub scaled-all : length s₀ / width f ≤ i → s ≡ encode_floats f (scaled f c (decode_floats f s₀))
    unfolding scaled
    scaled-all l = rw (length-decode_floats f s₀) (midway-all h.new l)

-- what the loop of a scaling cites
pub ruleset scaled_turns = (scaled-none, scaled-here, scaled-next, scaled-all)
