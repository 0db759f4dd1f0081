-- What a turn of the loop of the inverse of 5/3 stores, and that it is no NaN, once over the format.
use mathlib.Core.Bool.{Bool, true, false, not}
use mathlib.Core.List.{List}
use mathlib.Core.Logic.{⊎_elim}
use mathlib.Core.Path.{◌≡◌, refl, sym, ◌∙◌}
use Prim.Native.Nat.{ℕ, ◌+◌, ◌-◌, ◌*◌, ◌/◌, ◌≤◌, ◌<◌, min}
use native.Mathlib.Omega.{arith}
use lib.Ieee.{Float, nan, Format, is_nan}
use lib.ListN.{length, get_or}
use Rattle.std.specs.Bool.{IsTrue}
use Rattle.base_order.proofs.Order.{lt-or-le}
use Rattle.base_lengths.specs.declared.Wavelet.TheVariants.{Cdf53}
use Rattle.base_samples.specs.Words.{Front}
use Rattle.base_samples.specs.Floats.{width, float_at, put_float, decode_floats}
use Rattle.base_samples.proofs.FloatLaws.{length-decode_floats, at-decode_floats}
use Rattle.filter_floats.specs.Steps.{lift}
use Rattle.filter_floats.specs.Filters.{decimal, back53}
use Rattle.filter_floats.specs.Bands.{restored, back}
use Rattle.filter_floats.specs.Loops.{Lent}
use Rattle.filter_small.specs.Small.{Small, SmallFrom, BothSmallIf}
use Rattle.filter_small.specs.Lists.{in_turn}
use Rattle.filter_small.proofs.Sizes as sizes
use Rattle.filter_small.proofs.Lifts as lifts
use Rattle.filter_small.proofs.Firsts.{far}
use Rattle.filter_cdf53f.proofs.Factors.{minus-quarter-factor, half-factor}
use Rattle.filter_cdf53f.specs.Back.{evens_of, odds_of}

-- ---- the samples one by one

module _ {f : Format} {x a d : List ℕ} (v : Lent f x a d) where
  -- as many approximations as details, or one more
  pub counts : (0 < length d / width f) × (length d / width f ≤ length a / width f) × (length a / width f ≤ length d / width f + 1) × (length a / width f + length d / width f ≡ length x / width f)
  counts = (omega (arith, v.details.count, v.long), omega (arith, v.details.count, v.approx.count), omega (arith, v.details.count, v.approx.count), omega (arith, v.details.count, v.approx.count))

  length-evens_of : length (evens_of f a d) ≡ length a / width f
  unfolding evens_of
  length-evens_of = lifts.length-evens f _ _ _ ∙ length-decode_floats f a

  length-odds_of : length (odds_of f a d) ≡ length d / width f
  unfolding odds_of
  length-odds_of = lifts.length-odds f _ _ _ ∙ length-decode_floats f d

  -- as the code makes them
  pub even-made : (i l r : ℕ) {p q t : Float} → i < length a / width f → l ≡ i - 1 → r ≡ min i (length d / width f - 1) → p ≡ float_at f d l → q ≡ float_at f d r → t ≡ float_at f a i
      → lift f (decimal f true 25 2) p q t ≡ get_or (evens_of f a d) i nan
  unfolding evens_of
  even-made i l r h el er ep eq et =
      let n = counts in
      lifts.even-made f _ (decode_floats f a) (decode_floats f d) i l r (rw (length-decode_floats f a) h) el (rw (length-decode_floats f d) er)
      (ep ∙ sym (at-decode_floats f d l (omega arith))) (eq ∙ sym (at-decode_floats f d r (omega arith))) (et ∙ sym (at-decode_floats f a i h))

  pub odd-made : (i r : ℕ) {p q t : Float} → i < length d / width f → r ≡ min (i + 1) (length a / width f - 1) → p ≡ get_or (evens_of f a d) i nan → q ≡ get_or (evens_of f a d) r nan → t ≡ float_at f d i
      → lift f (decimal f false 5 1) p q t ≡ get_or (odds_of f a d) i nan
  unfolding odds_of
  odd-made i r h er ep eq et = lifts.odd-made f _ (evens_of f a d) (decode_floats f d) i r (rw (length-decode_floats f d) h) (rw length-evens_of er) ep eq (et ∙ sym (at-decode_floats f d i h))

  -- not as many approximations as details: one more
  pub one_more : (length a / width f ≡ length d / width f → ⊥) → length a / width f ≡ length d / width f + 1
  one_more ne =
      let n = counts in
      ⊎_elim
      (λ (h : length d / width f < length a / width f). omega arith)
      (λ (h : length a / width f ≤ length d / width f). absurd (ne (omega arith)))
      (lt-or-le (length d / width f) (length a / width f))

  -- what is stored at pair i is no NaN where the floats around are small
  even-small : (i : ℕ) → i < length a / width f → SmallFrom f a i (i + 1) → SmallFrom f d (i - 1) (i + 1) → Small f (sizes.size_read f + 9) (get_or (evens_of f a d) i nan)
  unfolding evens_of
  even-small i h wa wd =
      let n = counts in
      let r = min i (length d / width f - 1) in
      lifts.even-small f _ (decode_floats f a) (decode_floats f d) (sizes.size_read f) (minus-quarter-factor f) (omega (arith, far f)) i (i - 1) r (rw (length-decode_floats f a) h) refl (rw (length-decode_floats f d) refl)
      (lifts.small-in wd (i - 1) (omega arith) (omega arith) (omega arith)) (lifts.small-in wd r (omega arith) (omega arith) (omega arith)) (lifts.small-in wa i (omega arith) (omega arith) h)

  module _ {b : Bool} (i : ℕ) (w : BothSmallIf b f a d (i - 1) (i + 2)) where
    pub even-no-nan : {e : Float} → i < length a / width f → e ≡ get_or (evens_of f a d) i nan → b ≡ true → IsTrue (not (is_nan e))
    even-no-nan h q s = lifts.no-nan-is f _ _ (even-small i h (sizes.small-part _ _ (w.0 s) (omega arith) (omega arith)) (sizes.small-part _ _ (w.1 s) (omega arith) (omega arith))) q

    pub odd_no_nan : {o : Float} → i < length d / width f → o ≡ get_or (odds_of f a d) i nan → b ≡ true → IsTrue (not (is_nan o))
    unfolding odds_of
    odd_no_nan h q s =
        let n = counts in
        let r = min (i + 1) (length a / width f - 1) in
        lifts.no-nan-is f _ _
        (lifts.odd-small f _ (evens_of f a d) (decode_floats f d) (sizes.size_read f + 9) (half-factor f) (far f) i r (rw (length-decode_floats f d) h) (rw length-evens_of refl)
        (even-small i (omega arith) (sizes.small-part _ _ (w.0 s) (omega arith) (omega arith)) (sizes.small-part _ _ (w.1 s) (omega arith) (omega arith)))
        (even-small r (omega arith) (sizes.small-part _ _ (w.0 s) (omega arith) (omega arith)) (sizes.small-part _ _ (w.1 s) (omega arith) (omega arith)))
        (sizes.small-le f (get_or (decode_floats f d) i nan) (sizes.size_read f) (sizes.size_read f + 9) (lifts.small-in (w.1 s) i (omega arith) (omega arith) h) (omega arith)))
        q

  -- an even sample more, and the odd one after it
  pub last_more : {n : ℕ} {s t : List ℕ} {e : Float} (i : ℕ) → Front (width f) n (2 * i) (in_turn f (evens_of f a d) (odds_of f a d)) s → 2 * i < n → e ≡ get_or (evens_of f a d) i nan → t ≡ put_float f s (2 * i) e
      → Front (width f) n (2 * i + 1) (in_turn f (evens_of f a d) (odds_of f a d)) t
  last_more = lifts.even-more f (evens_of f a d) (odds_of f a d)

  pub pair-more : {n : ℕ} {s t r : List ℕ} {e o : Float} (i : ℕ) → Front (width f) n (2 * i) (in_turn f (evens_of f a d) (odds_of f a d)) s → 2 * i + 1 < n → e ≡ get_or (evens_of f a d) i nan
      → o ≡ get_or (odds_of f a d) i nan → t ≡ put_float f s (2 * i) e → r ≡ put_float f t (2 * i + 1) o → Front (width f) n (2 * (i + 1)) (in_turn f (evens_of f a d) (odds_of f a d)) r
  pair-more i h hn q p put put' = lifts.odd-more f (evens_of f a d) (odds_of f a d) i (last_more i h (omega arith) q put) hn p put'

  -- all samples
  pub restored-all : (y : List ℕ) (n i : ℕ) → Front (width f) n i (in_turn f (evens_of f a d) (odds_of f a d)) y → i ≡ n → n ≡ length a / width f + length d / width f → y ≡ back f Cdf53 a d
  unfolding back restored back53
  restored-all y n i h e en =
      let m : length (evens_of f a d) + length (odds_of f a d) ≡ length a / width f + length d / width f = rw (length-evens_of, length-odds_of) in
      lifts.turns-all f (evens_of f a d) (odds_of f a d) h e (en ∙ sym m) ∙ unfold evens_of odds_of in refl
