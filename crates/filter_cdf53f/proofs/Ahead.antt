-- Two lifting steps forward: what a turn stores, and that it is no NaN where the samples are small, once over the format.
use mathlib.Core.Bool.{Bool, true, false, not, cond}
use mathlib.Core.List.{List}
use mathlib.Core.Path.{◌≡◌, refl, sym, ap, subst, ◌∙◌}
use Prim.Native.Nat.{ℕ, ◌+◌, ◌-◌, ◌*◌, ◌/◌, ◌<◌, min}
use native.Mathlib.Omega.{arith}
use lib.Ieee.{Float, nan, Format, is_nan}
use lib.ListN.{length, get_or}
use Rattle.std.specs.Bool.{IsTrue}
use Rattle.base_lengths.specs.declared.Wavelet.TheVariants.{Cdf53}
use Rattle.base_lengths.specs.Lengths.{approx_length, details_length}
use Rattle.base_samples.specs.Words.{Front}
use Rattle.base_samples.specs.Floats.{width, float_at, put_float, encode_floats}
use Rattle.filter_floats.specs.Steps.{lift}
use Rattle.filter_floats.specs.Filters.{decimal, steps53}
use Rattle.filter_floats.specs.Bands.{approxs, details, low, high}
use Rattle.filter_small.specs.Small.{SmallIf}
use Rattle.filter_small.specs.Lists.{even_in, odd_in, odds_to, evens_to, pattern_of}
use Rattle.filter_small.proofs.Sizes as sizes
use Rattle.filter_small.proofs.Lifts as lifts
use Rattle.filter_small.proofs.Firsts as firsts
use Rattle.filter_small.proofs.Firsts.{length-odds_to, length-evens_to, even-made}
use Rattle.filter_cdf53f.proofs.Factors.{minus-half-factor, quarter-factor}
use Rattle.filter_cdf53f.specs.Ahead.{odds_53, evens_53, Ahead, Splitting, Split}

-- ---- what the loop keeps

module _ {both : Bool} {f : Format} {x a d : List ℕ} (v : Ahead both f x a d) where
  -- what is stored at place i is no NaN where the samples around are small
  module _ {b : Bool} (i : ℕ) (w : SmallIf b f x (2 * i - 2) (2 * i + 3)) where
    pub odd_no_nan : {o : Float} → i < length x / width f / 2 → o ≡ get_or (odds_53 f x) i nan → b ≡ true → IsTrue (not (is_nan o))
    odd_no_nan h q s = lifts.no-nan-is f _ _ (firsts.odd-small f x v.lent.long _ i h (minus-half-factor f) (sizes.small-part _ _ (w s) (omega arith) (omega arith))) q

    pub even-no-nan : {e : Float} → i < (length x / width f + 1) / 2 → e ≡ get_or (evens_53 f x) i nan → b ≡ true → IsTrue (not (is_nan e))
    even-no-nan h q s = lifts.no-nan-is f _ _ (firsts.even-small f x v.lent.long _ _ i h (minus-half-factor f) (quarter-factor f) (w s)) q

  -- a turn: z is its detail, of the samples p and q, and t its approximation
  module _ {i j : ℕ} {e y p q z : Float} (s : Splitting both f x a d i e y) (h : i < length x / width f / 2) (k : j ≡ min (i + 1) ((length x / width f + 1) / 2 - 1))
      (hp : p ≡ float_at f x (2 * j)) (hq : q ≡ float_at f x (2 * i + 1)) (hz : z ≡ lift f (decimal f true 5 1) e p q) where
    here : e ≡ float_at f x (2 * i)
    here = s.here ∙ ap (λ (n : ℕ). float_at f x (2 * n)) (omega arith)

    pub detail : z ≡ get_or (odds_53 f x) i nan
    detail = hz ∙ firsts.odd-made f x v.lent.long _ i j (2 * i) (2 * i + 1) (2 * j) h k refl refl refl here hp hq

    module _ {t : Float} (ht : t ≡ lift f (decimal f false 25 2) y z e) where
      pub approx : t ≡ get_or (evens_53 f x) i nan
      approx = ht ∙ firsts.even-made f x v.lent.long _ _ i (i - 1) i (2 * i) (omega arith) refl (omega arith) refl s.left detail here

      pub turned : {a' d' : List ℕ} → d' ≡ cond both (put_float f d i z) d → a' ≡ put_float f a i t → Splitting both f x a' d' (i + 1) p z
      turned put put' = record {
        approx = lifts.stored_more f (evens_53 f x) s.approx (omega arith) approx put';
        details = λ b. lifts.stored_more f (odds_53 f x) (s.details b) h detail (lifts.put_wanted _ b put);
        here = hp ∙ ap (λ (n : ℕ). float_at f x (2 * n)) k;
        left = detail ∙ ap (λ (n : ℕ). get_or (odds_53 f x) n nan) (omega arith);
      }

  -- the last approximation, which has no detail of its own
  pub top-made : (k : ℕ) {z t : Float} → k ≡ length x / width f / 2 → k < (length x / width f + 1) / 2 → z ≡ get_or (odds_53 f x) (k - 1) nan → t ≡ float_at f x (2 * k) → lift f (decimal f false 25 2) z z t ≡ get_or (evens_53 f x) k nan
  top-made k ek h ez et = firsts.even-made f x v.lent.long _ _ k (k - 1) (k - 1) (2 * k) h refl (omega arith) refl ez ez et

  -- all of the bands
  pub split-all : {y z : List ℕ} {i : ℕ} → Front (width f) (approx_length (length x / width f)) i (pattern_of f (evens_53 f x)) y → i ≡ approx_length (length x / width f)
      → (both ≡ true → Front (width f) (details_length (length x / width f)) (details_length (length x / width f)) (pattern_of f (odds_53 f x)) z) → Split both f x y z
  split-all h e k = record {
    approx = lifts.stored-all f (evens_53 f x) h e (sym (length-evens_to f x v.lent.long _ _));
    details = λ w. lifts.stored-all f (odds_53 f x) (k w) refl (sym (length-odds_to f x v.lent.long _));
  }

pub splitting-at : {both : Bool} {f : Format} {x a d : List ℕ} {i : ℕ} {e y : Float} (k : ℕ) → Splitting both f x a d i e y → i ≡ k → Splitting both f x a d k e y
splitting-at {both} {f} {x} {a} {d} {e = e} {y = y} k r w = subst (λ m. Splitting both f x a d m e y) w r

-- ---- they are the bands of 5/3

pub high-53 : (f : Format) (x : List ℕ) {y : List ℕ} → y ≡ encode_floats f (odds_53 f x) → y ≡ high f Cdf53 x
unfolding high details steps53
high-53 f x e = e ∙ unfold odds_to even_in odd_in in refl

pub low-53 : (f : Format) (x : List ℕ) {y : List ℕ} → y ≡ encode_floats f (evens_53 f x) → y ≡ low f Cdf53 x
unfolding low approxs steps53
low-53 f x e = e ∙ unfold evens_to odds_to even_in odd_in in refl
