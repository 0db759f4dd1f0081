-- A lifting step on two lists of floats, entry by entry as code makes it, how large it leaves an entry, and how a list is stored. Once over the format.
use mathlib.Core.Bool.{Bool, true, not, cond}
use mathlib.Core.List.{List}
use mathlib.Core.Path.{◌≡◌, refl, sym, ap, ◌∙◌}
use Prim.Native.Nat.{ℕ, ◌+◌, ◌-◌, ◌*◌, ◌/◌, ◌%◌, ◌≤◌, ◌<◌, min}
use native.Mathlib.Omega.{arith}
use borrow.Author.Tests.{eq-eqb, ne_eqb}
use lib.Ieee.{Float, nan, Format, mul, to_bits, is_nan}
use lib.ListN.{length, get_or}
use Rattle.std.specs.Bool.{IsTrue}
use Rattle.base_samples.specs.Words.{Front}
use Rattle.base_samples.specs.Halves.{joined}
use Rattle.base_samples.specs.Floats.{width, float_at, put_float, decode_floats, encode_floats}
use Rattle.base_samples.proofs.Words.{length-tabulate, get_or-tabulate, tabulate-get_or}
use Rattle.base_samples.proofs.Halves.{length-even, length-odd, at-even, at-odd}
use Rattle.base_samples.proofs.Fronts.{front-more, front_at, front-all}
use Rattle.base_samples.proofs.FloatLaws.{length-decode_floats, at-decode_floats, encode_floats-tabulate}
use Rattle.filter_floats.specs.Steps.{lift, odd_at, even_at, odds, evens, scaled}
use Rattle.filter_small.specs.Small.{Small, Factor, SmallFrom}
use Rattle.filter_small.specs.Lists.{even_in, odd_in, pattern_of, in_turn}
use Rattle.filter_small.proofs.Sizes.{ceiling, size_read, lift-small, mul_small, small-no-nan, float_small}

-- ---- the floats in a slice

module _ (f : Format) (x : List ℕ) where
  pub length-even_in : length (even_in f x) ≡ (length x / width f + 1) / 2
  unfolding even_in
  length-even_in = length-even nan _ ∙ rw (length-decode_floats f x)

  pub length-odd_in : length (odd_in f x) ≡ length x / width f / 2
  unfolding odd_in
  length-odd_in = length-odd nan _ ∙ rw (length-decode_floats f x)

  -- float k is even entry i, or odd entry i
  pub even-in : (i k : ℕ) → k ≡ 2 * i → k < length x / width f → float_at f x k ≡ get_or (even_in f x) i nan
  unfolding even_in
  even-in i k e h = sym (at-even nan (decode_floats f x) i (rw (length-decode_floats f x) (omega arith)) ∙ rw (← e) (at-decode_floats f x k h))

  pub odd-in : (i k : ℕ) → k ≡ 2 * i + 1 → k < length x / width f → float_at f x k ≡ get_or (odd_in f x) i nan
  unfolding odd_in
  odd-in i k e h = sym (at-odd nan (decode_floats f x) i (rw (length-decode_floats f x) (omega arith)) ∙ rw (← e) (at-decode_floats f x k h))

-- ---- one step

module _ (f : Format) (c : Float) (p q : List Float) where
  pub length-odds : length (odds (lift f c) nan p q) ≡ length q
  unfolding odds
  length-odds = length-tabulate _ _

  pub length-evens : length (evens (lift f c) nan p q) ≡ length p
  unfolding evens
  length-evens = length-tabulate _ _

  -- as the code makes them: r is the place of the right neighbour, l of the left one
  pub odd-made : (i r : ℕ) {y z t : Float} → i < length q → r ≡ min (i + 1) (length p - 1) → y ≡ get_or p i nan → z ≡ get_or p r nan → t ≡ get_or q i nan → lift f c y z t ≡ get_or (odds (lift f c) nan p q) i nan
  unfolding odds odd_at
  odd-made i r h er ey ez et = rw (ey, ez, et, er) (sym (get_or-tabulate (length q) (odd_at (lift f c) nan p q) i nan h))

  pub even-made : (i l r : ℕ) {y z t : Float} → i < length p → l ≡ i - 1 → r ≡ min i (length q - 1) → y ≡ get_or q l nan → z ≡ get_or q r nan → t ≡ get_or p i nan → lift f c y z t ≡ get_or (evens (lift f c) nan p q) i nan
  unfolding evens even_at
  even-made i l r h el er ey ez et = rw (ey, ez, et, el, er) (sym (get_or-tabulate (length p) (even_at (lift f c) nan p q) i nan h))

  -- small neighbours leave a float of at most 2 ^ 9 times the size
  module _ (j : ℕ) (k : Factor c) (far : j + 9 < ceiling f) where
    pub odd-small : (i r : ℕ) → i < length q → r ≡ min (i + 1) (length p - 1) → Small f j (get_or p i nan) → Small f j (get_or p r nan) → Small f j (get_or q i nan) → Small f (j + 9) (get_or (odds (lift f c) nan p q) i nan)
    odd-small i r h er sy sz st = rw (← odd-made i r h er refl refl refl) (lift-small f c (get_or p i nan) (get_or p r nan) (get_or q i nan) j (j + 9) k sy sz st (omega arith) far)

    pub even-small : (i l r : ℕ) → i < length p → l ≡ i - 1 → r ≡ min i (length q - 1) → Small f j (get_or q l nan) → Small f j (get_or q r nan) → Small f j (get_or p i nan)
        → Small f (j + 9) (get_or (evens (lift f c) nan p q) i nan)
    even-small i l r h el er sy sz st = rw (← even-made i l r h el er refl refl refl) (lift-small f c (get_or q l nan) (get_or q r nan) (get_or p i nan) j (j + 9) k sy sz st (omega arith) far)

-- ---- a scaling

module _ (f : Format) (k : Float) (l : List Float) where
  pub length-scaled : length (scaled f k l) ≡ length l
  unfolding scaled
  length-scaled = length-tabulate _ _

  pub scaled_made : (i : ℕ) {y : Float} → i < length l → y ≡ get_or l i nan → mul f y k ≡ get_or (scaled f k l) i nan
  unfolding scaled
  scaled_made i h e = rw e (sym (get_or-tabulate (length l) (λ i. mul f (get_or l i nan) k) i nan h))

  pub scaled_small : (j i : ℕ) → Factor k → j + 3 < ceiling f → i < length l → Small f j (get_or l i nan) → Small f (j + 3) (get_or (scaled f k l) i nan)
  scaled_small j i b far h s = rw (← scaled_made i h refl) (mul_small f (get_or l i nan) k j (j + 3) s b (omega arith) far)

-- ---- sizes

-- the floats of a slice, where it has small ones
module _ {f : Format} {x : List ℕ} {lo hi : ℕ} (w : SmallFrom f x lo hi) (i : ℕ) where
  pub small-in : lo ≤ i → i < hi → i < length x / width f → Small f (size_read f) (get_or (decode_floats f x) i nan)
  small-in a b h = rw (at-decode_floats f x i h) (float_small w i a b h)

  pub even-in-small : lo ≤ 2 * i → 2 * i < hi → 2 * i < length x / width f → Small f (size_read f) (get_or (even_in f x) i nan)
  even-in-small a b h = rw (← even-in f x i (2 * i) refl h) (float_small w (2 * i) a b h)

  pub odd-in-small : lo ≤ 2 * i + 1 → 2 * i + 1 < hi → 2 * i + 1 < length x / width f → Small f (size_read f) (get_or (odd_in f x) i nan)
  odd-in-small a b h = rw (← odd-in f x i (2 * i + 1) refl h) (float_small w (2 * i + 1) a b h)

-- a finite float is no NaN
pub no-nan-is : (f : Format) (j : ℕ) (z : Float) {e : Float} → Small f j z → e ≡ z → IsTrue (not (is_nan e))
no-nan-is f j z s q = rw q (small-no-nan f j z s)

-- ---- a list that is stored

pub stored_more : (f : Format) (l : List Float) {n i : ℕ} {s t : List ℕ} {e : Float} → Front (width f) n i (pattern_of f l) s → i < n → e ≡ get_or l i nan → t ≡ put_float f s i e → Front (width f) n (i + 1) (pattern_of f l) t
unfolding put_float pattern_of
stored_more f l h hn q put = front-more h refl hn (ap (to_bits f) q) put

pub stored-all : (f : Format) (l : List Float) {n i : ℕ} {s : List ℕ} → Front (width f) n i (pattern_of f l) s → i ≡ n → n ≡ length l → s ≡ encode_floats f l
unfolding pattern_of
stored-all f l h e en = front-all (length l) h e en ∙ sym (ap (encode_floats f) (sym (tabulate-get_or l nan)) ∙ encode_floats-tabulate f (length l) (λ i. get_or l i nan))

-- a float that was wanted is put
pub put_wanted : {b : Bool} (s : List ℕ) {t r : List ℕ} → b ≡ true → r ≡ cond b t s → r ≡ t
put_wanted s e q = rw e at q

-- ---- two lists that are stored in turn

module _ (f : Format) (p q : List Float) where
  turn_even : (i : ℕ) → in_turn f p q (2 * i) ≡ to_bits f (get_or p i nan)
  unfolding in_turn
  turn_even i = let half : 2 * i / 2 ≡ i = omega arith in rw (eq-eqb ((2 * i) % 2) 0 (omega arith), half)

  turn_odd : (i : ℕ) → in_turn f p q (2 * i + 1) ≡ to_bits f (get_or q i nan)
  unfolding in_turn
  turn_odd i = let half : (2 * i + 1) / 2 ≡ i = omega arith in rw (ne_eqb ((2 * i + 1) % 2) 0 (omega arith), half)

  -- an even entry more, and the odd one after it
  pub even-more : {n : ℕ} {s t : List ℕ} {e : Float} (i : ℕ) → Front (width f) n (2 * i) (in_turn f p q) s → 2 * i < n → e ≡ get_or p i nan → t ≡ put_float f s (2 * i) e → Front (width f) n (2 * i + 1) (in_turn f p q) t
  unfolding put_float
  even-more i h hn r put = front-more h refl hn (ap (to_bits f) r ∙ sym (turn_even i)) put

  pub odd-more : {n : ℕ} {s t : List ℕ} {o : Float} (i : ℕ) → Front (width f) n (2 * i + 1) (in_turn f p q) s → 2 * i + 1 < n → o ≡ get_or q i nan → t ≡ put_float f s (2 * i + 1) o → Front (width f) n (2 * (i + 1)) (in_turn f p q) t
  unfolding put_float
  odd-more i h hn r put = front_at _ (front-more h refl hn (ap (to_bits f) r ∙ sym (turn_odd i)) put) (omega arith)

  -- all of both
  pub turns-all : {n i : ℕ} {s : List ℕ} → Front (width f) n i (in_turn f p q) s → i ≡ n → n ≡ length p + length q → s ≡ encode_floats f (joined nan p q)
  unfolding joined in_turn
  turns-all h e en = front-all (length p + length q) h e en ∙ sym (encode_floats-tabulate f _ _)
