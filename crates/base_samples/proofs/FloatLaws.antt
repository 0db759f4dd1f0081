-- Laws of floats in bytes, once over the format: NaN both ways, what was put is read, floats to bytes and back, and lengths.
use mathlib.Core.Bool.{not}
use mathlib.Core.List.{List, map, map-map}
use mathlib.Core.Path.{◌≡◌, refl, sym, ap, subst, ◌∙◌}
use Prim.Native.Nat.{ℕ, ◌*◌, ◌/◌, ◌%◌, ◌^◌, ◌≤◌, ◌<◌}
use native.Mathlib.Nat.{mod-eq_of_lt}
use native.Mathlib.Omega.{arith}
use lib.Dec.{T, lit<, ltb→lt, lt→ltb, not_T}
use lib.ListN.{length, get_or, length-map}
use lib.Ieee.{Float, nan, inf, fin, Format, binary32, binary64, hid, ones, top, is_nan, nan_bits, of_bits, to_bits, fits, ne}
use lib.Ieee.Bits.{nan_bits_is, nan_bits_above, of_bits-to_bits, to_bits-of_bits, to_bits-lt, of_bits-fits}
use Rattle.base_samples.specs.Words.{tabulate, word_at, words_of, bytes_of}
use Rattle.base_samples.specs.Floats.{width, float_at, put_float, decode_floats, encode_floats, canonical, Plain}
use Rattle.base_samples.proofs.Words.{length-tabulate, get_or-tabulate, set-tabulate, tabulate-same, map-tabulate, put_same, put_other, length-put, length-words, length-bytes, put-bytes, word_bytes, words-bytes}

-- ---- NaN both ways

-- a pattern that is not above the infinity's is no NaN's
pub no_nan : (f : Format) (n : ℕ) → n % top f ≤ ones f * hid f → T (not (nan_bits f n))
no_nan f n h = not_T (nan_bits f n) (λ t. clash (ones f * hid f) (n % top f) h (ltb→lt (ones f * hid f) (n % top f) (subst T (nan_bits_above f n) t)))
  where
    clash : (a b : ℕ) → b ≤ a → a < b → ⊥
    clash a b p q = omega arith

only_nan : (x : Float) → T (is_nan x) → x ≡ nan
unfolding is_nan
only_nan nan t = refl
only_nan (inf s) t = absurd t
only_nan (fin s m e) t = absurd t

-- ---- floats in bytes

pub width-pos : (f : Format) → 0 < width f
width-pos binary32 = lit< tt
width-pos binary64 = lit< tt

-- a float's patterns are the words of its width
pub patterns : (f : Format) → 2 * top f ≡ 256 ^ width f
patterns binary32 = refl
patterns binary64 = refl

pub bits-lt : (f : Format) (x : Float) → T (fits f x) → to_bits f x < 256 ^ width f
bits-lt f x t = subst (λ b. to_bits f x < b) (patterns f) (to_bits-lt f x t)

module _ (f : Format) where
  pub length-put_float : (s : List ℕ) (i : ℕ) (x : Float) → length (put_float f s i x) ≡ length s
  unfolding put_float
  length-put_float s i x = length-put (width f) s i (to_bits f x)

  -- the float that was put is read
  pub put-float-same : (s : List ℕ) (i : ℕ) (x : Float) → i < length s / width f → T (fits f x) → float_at f (put_float f s i x) i ≡ x
  unfolding float_at put_float
  put-float-same s i x h t = ap (of_bits f) (put_same (width f) s i (to_bits f x) h (bits-lt f x t)) ∙ of_bits-to_bits f x t

  -- other floats stay
  pub put-float-other : (s : List ℕ) (i j : ℕ) (x : Float) → (i ≡ j → ⊥) → float_at f (put_float f s i x) j ≡ float_at f s j
  unfolding float_at put_float
  put-float-other s i j x ne = ap (of_bits f) (put_other (width f) s i j (to_bits f x) ne)

  pub length-decode_floats : (s : List ℕ) → length (decode_floats f s) ≡ length s / width f
  unfolding decode_floats
  length-decode_floats s = length-map (words_of (width f) s) (of_bits f) ∙ length-words (width f) s

  pub length-encode_floats : (xs : List Float) → length (encode_floats f xs) ≡ width f * length xs
  unfolding encode_floats
  length-encode_floats xs = length-bytes (width f) (map (to_bits f) xs) ∙ rw (length-map xs (to_bits f))

  -- a table of floats is stored as the table of their patterns
  pub encode_floats-tabulate : (n : ℕ) (g : ℕ → Float) → encode_floats f (tabulate n g) ≡ bytes_of (width f) (tabulate n (λ i. to_bits f (g i)))
  unfolding encode_floats
  encode_floats-tabulate n g = ap (bytes_of (width f)) (map-tabulate (to_bits f) n g)

  pub decode_floats-is : (s : List ℕ) → decode_floats f s ≡ tabulate (length s / width f) (float_at f s)
  unfolding decode_floats words_of float_at
  decode_floats-is s = map-tabulate (of_bits f) (length s / width f) (word_at (width f) s)

  pub at-decode_floats : (s : List ℕ) (i : ℕ) → i < length s / width f → get_or (decode_floats f s) i nan ≡ float_at f s i
  at-decode_floats s i h = rw (decode_floats-is s) (get_or-tabulate (length s / width f) (float_at f s) i nan h)

  -- what is read fits the format
  pub float_at-fits : (s : List ℕ) (i : ℕ) → T (fits f (float_at f s i))
  unfolding float_at
  float_at-fits s i = of_bits-fits f (word_at (width f) s i)

  -- floats to bytes and back: the floats, where each fits the format
  pub decode_floats-encode : (n : ℕ) (g : ℕ → Float) → ((i : ℕ) → i < n → T (fits f (g i))) → decode_floats f (encode_floats f (tabulate n g)) ≡ tabulate n g
  unfolding decode_floats
  decode_floats-encode n g t =
      rw (encode_floats-tabulate n g, words-bytes (width f) (width-pos f) n (λ i. to_bits f (g i)), map-tabulate)
      (tabulate-same n (λ i. of_bits f (to_bits f (g i) % 256 ^ width f)) g
      (λ i h. ap (of_bits f) (mod-eq_of_lt (bits-lt f (g i) (t i h))) ∙ of_bits-to_bits f (g i) (t i h)))

  -- word i of the bytes of floats, where the float fits the format
  word-encode : (n : ℕ) (g : ℕ → Float) (i : ℕ) → i < n → T (fits f (g i)) → word_at (width f) (encode_floats f (tabulate n g)) i ≡ to_bits f (g i)
  word-encode n g i h t =
      rw (encode_floats-tabulate n g)
      (word_bytes (width f) (tabulate n (λ j. to_bits f (g j))) i (rw (length-tabulate n (λ j. to_bits f (g j))) h)
      ∙ ap (λ u. u % 256 ^ width f) (get_or-tabulate n (λ j. to_bits f (g j)) i 0 h)
      ∙ mod-eq_of_lt (bits-lt f (g i) t))

  -- so float i is read, and stands as it is written
  pub float_at-encode : (n : ℕ) (g : ℕ → Float) (i : ℕ) → i < n → T (fits f (g i)) → float_at f (encode_floats f (tabulate n g)) i ≡ g i
  unfolding float_at
  float_at-encode n g i h t = rw (word-encode n g i h t) (of_bits-to_bits f (g i) t)

  pub plain-encode : (n : ℕ) (g : ℕ → Float) (i : ℕ) → i < n → T (fits f (g i)) → Plain f (encode_floats f (tabulate n g)) i
  unfolding canonical
  plain-encode n g i h t = rw (word-encode n g i h t) (ap (to_bits f) (of_bits-to_bits f (g i) t))

  -- a float put into the bytes of floats
  pub put-encode : (n : ℕ) (g h : ℕ → Float) (i : ℕ) (x : Float) → i < n → h i ≡ x → ((j : ℕ) → j < n → (j ≡ i → ⊥) → h j ≡ g j)
      → put_float f (encode_floats f (tabulate n g)) i x ≡ encode_floats f (tabulate n h)
  unfolding put_float
  put-encode n g h i x hi e same =
      rw (encode_floats-tabulate n g, encode_floats-tabulate n h, put-bytes (width f) (tabulate n (λ j. to_bits f (g j))) i (to_bits f x) (rw (length-tabulate n (λ j. to_bits f (g j))) hi))
      (ap (bytes_of (width f)) (set-tabulate n (λ j. to_bits f (g j)) (λ j. to_bits f (h j)) i (to_bits f x) hi (ap (to_bits f) e) (λ j l q. ap (to_bits f) (same j l q))))

  -- bytes to floats and back: each pattern as it is written again
  pub encode_floats-decode : (s : List ℕ) → encode_floats f (decode_floats f s) ≡ bytes_of (width f) (map (canonical f) (words_of (width f) s))
  unfolding encode_floats decode_floats canonical
  encode_floats-decode s = ap (bytes_of (width f)) (map-map (to_bits f) (of_bits f) (words_of (width f) s))

  -- which is itself, unless it is a NaN's; and that is the fixed one
  canonical-same : (n : ℕ) → n < 256 ^ width f → T (not (nan_bits f n)) → canonical f n ≡ n
  unfolding canonical
  canonical-same n h t = to_bits-of_bits f n (subst (λ b. n < b) (sym (patterns f)) h) (subst (λ b. T (not b)) (nan_bits_is f n) t)

  canonical-nan : (n : ℕ) → T (nan_bits f n) → canonical f n ≡ to_bits f nan
  unfolding canonical
  canonical-nan n t = ap (to_bits f) (only_nan (of_bits f n) (subst T (nan_bits_is f n) t))

  -- by the test that the code makes
  pub canonical_above : (n : ℕ) → ones f * hid f < n % top f → canonical f n ≡ to_bits f nan
  canonical_above n h = canonical-nan n (subst T (sym (nan_bits_above f n)) (lt→ltb (ones f * hid f) (n % top f) h))

  pub canonical_below : (n : ℕ) → n < 256 ^ width f → n % top f ≤ ones f * hid f → canonical f n ≡ n
  canonical_below n h l = canonical-same n h (no_nan f n l)

  -- a pattern that is written as it was read is a NaN's only where it is the fixed one
  pub plain-no-nan : (n : ℕ) → canonical f n ≡ n → (n ≡ to_bits f nan → ⊥) → T (not (nan_bits f n))
  plain-no-nan n e ne = not_T (nan_bits f n) (λ t. ne (sym e ∙ canonical-nan n t))

-- the fixed patterns
pub nan_pattern : (to_bits binary32 nan ≡ 0x7FC0_0000) × (to_bits binary64 nan ≡ 0x7FF8_0000_0000_0000)
unfolding to_bits
nan_pattern = (refl, refl)
