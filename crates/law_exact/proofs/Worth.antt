-- A sum or a product of two floats that are whole numbers over a power of two is exact where its own whole number is at most 2 ^ prec in size; two that are
-- the same number are numerically equal. Over the format.
use mathlib.Core.Bool.{Bool, true, false, not, ◌&&◌, cond, beq, ◌||◌}
use mathlib.Core.Logic.{◌⊎◌, inl, inr}
use mathlib.Core.Path.{◌≡◌, sym, ap, ◌∙◌}
use Prim.Native.Nat.{ℕ, suc, ◌+◌, ◌-◌, ◌*◌, ◌^◌, ◌≤◌, ◌<◌}
use native.Mathlib.Nat.{mul-pos, mul_comm, mul_assoc, one-mul, le_of_mul-le-mul_right, lt_of_lt_of_le, eq-or-lt_of_le, eq_of_mul-eq-mul_right, le_of_lt}
use native.Mathlib.Omega.{arith}
use lib.Dec.{eqb, T, ltb, ltb→lt, nltb→le, lit<}
use lib.Ieee.{eq, level, Float, nan, inf, fin, Format, binary32, binary64, prec, emax, low, up, down, round, sum, add, mul, unlike}
use lib.Ieee.Exact.{HasValue, round_exact}
use lib.Ieee.Fits.{down_pos, and_i, eq→eqb}
use lib.Ieee.Scale.{round_same}
use lib.Pow.{pow-add, pow_pos, pow-lt, pow_mono, shl_lt}
use Rattle.law_exact.specs.Exact.{Frac, Worth}

-- p - n is at most b in size
abbrev pub Within : ℕ → ℕ → ℕ → Type 0
Within p n b = (p ≤ n + b) × (n ≤ p + b)

-- ---- rounding

room : (f : Format) → prec f + low f < low f + suc (emax f)
room binary32 = lit< tt
room binary64 = lit< tt

one-lt : (f : Format) → 1 < 2 ^ prec f
one-lt binary32 = lit< tt
one-lt binary64 = lit< tt

-- q / 2 ^ k is a value of the format
grid-exact : (f : Format) (s : Bool) (q k j : ℕ) → j + k ≡ low f → q ≤ 2 ^ prec f → HasValue (round f s q (2 ^ k)) s q (2 ^ k)
grid-exact f s q k j whole h = go (eq-or-lt_of_le h)
  where
    small : prec f + j < low f + suc (emax f)
    small = omega (arith, room f)

    split : (q : ℕ) → q * 2 ^ low f ≡ q * 2 ^ j * 2 ^ k
    split q = ap (λ (x : ℕ). q * 2 ^ x) (sym whole) ∙ ap (λ (x : ℕ). q * x) (pow-add 2 j k) ∙ sym (mul_assoc q (2 ^ j) (2 ^ k))

    go : (q ≡ 2 ^ prec f) ⊎ (q < 2 ^ prec f) → HasValue (round f s q (2 ^ k)) s q (2 ^ k)
    go (inr l) = round_exact f s q (2 ^ k) q j (pow_pos k) l (lt_of_lt_of_le (shl_lt (prec f) j l) (pow_mono (le_of_lt small))) (split q)
    go (inl e) = round_exact f s q (2 ^ k) 1 (prec f + j) (pow_pos k) (one-lt f)
        (rw (one-mul (2 ^ (prec f + j))) (pow-lt small))
        (split q ∙ rw (one-mul (2 ^ (prec f + j)), pow-add 2 (prec f) j, e))

-- q, below zero where s says so, is p - n
abbrev Net : Bool → ℕ → ℕ → ℕ → Type 0
Net false q p n = q + n ≡ p
Net true q p n = q + p ≡ n

-- from a value with a sign to a worth
of-value : (x : Float) (s : Bool) (p n k q : ℕ) → Net s q p n → HasValue x s q (2 ^ k) → Worth x p n k
of-value nan s p n k q e v = v
of-value (inf t) s p n k q e v = v
of-value (fin t m d) s p n k q e v = rw v.0 (go s e)
  where
    go : (s : Bool) → Net s q p n → Frac s (m * up d) (down d) p n k
    go false e = omega (arith, v.1, ap (λ (x : ℕ). x * down d) e)
    go true e = omega (arith, v.1, ap (λ (x : ℕ). x * down d) e)

-- a fraction that is (p - n) / 2 ^ k rounds to what is worth that
sized : (p n k num den : ℕ) → 0 < den → num * 2 ^ k + n * den ≡ p * den → n ≤ p
sized p n k num den d h = le_of_mul-le-mul_right (n-le (n * den) (num * 2 ^ k) (p * den) h) d
  where
    n-le : (a b c : ℕ) → b + a ≡ c → a ≤ c
    n-le a b c e = omega arith

cross : (p n q k num den : ℕ) → q + n ≡ p → num * 2 ^ k + n * den ≡ p * den → num * 2 ^ k ≡ q * den
cross p n q k num den e h = omega (arith, ap (λ (x : ℕ). x * den) e)

module _ (f : Format) (p n k num den : ℕ) (d : 0 < den) (K : k ≤ low f) where
  round-net : (s : Bool) (q : ℕ) → Net s q p n → q ≤ 2 ^ prec f → num * 2 ^ k ≡ q * den → Worth (round f s num den) p n k
  round-net s q e b c = rw (round_same f s num den q (2 ^ k) d (pow_pos k) c) (of-value (round f s q (2 ^ k)) s p n k q e (grid-exact f s q k (low f - k) (omega arith) b))

  round-worth : (s : Bool) → Within p n (2 ^ prec f) → Frac s num den p n k → Worth (round f s num den) p n k
  round-worth false w h =
      let le : n ≤ p = sized p n k num den d h in
      let e : p - n + n ≡ p = omega arith in
      round-net false (p - n) e (omega arith) (cross p n (p - n) k num den e h)
  round-worth true w h =
      let le : p ≤ n = sized n p k num den d h in
      let e : n - p + p ≡ n = omega arith in
      round-net true (n - p) e (omega arith) (cross n p (n - p) k num den e h)

-- ---- sums

-- of two signs: what is left of the one that is not smaller has its sign
less : (a b c p1 n1 p2 n2 k r : ℕ) → r + a ≡ b → Frac false a c p1 n1 k → Frac true b c p2 n2 k → Frac true r c (p1 + p2) (n1 + n2) k
less a b c p1 n1 p2 n2 k r e h g = omega (arith, ap (λ (x : ℕ). x * 2 ^ k) e)

more : (a b c p1 n1 p2 n2 k r : ℕ) → r + b ≡ a → Frac false a c p1 n1 k → Frac true b c p2 n2 k → Frac false r c (p1 + p2) (n1 + n2) k
more a b c p1 n1 p2 n2 k r e h g = omega (arith, ap (λ (x : ℕ). x * 2 ^ k) e)

-- a fraction of 0 has either sign
zero-sign : (r c p n k : ℕ) → r ≡ 0 → Frac true r c p n k → Frac false r c p n k
zero-sign r c p n k e h = omega (arith, ap (λ (x : ℕ). x * 2 ^ k) e)

same_sign : (s : Bool) (a b c p1 n1 p2 n2 k : ℕ) → Frac s a c p1 n1 k → Frac s b c p2 n2 k → Frac s (a + b) c (p1 + p2) (n1 + n2) k
same_sign false a b c p1 n1 p2 n2 k h g = omega arith
same_sign true a b c p1 n1 p2 n2 k h g = omega arith

sum-worth : (f : Format) (s : Bool) (a : ℕ) (t : Bool) (b c p1 n1 p2 n2 k : ℕ) → 0 < c → k ≤ low f → Frac s a c p1 n1 k → Frac t b c p2 n2 k
    → Within (p1 + p2) (n1 + n2) (2 ^ prec f) → Worth (sum f s a t b c) (p1 + p2) (n1 + n2) k
unfolding sum
sum-worth f false a false b c p1 n1 p2 n2 k C K h g w = round-worth f (p1 + p2) (n1 + n2) k (a + b) c C K false w (same_sign false a b c p1 n1 p2 n2 k h g)
sum-worth f true a true b c p1 n1 p2 n2 k C K h g w = round-worth f (p1 + p2) (n1 + n2) k (a + b) c C K true w (same_sign true a b c p1 n1 p2 n2 k h g)
sum-worth f false a true b c p1 n1 p2 n2 k C K h g w = go (ltb a b) (ltb→lt a b) (nltb→le a b)
  where
    go : (x : Bool) → (T x → a < b) → (T (not x) → b ≤ a) → Worth (cond x (round f true (b - a) c) (round f false (a - b) c)) (p1 + p2) (n1 + n2) k
    go true l r = let q = l tt in round-worth f (p1 + p2) (n1 + n2) k (b - a) c C K true w (less a b c p1 n1 p2 n2 k (b - a) (omega arith) h g)
    go false l r = let q = r tt in round-worth f (p1 + p2) (n1 + n2) k (a - b) c C K false w (more a b c p1 n1 p2 n2 k (a - b) (omega arith) h g)
sum-worth f true a false b c p1 n1 p2 n2 k C K h g w = go (ltb a b) (ltb→lt a b) (nltb→le a b)
  where
    tie : (y : Bool) → (T (not y) → a ≤ b) → b ≤ a → Worth (round f (true && y) (a - b) c) (p1 + p2) (n1 + n2) k
    tie true l q = round-worth f (p1 + p2) (n1 + n2) k (a - b) c C K true w (more a b c n1 p1 n2 p2 k (a - b) (omega arith) h g)
    tie false l q = let z = l tt in
        round-worth f (p1 + p2) (n1 + n2) k (a - b) c C K false w
        (zero-sign (a - b) c (p1 + p2) (n1 + n2) k (omega arith) (more a b c n1 p1 n2 p2 k (a - b) (omega arith) h g))

    go : (x : Bool) → (T x → a < b) → (T (not x) → b ≤ a) → Worth (cond x (round f false (b - a) c) (round f (true && ltb b a) (a - b) c)) (p1 + p2) (n1 + n2) k
    go true l r = let q = l tt in round-worth f (p1 + p2) (n1 + n2) k (b - a) c C K false w (less a b c n1 p1 n2 p2 k (b - a) (omega arith) h g)
    go false l r = tie (ltb b a) (nltb→le b a) (r tt)

-- over another denominator
wider : (s : Bool) (a c d p n k : ℕ) → Frac s a c p n k → Frac s (a * d) (c * d) p n k
wider false a c d p n k h = omega (arith, ap (λ (x : ℕ). x * d) h)
wider true a c d p n k h = omega (arith, ap (λ (x : ℕ). x * d) h)

pub add-worth : (f : Format) (x y : Float) (p1 n1 p2 n2 k : ℕ) → k ≤ low f → Worth x p1 n1 k → Worth y p2 n2 k → Within (p1 + p2) (n1 + n2) (2 ^ prec f)
    → Worth (add f x y) (p1 + p2) (n1 + n2) k
unfolding add
add-worth f nan y p1 n1 p2 n2 k K h g w = absurd h
add-worth f (inf s) y p1 n1 p2 n2 k K h g w = absurd h
add-worth f (fin s m e) nan p1 n1 p2 n2 k K h g w = absurd g
add-worth f (fin s m e) (inf t) p1 n1 p2 n2 k K h g w = absurd g
add-worth f (fin s m e) (fin t o d) p1 n1 p2 n2 k K h g w =
    sum-worth f s (m * up e * down d) t (o * up d * down e) (down e * down d) p1 n1 p2 n2 k (mul-pos (down_pos e) (down_pos d)) K
    (wider s (m * up e) (down e) (down d) p1 n1 k h)
    (rw (mul_comm (down e) (down d)) (wider t (o * up d) (down d) (down e) p2 n2 k g))
    w

-- ---- products

product : (a c p1 n1 b d p2 n2 k j : ℕ) → a * 2 ^ k + n1 * c ≡ p1 * c → b * 2 ^ j + n2 * d ≡ p2 * d
    → a * b * 2 ^ (k + j) + (p1 * n2 + n1 * p2) * (c * d) ≡ (p1 * p2 + n1 * n2) * (c * d)
product a c p1 n1 b d p2 n2 k j h g = rw (pow-add 2 k j) (go (2 ^ k) (2 ^ j) h g)
  where
    go : (u v : ℕ) → a * u + n1 * c ≡ p1 * c → b * v + n2 * d ≡ p2 * d → a * b * (u * v) + (p1 * n2 + n1 * p2) * (c * d) ≡ (p1 * p2 + n1 * n2) * (c * d)
    go u v h g = omega (arith, ap (λ (x : ℕ). a * u * x) g, ap (λ (x : ℕ). x * (n2 * d)) h, ap (λ (x : ℕ). x * (p2 * d)) h)

product-frac : (s t : Bool) (a c p1 n1 b d p2 n2 k j : ℕ) → Frac s a c p1 n1 k → Frac t b d p2 n2 j
    → Frac (unlike s t) (a * b) (c * d) (p1 * p2 + n1 * n2) (p1 * n2 + n1 * p2) (k + j)
product-frac false false a c p1 n1 b d p2 n2 k j h g = product a c p1 n1 b d p2 n2 k j h g
product-frac false true a c p1 n1 b d p2 n2 k j h g = product a c p1 n1 b d n2 p2 k j h g
product-frac true false a c p1 n1 b d p2 n2 k j h g = omega (arith, product a c n1 p1 b d p2 n2 k j h g)
product-frac true true a c p1 n1 b d p2 n2 k j h g = omega (arith, product a c n1 p1 b d n2 p2 k j h g)

pub mul-worth : (f : Format) (x y : Float) (p1 n1 p2 n2 k j : ℕ) → k + j ≤ low f → Worth x p1 n1 k → Worth y p2 n2 j
    → Within (p1 * p2 + n1 * n2) (p1 * n2 + n1 * p2) (2 ^ prec f) → Worth (mul f x y) (p1 * p2 + n1 * n2) (p1 * n2 + n1 * p2) (k + j)
unfolding mul
mul-worth f nan y p1 n1 p2 n2 k j K h g w = absurd h
mul-worth f (inf s) y p1 n1 p2 n2 k j K h g w = absurd h
mul-worth f (fin s m e) nan p1 n1 p2 n2 k j K h g w = absurd g
mul-worth f (fin s m e) (inf t) p1 n1 p2 n2 k j K h g w = absurd g
mul-worth f (fin s m e) (fin t o d) p1 n1 p2 n2 k j K h g w =
    round-worth f (p1 * p2 + n1 * n2) (p1 * n2 + n1 * p2) (k + j) (m * up e * (o * up d)) (down e * down d)
    (mul-pos (down_pos e) (down_pos d)) K (unlike s t) w (product-frac s t (m * up e) (down e) p1 n1 (o * up d) (down d) p2 n2 k j h g)

-- ---- the same number in other words: another p and n with the same difference, and another scale

same-frac : (s : Bool) (a c p n p' n' k : ℕ) → p + n' ≡ p' + n → Frac s a c p n k → Frac s a c p' n' k
same-frac false a c p n p' n' k e h = omega (arith, ap (λ (x : ℕ). x * c) e)
same-frac true a c p n p' n' k e h = omega (arith, ap (λ (x : ℕ). x * c) e)

pub same-worth : (x : Float) (p n p' n' k : ℕ) → p + n' ≡ p' + n → Worth x p n k → Worth x p' n' k
same-worth nan p n p' n' k e h = h
same-worth (inf s) p n p' n' k e h = h
same-worth (fin s m d) p n p' n' k e h = same-frac s (m * up d) (down d) p n p' n' k e h

scaled : (a c p n k j : ℕ) → a * 2 ^ k + n * c ≡ p * c → a * 2 ^ (k + j) + n * 2 ^ j * c ≡ p * 2 ^ j * c
scaled a c p n k j h = rw (pow-add 2 k j) (go (2 ^ k) (2 ^ j) h)
  where
    go : (u v : ℕ) → a * u + n * c ≡ p * c → a * (u * v) + n * v * c ≡ p * v * c
    go u v h = omega (arith, ap (λ (x : ℕ). x * v) h)

unscaled : (a c p n k j : ℕ) → a * 2 ^ (k + j) + n * 2 ^ j * c ≡ p * 2 ^ j * c → a * 2 ^ k + n * c ≡ p * c
unscaled a c p n k j h = go (2 ^ k) (2 ^ j) (pow_pos j) (rw (pow-add 2 k j) at h)
  where
    go : (u v : ℕ) → 0 < v → a * (u * v) + n * v * c ≡ p * v * c → a * u + n * c ≡ p * c
    go u v vp h = eq_of_mul-eq-mul_right v vp (a * u + n * c) (p * c) (omega arith)

pub scale-worth : (x : Float) (p n k j : ℕ) → Worth x p n k → Worth x (p * 2 ^ j) (n * 2 ^ j) (k + j)
scale-worth nan p n k j h = h
scale-worth (inf s) p n k j h = h
scale-worth (fin false m d) p n k j h = scaled (m * up d) (down d) p n k j h
scale-worth (fin true m d) p n k j h = scaled (m * up d) (down d) n p k j h

pub unscale-worth : (x : Float) (p n k j : ℕ) → Worth x (p * 2 ^ j) (n * 2 ^ j) (k + j) → Worth x p n k
unscale-worth nan p n k j h = h
unscale-worth (inf s) p n k j h = h
unscale-worth (fin false m d) p n k j h = unscaled (m * up d) (down d) p n k j h
unscale-worth (fin true m d) p n k j h = unscaled (m * up d) (down d) n p k j h

-- ---- what is worth the same is numerically equal

alike : (a c b d p n u : ℕ) → 0 < u → a * u + n * c ≡ p * c → b * u + n * d ≡ p * d → a * d ≡ b * c
alike a c b d p n u up h g = eq_of_mul-eq-mul_right u up (a * d) (b * c) (omega (arith, ap (λ (x : ℕ). x * d) h, ap (λ (x : ℕ). x * c) g))

-- of two signs, both are 0
none : (a c b d p n u : ℕ) → 0 < u → a * u + n * c ≡ p * c → b * u + p * d ≡ n * d → (a * d ≡ 0) × (b * c ≡ 0)
none a c b d p n u up h g = (
  eq_of_mul-eq-mul_right u up (a * d) 0 (omega (arith, ap (λ (x : ℕ). x * d) h, ap (λ (x : ℕ). x * c) g)),
  eq_of_mul-eq-mul_right u up (b * c) 0 (omega (arith, ap (λ (x : ℕ). x * d) h, ap (λ (x : ℕ). x * c) g)),
)

zeros : (s t : Bool) (a b : ℕ) → a ≡ 0 → b ≡ 0 → T (level s a t b)
zeros s t a b p q = rw (p, q) (or_r (beq s t))
  where
    or_r : (x : Bool) → T (x || true)
    or_r true = tt
    or_r false = tt

frac-eq : (s t : Bool) (a c b d p n k : ℕ) → Frac s a c p n k → Frac t b d p n k → T (level s (a * d) t (b * c))
frac-eq false false a c b d p n k h g = and_i (eqb (a * d) (b * c)) true (eq→eqb (alike a c b d p n (2 ^ k) (pow_pos k) h g)) tt
frac-eq true true a c b d p n k h g = and_i (eqb (a * d) (b * c)) true (eq→eqb (alike a c b d n p (2 ^ k) (pow_pos k) h g)) tt
frac-eq false true a c b d p n k h g = let z = none a c b d p n (2 ^ k) (pow_pos k) h g in zeros false true (a * d) (b * c) z.0 z.1
frac-eq true false a c b d p n k h g = let z = none a c b d n p (2 ^ k) (pow_pos k) h g in zeros true false (a * d) (b * c) z.0 z.1

pub eq-worth : (x y : Float) (p n k : ℕ) → Worth x p n k → Worth y p n k → T (eq x y)
unfolding eq
eq-worth nan y p n k h g = absurd h
eq-worth (inf s) y p n k h g = absurd h
eq-worth (fin s m e) nan p n k h g = absurd g
eq-worth (fin s m e) (inf t) p n k h g = absurd g
eq-worth (fin s m e) (fin t o d) p n k h g = frac-eq s t (m * up e) (down e) (o * up d) (down d) p n k h g
