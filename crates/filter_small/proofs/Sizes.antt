-- Sums and products of small floats are finite: each rounding makes a value at most four times as large, and a lifting step at most 2 ^ 9 times.
use mathlib.Core.Bool.{Bool, true, false, not, ◌&&◌, beq, cond}
use mathlib.Core.List.{List}
use mathlib.Core.Logic.{⊎_elim}
use mathlib.Core.Path.{◌≡◌, refl, sym, ap, subst}
use Prim.Native.Nat.{ℕ, zero, suc, ◌+◌, ◌-◌, ◌*◌, ◌/◌, ◌%◌, ◌^◌, ◌≤◌, ◌<◌, compare}
use native.Mathlib.Nat.{mul_comm, mul_assoc, mul_left_comm, mul_right_comm, add-mul, le_trans, le_of_eq, lt_of_le_of_lt, mul-pos, mul-le-mul, mul-le-mul_right, mod-lt, div-mul-le_self, div-lt_iff_lt-mul, div-div-eq-div-mul, suc-mul}
use native.Mathlib.Omega.{arith}
use borrow.Author.Tests.{ne_eqb}
use lib.Bits.{bit_or, or_add_and, and_le_l, and_le_r}
use lib.Dec.{ltb, leb}
use lib.ListN.{length}
use lib.Pow.{pow_pos, pow_mono, pow-lt, pow-add}
use lib.Ieee.{Float, nan, inf, fin, Format, binary32, binary64, prec, emax, low, hid, ones, top, up, down, size, odd, units, round, sum, add, mul, is_nan, of_fields, of_bits}
use lib.Ieee.Digits.{size_reaches}
use lib.Ieee.Fits.{round_is, nearest-le, down_pos, two}
use lib.Ieee.Exact.{HasValue, odd_sign, units_val}
use lib.Ieee.Nearest.{closest}
use Rattle.std.specs.Bool.{IsTrue}
use Rattle.base_order.proofs.Order.{lt-or-le}
use Rattle.base_samples.specs.Floats.{width, float_at}
use Rattle.filter_floats.specs.Steps.{lift}
use Rattle.filter_small.specs.Small.{Small, Factor, edge, SmallFrom, SmallIf}

-- from so many units on a value is an infinity: 2 ^ this
abbrev pub ceiling : Format → ℕ
ceiling f = low f + suc (emax f)

pub small-le : (f : Format) (x : Float) (j k : ℕ) → Small f j x → j ≤ k → Small f k x
small-le f nan j k h l = h
small-le f (inf s) j k h l = h
small-le f (fin s m e) j k h l = le_trans h (mul-le-mul_right (down e) (pow_mono l))

pub small-no-nan : (f : Format) (j : ℕ) (x : Float) → Small f j x → IsTrue (not (is_nan x))
unfolding is_nan
small-no-nan f j nan h = absurd h
small-no-nan f j (inf s) h = absurd h
small-no-nan f j (fin s m e) h = refl

cond_small : (f : Format) (j : ℕ) (b : Bool) (x y : Float) → Small f j x → Small f j y → Small f j (cond b x y)
cond_small f j true x y p q = p
cond_small f j false x y p q = q

-- a value of q units
value-small : (f : Format) (x : Float) (s : Bool) (q j : ℕ) → HasValue x s q (2 ^ low f) → q ≤ 2 ^ j → Small f j x
value-small f nan s q j v h = v
value-small f (inf t) s q j v h = v
value-small f (fin t m e) s q j v h = le_trans (le_of_eq v.1) (mul-le-mul_right (down e) h)

units_small : (f : Format) (s : Bool) (q k j : ℕ) → q * 2 ^ k ≤ 2 ^ j → j < ceiling f → Small f j (units f s q k)
units_small f s q k j h l = value-small f (units f s q k) s (q * 2 ^ k) j (units_val f s q k (lt_of_le_of_lt h (pow-lt l))) h

-- ---- rounding

-- the digits that are dropped are fewer than there are
dropped : (w p : ℕ) → 2 ≤ p → 2 ^ (size w - p) ≤ suc w
dropped w p h =
    ⊎_elim
    (λ (l : size w - p < size w). le_trans (size_reaches w (size w - p) l) (omega arith))
    (λ (l : size w ≤ size w - p). let z : size w - p ≡ 0 = omega arith in rw z (omega arith))
    (lt-or-le (size w - p) (size w))

-- the whole part
whole_le : (n den B : ℕ) → 0 < den → n ≤ B * den → n / den ≤ B
whole_le n den B D h =
    let l : n < suc B * den = rw (suc-mul B den) (omega arith) in
    let r : n / den < suc B = (div-lt_iff_lt-mul D).1 l in
    omega arith

-- so a rounded value is at most twice the fraction, and a unit
closest-le : (n den k : ℕ) → closest n (den * 2 ^ k) * 2 ^ k ≤ 2 ^ k + n / den
closest-le n den k =
    let u = den * 2 ^ k in
    let w = n / den in
    let e : n / u ≡ w / 2 ^ k = sym (div-div-eq-div-mul n den (2 ^ k)) in
    let a : closest n u ≤ suc (w / 2 ^ k) = le_trans (nearest-le (n / u) (compare (n % u * 2) u)) (le_of_eq (ap suc e)) in
    let b : suc (w / 2 ^ k) * 2 ^ k ≡ w / 2 ^ k * 2 ^ k + 2 ^ k = suc-mul (w / 2 ^ k) (2 ^ k) in
    let c : w / 2 ^ k * 2 ^ k ≤ w = div-mul-le_self w (2 ^ k) in
    le_trans (mul-le-mul_right (2 ^ k) a) (omega arith)

round-small : (f : Format) (s : Bool) (num den j k : ℕ) → 0 < den → num * 2 ^ low f ≤ 2 * 2 ^ j * den → j + 3 ≤ k → k < ceiling f → Small f k (round f s num den)
round-small f s num den j k D h jk l =
    let n = num * 2 ^ low f in
    let w = n / den in
    let i = size w - prec f in
    let hw : w ≤ 2 * 2 ^ j = whole_le n den (2 * 2 ^ j) D h in
    let hd : 2 ^ i ≤ suc w = dropped w (prec f) (two f) in
    let hc = closest-le n den i in
    let p : 0 < 2 ^ j = pow_pos j in
    let e : 2 ^ (j + 3) ≡ 2 ^ j * 8 = pow-add 2 j 3 in
    let hk : 2 ^ (j + 3) ≤ 2 ^ k = pow_mono jk in
    subst (λ (z : Float). Small f k z) (sym (round_is f s num den)) (units_small f s (closest n (den * 2 ^ i)) i k (omega arith) l)

-- ---- sums and products

sum-small : (f : Format) (s : Bool) (a : ℕ) (t : Bool) (b c j k : ℕ) → 0 < c → a * 2 ^ low f + b * 2 ^ low f ≤ 2 * 2 ^ j * c → j + 3 ≤ k → k < ceiling f → Small f k (sum f s a t b c)
unfolding sum
sum-small f s a t b c j k C h jk l =
    let L = 2 ^ low f in
    let both : (a + b) * L ≤ 2 * 2 ^ j * c = le_trans (le_of_eq (add-mul a b L)) h in
    let less : (i : ℕ) → i ≤ a + b → i * L ≤ 2 * 2 ^ j * c = λ i q. le_trans (mul-le-mul_right L q) both in
    cond_small f k (beq s t) (round f s (a + b) c) (cond (ltb a b) (round f t (b - a) c) (round f (s && ltb b a) (a - b) c))
    (round-small f s (a + b) c j k C both jk l)
    (cond_small f k (ltb a b) (round f t (b - a) c) (round f (s && ltb b a) (a - b) c)
    (round-small f t (b - a) c j k C (less (b - a) (omega arith)) jk l)
    (round-small f (s && ltb b a) (a - b) c j k C (less (a - b) (omega arith)) jk l))

-- x / e in units, over the common divisor e * d
over : (x L e d B : ℕ) → x * L ≤ B * e → x * d * L ≤ B * (e * d)
over x L e d B h = le_trans (le_of_eq (mul_right_comm x d L)) (le_trans (mul-le-mul_right d h) (le_of_eq (mul_assoc B e d)))

pub add_small : (f : Format) (x y : Float) (j k : ℕ) → Small f j x → Small f j y → j + 3 ≤ k → k < ceiling f → Small f k (add f x y)
unfolding add
add_small f nan y j k p q jk l = absurd p
add_small f (inf s) y j k p q jk l = absurd p
add_small f (fin s m e) nan j k p q jk l = absurd q
add_small f (fin s m e) (inf t) j k p q jk l = absurd q
add_small f (fin s m e) (fin t n d) j k p q jk l =
    let a = over (m * up e) (2 ^ low f) (down e) (down d) (2 ^ j) p in
    let b = over (n * up d) (2 ^ low f) (down d) (down e) (2 ^ j) q in
    let same : 2 ^ j * (down d * down e) ≡ 2 ^ j * (down e * down d) = ap (λ (z : ℕ). 2 ^ j * z) (mul_comm (down d) (down e)) in
    let twice : 2 * 2 ^ j * (down e * down d) ≡ 2 * (2 ^ j * (down e * down d)) = mul_assoc 2 (2 ^ j) (down e * down d) in
    sum-small f s (m * up e * down d) t (n * up d * down e) (down e * down d) j k (mul-pos (down_pos e) (down_pos d)) (omega arith) jk l

pub mul_small : (f : Format) (x c : Float) (j k : ℕ) → Small f j x → Factor c → j + 3 ≤ k → k < ceiling f → Small f k (mul f x c)
unfolding mul
mul_small f nan c j k p q jk l = absurd p
mul_small f (inf s) c j k p q jk l = absurd p
mul_small f (fin s m e) nan j k p q jk l = absurd q
mul_small f (fin s m e) (inf t) j k p q jk l = absurd q
mul_small f (fin s m e) (fin t n d) j k p q jk l =
    let a = m * up e in
    let b = n * up d in
    let h : a * 2 ^ low f * b ≤ 2 ^ j * down e * (2 * down d) = mul-le-mul p q in
    let r : 2 ^ j * down e * (2 * down d) ≡ 2 * 2 ^ j * (down e * down d) = simp (mul_assoc, mul_comm, mul_left_comm) in
    round-small f _ (a * b) (down e * down d) j k (mul-pos (down_pos e) (down_pos d)) (le_trans (le_of_eq (mul_right_comm a b (2 ^ low f))) (le_trans h (le_of_eq r))) jk l

-- a lifting step
pub lift-small : (f : Format) (c x y z : Float) (j k : ℕ) → Factor c → Small f j x → Small f j y → Small f j z → j + 9 ≤ k → k < ceiling f → Small f k (lift f c x y z)
unfolding lift
lift-small f c x y z j k q p r t jk l =
    add_small f (mul f (add f x y) c) z (j + 6) k
    (mul_small f (add f x y) c (j + 3) (j + 6) (add_small f x y j (j + 3) p r (omega arith) (omega arith)) q (omega arith) (omega arith))
    (small-le f z j (j + 6) t (omega arith))
    (omega arith) l

-- ---- by their patterns

twice_hid : (f : Format) → hid f + hid f ≡ 2 ^ prec f
twice_hid binary32 = refl
twice_hid binary64 = refl

hid-pos : (f : Format) → 0 < hid f
hid-pos f = pow_pos (prec f - 1)

fields-small : (f : Format) (s : Bool) (x t X : ℕ) → x ≤ X → X < ones f → t < hid f → Small f (prec f + X) (of_fields f s x t)
unfolding of_fields
fields-small f s zero t X h l ht =
    let e : t * 2 ^ 0 ≤ 2 ^ (prec f + X) = le_trans (le_trans (omega (arith, twice_hid f)) (le_of_eq (twice_hid f))) (pow_mono (omega arith)) in
    value-small f (odd (prec f) s t 0 (low f)) s (t * 2 ^ 0) (prec f + X) (odd_sign (prec f) s t 0 (low f)) e
fields-small f s (suc x) t X h l ht =
    let ne = ne_eqb (suc x) (ones f) (λ q. omega arith) in
    let two-hids : hid f + t ≤ 2 ^ prec f = le_trans (omega arith) (le_of_eq (twice_hid f)) in
    let px : 2 ^ x ≤ 2 ^ X = pow_mono (omega arith) in
    let e : (hid f + t) * 2 ^ x ≤ 2 ^ (prec f + X) = le_trans (mul-le-mul two-hids px) (le_of_eq (sym (pow-add 2 (prec f) X))) in
    rw ne (value-small f (odd (prec f) s (hid f + t) x (low f)) s ((hid f + t) * 2 ^ x) (prec f + X) (odd_sign (prec f) s (hid f + t) x (low f)) e)

-- the largest exponent's field below the edge, and how many units that is
abbrev field : Format → ℕ
field binary32 = 191
field binary64 = 1791

abbrev pub size_read : Format → ℕ
size_read f = prec f + field f

field_lt : (f : Format) → field f < ones f
field_lt binary32 = omega arith
field_lt binary64 = omega arith

field-le : (f : Format) (n : ℕ) → n % top f < edge f → n % top f / hid f ≤ field f
field-le binary32 n h = omega arith
field-le binary64 n h = omega arith

bits_small : (f : Format) (n : ℕ) → n % top f < edge f → Small f (size_read f) (of_bits f n)
unfolding of_bits
bits_small f n h = fields-small f (leb (top f) n) (n % top f / hid f) (n % hid f) (field f) (field-le f n h) (field_lt f) (mod-lt n (hid-pos f))

pub float_small : {f : Format} {s : List ℕ} {i j : ℕ} (h : SmallFrom f s i j) (p : ℕ) → i ≤ p → p < j → p < length s / width f → Small f (size_read f) (float_at f s p)
unfolding float_at
float_small {f} h p ip pj l = bits_small f _ (h.each p ip pj l)

-- a part of them
pub small-part : {f : Format} {s : List ℕ} {i j : ℕ} (k l : ℕ) → SmallFrom f s i j → i ≤ k → l ≤ j → SmallFrom f s k l
small-part k l h ik lj = record { each = λ p kp pl n. h.each p (omega arith) (omega arith) n }

pub part-if : {b : Bool} {f : Format} {s : List ℕ} {i j : ℕ} (k l : ℕ) → SmallIf b f s i j → i ≤ k → l ≤ j → SmallIf b f s k l
part-if k l h ik lj = λ q. small-part k l (h q) ik lj

-- ---- the look through a slice

-- what is seen stays below a bound only if both parts are below it
pub seen_both : (x y H : ℕ) → bit_or x y < H → (x < H) × (y < H)
seen_both x y H h = let o = or_add_and x y in (omega (arith, and_le_r x y), omega (arith, and_le_l x y))
