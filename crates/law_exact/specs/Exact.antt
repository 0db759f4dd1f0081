-- The exact case, from document 01: floats that are whole numbers over a power of two, and one level of "the integer steps without floor and without the
-- added 2". Over the format.
use Rattle.std.specs.Prelude.{Bool, true, false, List, ◌≡◌, ℕ, suc, ◌+◌, ◌*◌, ◌/◌, ◌%◌, ◌^◌, ◌≤◌, ◌<◌, Float, ℤ, pos, negsuc, neg_ℤ, nat_abs, ◌+ℤ◌, ◌-ℤ◌, ◌*ℤ◌, length, get_or}
use Rattle.std.specs.Float.{nan, inf, fin, Format}
use Rattle.std.specs.Float.Ieee.{prec, low, up, down}
use Rattle.base_samples.specs.Halves.{even_of, odd_of}
use Rattle.filter_floats.specs.Steps.{odds, evens}

-- ---- floats that are whole numbers over 2 ^ k

-- the fraction a / c, below zero where s says so, is (p - n) / 2 ^ k
abbrev pub Frac : Bool → ℕ → ℕ → ℕ → ℕ → ℕ → Type 0
Frac false a c p n k = a * 2 ^ k + n * c ≡ p * c
Frac true a c p n k = a * 2 ^ k + p * c ≡ n * c

-- the float x is finite, so m * up e / down e in size, and is (p - n) / 2 ^ k; "a zero may change sign": each of the two is (n - n) / 2 ^ k
abbrev pub Worth : Float → ℕ → ℕ → ℕ → Type 0
Worth nan p n k = ⊥
Worth (inf s) p n k = ⊥
Worth (fin s m e) p n k = Frac s (m * up e) (down e) p n k

-- z is plus z - minus z, one of which is 0
abbrev pub plus : ℤ → ℕ
plus (pos a) = a
plus (negsuc a) = 0

abbrev pub minus : ℤ → ℕ
minus (pos a) = 0
minus (negsuc a) = suc a

-- the float x is z / 2 ^ k
abbrev pub Is : Float → ℤ → ℕ → Type 0
Is x z k = Worth x (plus z) (minus z) k

-- and z is at most b in size
pub record Whole (k b : ℕ) (x : Float) (z : ℤ) : Type 0 where
  pub is : Is x z k
  pub size : nat_abs z ≤ b

-- the floats xs are the whole numbers zs over 2 ^ k, of size at most b
pub record Are (k b : ℕ) (xs : List Float) (zs : List ℤ) : Type 0 where
  pub same : length xs ≡ length zs
  pub each : (i : ℕ) → i < length zs → Whole k b (get_or xs i nan) (get_or zs i (pos 0))

-- "inputs whole and of size at most" b
abbrev pub WholeWithin : ℕ → Float → Type 0
WholeWithin b nan = ⊥
WholeWithin b (inf s) = ⊥
WholeWithin b (fin s m e) = (m * up e % down e ≡ 0) × (m * up e / down e ≤ b)

abbrev pub Inputs : ℕ → List Float → Type 0
Inputs b x = (i : ℕ) → i < length x → WholeWithin b (get_or x i nan)

-- which whole number an input is: -0 is 0
abbrev pub number : Float → ℤ
number nan = pos 0
number (inf s) = pos 0
number (fin false m e) = pos (m * up e / down e)
number (fin true m e) = neg_ℤ (pos (m * up e / down e))

-- ---- the integer steps, "without floor and without the added 2"

-- twice d = x - (l + r) / 2, from the samples
abbrev pub detail : ℤ → ℤ → ℤ → ℤ
detail l r x = x *ℤ pos 2 -ℤ (l +ℤ r)

-- eight times a = x + (l + r) / 4, from the sample and twice the details
abbrev pub approx : ℤ → ℤ → ℤ → ℤ
approx l r x = x *ℤ pos 8 +ℤ (l +ℤ r)

-- twice the details of z, and eight times its approximations
unfoldable pub details2 : List ℤ → List ℤ
details2 z = odds detail (pos 0) (even_of (pos 0) z) (odd_of (pos 0) z)

unfoldable pub approximations8 : List ℤ → List ℤ
approximations8 z = evens approx (pos 0) (even_of (pos 0) z) (details2 z)

-- a level whose inputs are whole numbers over 2 ^ k of size at most b has room: its coefficients are over 2 ^ (k + 3) and of size at most 16 b, and the format
-- has each such number
pub record FormatHolds (f : Format) (k b : ℕ) : Type 0 where
  pub fine : k + 3 ≤ low f
  pub wide : 16 * b ≤ 2 ^ prec f
