-- The exact case of document 01 in its own numbers: f32 inputs that are whole and of size at most 2 ^ (24 - 4 L), L to 6; f64 of size at most 2 ^ (53 - 4 L),
-- L to 13. Over the format, and the two formats at the end.
use mathlib.Core.Bool.{true, false}
use mathlib.Core.List.{List, [], ◌∷◌, map}
use mathlib.Core.Path.{◌≡◌, refl, sym}
use Prim.Native.Nat.{ℕ, ◌-◌, ◌*◌, ◌/◌, ◌%◌, ◌^◌, ◌≤◌}
use native.Mathlib.Nat.{div-add-mod', zero-mul}
use native.Mathlib.Omega.{arith}
use lib.Ieee.{Float, nan, inf, fin, Format, binary32, binary64, prec, up, down}
use lib.IntN.{pos, neg_ℤ}
use lib.ListN.{length, get_or, length-map, get_or-map}
use Rattle.base_lengths.specs.Levels.{Runs}
use Rattle.base_samples.specs.Words.{tabulate}
use Rattle.base_samples.specs.Halves.{even_of, odd_of}
use Rattle.filter_floats.specs.Steps.{odd_at, even_at, odds, evens}
use Rattle.law_exact.specs.Exact.{Worth, plus, minus, Whole, Are, WholeWithin, Inputs, number, details2, approximations8}
use Rattle.law_exact.specs.Levels.{most, Exact}
use Rattle.law_exact.proofs.Worth.{same-worth}
use Rattle.law_exact.proofs.Whole.{neg-read, abs_neg}
use Rattle.law_exact.proofs.Many.{exact}

cut : (a c : ℕ) → a % c ≡ 0 → a * 1 ≡ a / c * c
cut a c h = omega (arith, div-add-mod' a c)

-- an input is the whole number that it is
number_is : (b : ℕ) (x : Float) → WholeWithin b x → Whole 0 b x (number x)
number_is b nan h = absurd h
number_is b (inf s) h = absurd h
number_is b (fin false m e) h = record { is = omega (arith, cut (m * up e) (down e) h.0, zero-mul (down e)); size = h.1 }
number_is b (fin true m e) h =
    let q = m * up e / down e in
    let r = neg-read (pos q) in
    let w : Worth (fin true m e) 0 q 0 = omega (arith, cut (m * up e) (down e) h.0, zero-mul (down e)) in
    record {
      is = same-worth (fin true m e) 0 q (plus (neg_ℤ (pos q))) (minus (neg_ℤ (pos q))) 0 (omega arith) w;
      size = rw (abs_neg (pos q)) h.1;
    }

pub inputs_are : (b : ℕ) (x : List Float) → Inputs b x → Are 0 b x (map number x)
inputs_are b x h = record {
  same = sym (length-map x number);
  each = λ i l. rw (get_or-map number x i nan) (number_is b (get_or x i nan) (h i (rw (length-map x number) at l)));
}

pub inputs-exact : (f : Format) (levels : ℕ) → 4 * levels ≤ prec f → (x : List Float) → Runs 3 levels (length x) → Inputs (most f levels) x → Exact f levels x (map number x)
inputs-exact f n h x d r = exact f n h x (map number x) (rw (length-map x number) d) (inputs_are (most f n) x r)

-- ---- in document 01's numbers

pub exact32 : (levels : ℕ) → levels ≤ 6 → (x : List Float) → Runs 3 levels (length x) → Inputs (2 ^ (24 - 4 * levels)) x → Exact binary32 levels x (map number x)
exact32 n h = inputs-exact binary32 n (omega arith)

pub exact64 : (levels : ℕ) → levels ≤ 13 → (x : List Float) → Runs 3 levels (length x) → Inputs (2 ^ (53 - 4 * levels)) x → Exact binary64 levels x (map number x)
exact64 n h = inputs-exact binary64 n (omega arith)

-- "f32 1, 5, 2: a 2.75, 3.75; d 3.5": eight times the approximations, and twice the detail
pub figure : (approximations8 (pos 1 ∷ pos 5 ∷ pos 2 ∷ []) ≡ pos 22 ∷ pos 30 ∷ []) × (details2 (pos 1 ∷ pos 5 ∷ pos 2 ∷ []) ≡ pos 7 ∷ [])
unfolding approximations8 details2 evens even_at odds odd_at even_of odd_of tabulate
figure = (refl, refl)
