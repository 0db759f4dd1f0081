-- The reversible 5-3 filter of ITU-T T.800 (JPEG 2000 part 1), Annex F, on whole numbers that do not wrap, for signals that start at an even place: i0 = 0,
-- and i1 = n is the number of samples. A reader must believe that each line below is T.800's rule, which stands in the comment above it.
-- Places are whole numbers, also negative ones and ones past the end. T.800 bounds each rule to the places where it uses it; here a rule says what it says at
-- every place. A signal of one sample is not extended, and T.800 treats it apart: these rules are for two samples and more.
-- The second rule of each direction takes the results of the first, as they are stored. Below, `keep` is what is stored of a result: the number itself in T.800.
use Rattle.std.specs.Prelude.{ℕ, ◌+◌, ◌-◌, ◌*◌, ◌/◌, ◌%◌, min, cond, List, length, ℤ, pos, ◌+ℤ◌, ◌-ℤ◌, ◌==◌}
use Rattle.base_lengths.specs.Lengths.{approx_length, details_length}
use Rattle.base_samples.specs.Words.{tabulate}
use Rattle.base_samples.specs.Halves.{joined}
use Rattle.base_samples.specs.Integers.{residue}
use Rattle.filter_cdf53i.specs.Lift.{at, floor_div}

-- "PSE(i, i0, i1) = i0 + min(mod(i - i0, 2(i1 - i0 - 1)), 2(i1 - i0 - 1) - mod(i - i0, 2(i1 - i0 - 1)))"
unfoldable pub pse : ℕ → ℤ → ℕ
pse n i = let m = residue (2 * (n - 1)) i in min m (2 * (n - 1) - m)

-- "X_ext(i) = X(PSE(i, i0, i1))"
unfoldable pub extended : List ℤ → ℤ → ℤ
extended x i = at x (pse (length x) i)

-- ---- forward: the high-pass coefficients are the Y(2j+1), the low-pass ones the Y(2j)

-- "Y(2j+1) = X_ext(2j+1) - floor((X_ext(2j) + X_ext(2j+2)) / 2) for i0 - 1 <= 2j+1 < i1 + 1"
unfoldable pub high : List ℤ → ℤ → ℤ
high x j = extended x (j +ℤ j +ℤ pos 1) -ℤ floor_div (extended x (j +ℤ j) +ℤ extended x (j +ℤ j +ℤ pos 2)) 2

-- "Y(2j) = X_ext(2j) + floor((Y(2j-1) + Y(2j+1) + 2) / 4) for i0 <= 2j < i1"; Y(2j+1) is y j, and Y(2j-1), which is Y(2(j-1)+1), is y (j - 1)
unfoldable pub low : List ℤ → (ℤ → ℤ) → ℤ → ℤ
low x y j = extended x (j +ℤ j) +ℤ floor_div (y (j -ℤ pos 1) +ℤ y j +ℤ pos 2) 4

-- the high-pass coefficients of x, each kept, and the low-pass ones over these, each kept
unfoldable pub highs : (ℤ → ℤ) → List ℤ → List ℤ
highs keep x = tabulate (details_length (length x)) (λ i. keep (high x (pos i)))

unfoldable pub lows : (ℤ → ℤ) → List ℤ → List ℤ
lows keep x = tabulate (approx_length (length x)) (λ i. keep (low x (λ j. keep (high x j)) (pos i)))

-- ---- inverse

-- Y has the low-pass coefficients a at its even places and the high-pass ones d at its odd places
abbrev pub interleaved : List ℤ → List ℤ → List ℤ
interleaved a d = joined (pos 0) a d

-- "X(2j) = Y_ext(2j) - floor((Y_ext(2j-1) + Y_ext(2j+1) + 2) / 4) for i0 <= 2j < i1 + 1"
unfoldable pub even_back : List ℤ → ℤ → ℤ
even_back y j = extended y (j +ℤ j) -ℤ floor_div (extended y (j +ℤ j -ℤ pos 1) +ℤ extended y (j +ℤ j +ℤ pos 1) +ℤ pos 2) 4

-- "X(2j+1) = Y_ext(2j+1) + floor((X(2j) + X(2j+2)) / 2) for i0 <= 2j+1 < i1"; X(2j) is x j, and X(2j+2), which is X(2(j+1)), is x (j + 1)
unfoldable pub odd_back : List ℤ → (ℤ → ℤ) → ℤ → ℤ
odd_back y x j = extended y (j +ℤ j +ℤ pos 1) +ℤ floor_div (x j +ℤ x (j +ℤ pos 1)) 2

-- the samples X(i) for i0 <= i < i1: the even ones, each kept, and the odd ones over these, each kept
unfoldable pub back : (ℤ → ℤ) → List ℤ → ℕ → ℤ
back keep y i = cond (i % 2 == 0) (keep (even_back y (pos (i / 2)))) (keep (odd_back y (λ j. keep (even_back y j)) (pos (i / 2))))

unfoldable pub backs : (ℤ → ℤ) → List ℤ → List ℤ → List ℤ
backs keep a d = tabulate (length a + length d) (back keep (interleaved a d))
