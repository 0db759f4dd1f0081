-- One level of the integer 5/3 transform, from document 01, "One level", on whole numbers. `keep` is what is stored of a coefficient: `wrap k` for samples of
-- k bytes, and the number itself in T.800, whose numbers do not wrap. Sums are exact; the update reads the stored details.
use Rattle.std.specs.Prelude.{ℕ, ◌+◌, ◌-◌, ◌*◌, ◌/◌, ◌%◌, min, cond, List, length, ℤ, pos, ◌+ℤ◌, ◌-ℤ◌, ◌==◌, slice_index_or}
use Rattle.std.specs.Int.Signed.{shr_z}
use Rattle.base_lengths.specs.Lengths.{approx_length, details_length}
use Rattle.base_samples.specs.Words.{tabulate}

-- element i
abbrev pub at : List ℤ → ℕ → ℤ
at x i = slice_index_or x i (pos 0)

-- z / m rounded down
abbrev pub floor_div : ℤ → ℕ → ℤ
floor_div = shr_z

-- how many even samples x has, and how many odd ones
abbrev pub even_count : List ℤ → ℕ
even_count x = approx_length (length x)

abbrev pub odd_count : List ℤ → ℕ
odd_count x = details_length (length x)

-- d[i] = x[2i+1] - floor((x[2i] + x[2i+2]) / 2), where the even sample after the last is the last
unfoldable pub detail : (ℤ → ℤ) → List ℤ → ℕ → ℤ
detail keep x i = keep (at x (2 * i + 1) -ℤ floor_div (at x (2 * i) +ℤ at x (2 * min (i + 1) (even_count x - 1))) 2)

unfoldable pub details : (ℤ → ℤ) → List ℤ → List ℤ
details keep x = tabulate (odd_count x) (detail keep x)

-- a[i] = x[2i] + floor((d[i-1] + d[i] + 2) / 4), where the detail before the first is the first (0 - 1 is 0 here), and the one after the last is the last
unfoldable pub approx : (ℤ → ℤ) → List ℤ → List ℤ → ℕ → ℤ
approx keep x d i = keep (at x (2 * i) +ℤ floor_div (at d (i - 1) +ℤ at d (min i (length d - 1)) +ℤ pos 2) 4)

unfoldable pub approxs : (ℤ → ℤ) → List ℤ → List ℤ
approxs keep x = tabulate (even_count x) (approx keep x (details keep x))

-- ---- "the inverse takes the same steps backwards"

-- x[2i] = a[i] - floor((d[i-1] + d[i] + 2) / 4)
unfoldable pub even : (ℤ → ℤ) → List ℤ → List ℤ → ℕ → ℤ
even keep a d i = keep (at a i -ℤ floor_div (at d (i - 1) +ℤ at d (min i (length d - 1)) +ℤ pos 2) 4)

-- x[2i+1] = d[i] + floor((x[2i] + x[2i+2]) / 2), from the n restored evens e
unfoldable pub odd : (ℤ → ℤ) → (ℕ → ℤ) → ℕ → List ℤ → ℕ → ℤ
odd keep e n d i = keep (at d i +ℤ floor_div (e i +ℤ e (min (i + 1) (n - 1))) 2)

-- sample j: an even one or an odd one
unfoldable pub sample : (ℤ → ℤ) → List ℤ → List ℤ → ℕ → ℤ
sample keep a d j = cond (j % 2 == 0) (even keep a d (j / 2)) (odd keep (even keep a d) (length a) d (j / 2))

unfoldable pub restored : (ℤ → ℤ) → List ℤ → List ℤ → List ℤ
restored keep a d = tabulate (length a + length d) (sample keep a d)
