-- Lengths of one level, from document 01: the limits, the two bands, the smallest input, and what an inverse expects.
use Rattle.std.specs.Prelude.{ℕ, ◌+◌, ◌/◌, max}
use Rattle.base_lengths.specs.declared.Wavelet.{Wavelet}
use Rattle.base_lengths.specs.declared.Wavelet.TheVariants.{Cdf53, Cdf97}

-- "n over 16,777,216"
abbrev pub most_samples : ℕ
most_samples = 16777216

-- "approximations (ceil(n/2) of them)"
abbrev pub approx_length : ℕ → ℕ
approx_length n = (n + 1) / 2

-- "details (floor(n/2))"
abbrev pub details_length : ℕ → ℕ
details_length n = n / 2

-- "the smallest input is 3 for 5/3 and 4 for 9/7"
abbrev pub smallest_of : Wavelet → ℕ
smallest_of Cdf53 = 3
smallest_of Cdf97 = 4

-- "expected lengths are ceil(n/2) but at least 2, and floor(n/2) but at least 1 (9/7: at least 2)"
abbrev pub least_details : Wavelet → ℕ
least_details Cdf53 = 1
least_details Cdf97 = 2

abbrev pub expected_approx : ℕ → ℕ
expected_approx n = max 2 (approx_length n)

abbrev pub expected_details : Wavelet → ℕ → ℕ
expected_details w n = max (least_details w) (details_length n)
