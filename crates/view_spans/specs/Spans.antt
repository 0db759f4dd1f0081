-- The span of a coefficient, from document 02, C-13: the samples that it can depend on. Of n samples, at level l from 1 to the 5/3 depth.
use Rattle.std.specs.Prelude.{List, ◌≡◌, ℕ, ◌+◌, ◌-◌, ◌*◌, ◌^◌, ◌≤◌, ◌<◌, min, length}
use Rattle.base_lengths.specs.declared.Wavelet.TheVariants.{Cdf53}
use Rattle.base_lengths.specs.Lengths.{details_length}
use Rattle.base_lengths.specs.Levels.{after_levels, count_at, depth_of}
use Rattle.base_samples.specs.Words.{word_at}
use Rattle.view_spans.specs.declared.Band.{Band}
use Rattle.view_spans.specs.declared.Band.TheVariants.{Approx, Details}

-- "r(l) = 2^(l+1) - 2"; "r(0) = 0"
abbrev pub reach_of : ℕ → ℕ
reach_of l = 2 ^ (l + 1) - 2

-- from `from` to `to`, and r further on either side, "clipped to 0 and n-1" (a difference below 0 is 0 here)
abbrev pub clipped_ends : ℕ → ℕ → ℕ → ℕ → ℕ × ℕ
clipped_ends n from to r = (from - r, min (to + r) (n - 1))

-- "the span of approximation p at level l is from p·2^l - r(l) to p·2^l + r(l)"
-- "the span of detail p is from p·2^l - r(l-1) to (p+1)·2^l + r(l-1)"
unfoldable pub span_of : Band → ℕ → ℕ → ℕ → ℕ × ℕ
span_of Approx n l p = clipped_ends n (p * 2 ^ l) (p * 2 ^ l) (reach_of l)
span_of Details n l p = clipped_ends n (p * 2 ^ l) ((p + 1) * 2 ^ l) (reach_of (l - 1))

-- how many coefficients a band of level l has: the details are half of the level's input, rounded down
abbrev pub band_count : Band → ℕ → ℕ → ℕ
band_count Approx l n = count_at l n
band_count Details l n = details_length (count_at (l - 1) n)

-- the bytes of a band of level l of the samples in x, where one level makes `low a` and `high a` of a
abbrev pub band_at : Band → (List ℕ → List ℕ) → (List ℕ → List ℕ) → ℕ → List ℕ → List ℕ
band_at Approx low high l x = after_levels low l x
band_at Details low high l x = high (after_levels low (l - 1) x)

-- x and y have the same samples of k bytes from the first of a span to its last
abbrev pub Agree : ℕ → ℕ × ℕ → List ℕ → List ℕ → Type 0
Agree k span x y = (j : ℕ) → span.0 ≤ j → j ≤ span.1 → word_at k x j ≡ word_at k y j

-- "no sample outside a span can change its integer 5/3 coefficient": two recordings of n samples of k bytes, which agree on the span of coefficient p, have the
-- same word there; where one level makes `low a` and `high a` of a
abbrev pub SpanDecides : ℕ → (List ℕ → List ℕ) → (List ℕ → List ℕ) → Type 0
SpanDecides k low high = (b : Band) (l n p : ℕ) (x y : List ℕ) → length x ≡ k * n → length y ≡ k * n → 1 ≤ l → l ≤ depth_of Cdf53 n → p < band_count b l n
    → Agree k (span_of b n l p) x y → word_at k (band_at b low high l x) p ≡ word_at k (band_at b low high l y) p
