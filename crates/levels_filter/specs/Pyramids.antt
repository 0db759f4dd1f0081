-- Many levels, from document 01: "the next level's input is this level's approximations". On bytes, for any filter, by recursion on the levels.
use Rattle.std.specs.Prelude.{Bool, cond, List, [], ◌∷◌, ◌++◌, ℕ, zero, suc, ◌+◌, ◌*◌, take, drop}
use Rattle.base_samples.specs.Le.{le_bytes}
use Rattle.base_lengths.specs.Lengths.{approx_length, details_length}
use Rattle.base_lengths.specs.Levels.{after_levels, there_and_back}
use Rattle.levels_filter.specs.declared.filter.Filter.{Filter}
use Rattle.levels_filter.specs.Filters.{width_of, low_of, high_of, back_of}

-- the approximations after l levels
abbrev pub approx_at : Filter → ℕ → List ℕ → List ℕ
approx_at f = after_levels (low_of f)

-- "`multi_dwt` fills one slice of n: deepest approximations, then details deepest first"
unfoldable pub pyramid : Filter → ℕ → List ℕ → List ℕ
pyramid f zero x = x
pyramid f (suc l) x = pyramid f l (low_of f x) ++ high_of f x

-- a count has four bytes, or none where bands stand without counts
abbrev pub count_size : Bool → ℕ
count_size counted = cond counted 4 0

-- the same bands of the n samples in x, each after its count of c bytes: with none it is `pyramid`
unfoldable pub laid_out : Filter → ℕ → ℕ → ℕ → List ℕ → List ℕ
laid_out f c zero n x = le_bytes c n ++ x
laid_out f c (suc l) n x = laid_out f c l (approx_length n) (low_of f x) ++ (le_bytes c (details_length n) ++ high_of f x)

-- how many bytes these are, at k bytes a sample
abbrev pub laid_size : ℕ → ℕ → ℕ → ℕ → ℕ
laid_size c k l n = c * (l + 1) + k * n

-- the samples of approximations a and details d, joined deepest first, of which each level has as many as the list of lengths says
unfoldable pub samples_of : Filter → List ℕ → List ℕ → List ℕ → List ℕ
samples_of f a d [] = a
samples_of f a d (m ∷ ms) = samples_of f (back_of f a (take (width_of f * m) d)) (drop (width_of f * m) d) ms

-- "details deepest first": all that l levels make
unfoldable pub details_at : Filter → ℕ → List ℕ → List ℕ
details_at f zero x = []
details_at f (suc l) x = details_at f l (low_of f x) ++ high_of f x

-- how many details each of l levels of n samples has, deepest first
unfoldable pub lengths_of : ℕ → ℕ → List ℕ
lengths_of zero n = []
lengths_of (suc l) n = lengths_of l (approx_length n) ++ (details_length n ∷ [])

-- l levels forward, and back again
abbrev pub round_trip : Filter → ℕ → List ℕ → List ℕ
round_trip f = there_and_back (low_of f) (high_of f) (back_of f)
