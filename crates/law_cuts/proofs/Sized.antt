-- How many bytes the sections of a file are, and the whole file. Any filter.
use mathlib.Core.List.{List, ◌++◌}
use mathlib.Core.Path.{◌≡◌, ap, ◌∙◌}
use Prim.Native.Nat.{ℕ, zero, suc, ◌+◌, ◌*◌}
use native.Mathlib.Omega.{arith}
use lib.ListN.{length, length-append}
use Rattle.base_lengths.specs.Lengths.{approx_length, details_length}
use Rattle.base_samples.specs.Le.{le_bytes}
use Rattle.base_samples.proofs.LeLaws.{length-le_bytes}
use Rattle.levels_filter.specs.declared.filter.Filter.{Filter}
use Rattle.levels_filter.specs.Filters.{width_of, low_of, high_of}
use Rattle.levels_filter.specs.Pyramids.{laid_out}
use Rattle.levels_filter.proofs.Cuts.{split-width}
use Rattle.law_levels.proofs.Lengths.{length-low, length_high}
use Rattle.file_open.specs.Files.{section_of, body_of, body_size, file_size}

-- a section is its count's four bytes and its own
pub section-length : (c : ℕ) (b : List ℕ) → length (section_of c b) ≡ 4 + length b
section-length c b = length-append (le_bytes 4 c) b ∙ ap (λ (m : ℕ). m + length b) (length-le_bytes 4 c)

-- "Size: 14 + 4(L+1) + width·n", without section 0
pub body-length : (f : Filter) (l n : ℕ) (x : List ℕ) → length x ≡ width_of f * n → length (body_of f l n x) ≡ body_size (width_of f) l n
unfolding laid_out
body-length f zero n x h = omega (arith, section-length n x)
body-length f (suc l) n x h =
    let i = body-length f l (approx_length n) (low_of f x) (length-low f x n h) in
    let a = length-append (body_of f l (approx_length n) (low_of f x)) (section_of (details_length n) (high_of f x)) in
    omega (arith, i, a, section-length (details_length n) (high_of f x), length_high f x n h, split-width (width_of f) n)

-- "Size: 14 + 4(L+1) + width·n": the sections behind a section 0 of z bytes
pub file-length : (f : Filter) (l n z : ℕ) (x front s : List ℕ) → length x ≡ width_of f * n → length front ≡ z → s ≡ front ++ body_of f l n x → length s ≡ file_size z (width_of f) l n
file-length f l n z x front s h long parts = ap length parts ∙ omega (arith, length-append front (body_of f l n x), long, body-length f l n x h)
