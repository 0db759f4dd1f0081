-- Where the sections stand that section 0 tells of, from section 1 on.
use mathlib.Core.Path.{◌≡◌, refl, ap, ◌∙◌}
use Prim.Native.Nat.{ℕ, zero, suc, ◌+◌, ◌-◌, ◌*◌, ◌≤◌}
use native.Mathlib.Omega.{arith}
use Rattle.base_lengths.specs.Lengths.{approx_length, details_length}
use Rattle.base_lengths.specs.Levels.{after_levels, count_at}
use Rattle.base_lengths.proofs.Counts.{after_last}
use Rattle.levels_filter.proofs.Cuts.{split-width}
use Rattle.file_open.specs.declared.head.Head.{Head}
use Rattle.file_open.specs.Walks.{last_count}
use Rattle.file_open.specs.Opens.{samples_to, count_of, length_of}
use Rattle.file_open.proofs.Ways.{stand_of, last-details}
use Rattle.file_why.specs.Reasons.{end_of, place_of, wanted_of}

-- the sections to section j are their counts and the samples that they restore
pub end_is : (h : Head) (j : ℕ) → 1 ≤ j → j ≤ h.levels + 1 → end_of h j ≡ h.body + 4 * j + h.width * samples_to h j
end_is h zero one most = absurd (omega arith)
end_is h (suc zero) one most = omega arith
end_is h (suc (suc j)) one most =
    let n = samples_to h (suc (suc j)) in
    let a : h.levels + 1 - suc j ≡ suc (h.levels + 1 - suc (suc j)) = omega arith in
    let b : suc (suc j) - 1 ≡ suc j = omega arith in
    let up : samples_to h (suc j) ≡ approx_length n = ap (λ d. count_at d h.samples) a ∙ after_last approx_length (h.levels + 1 - suc (suc j)) h.samples in
    let c : length_of h (suc (suc j)) ≡ h.width * details_length n = ap (λ m. h.width * m) (ap (λ i. last_count i n) b ∙ last-details (suc j) n (omega arith)) in
    omega (arith, end_is h (suc j) (omega arith) (omega arith), c, split-width h.width n, ap (λ m. h.width * m) up)

pub samples-all : (h : Head) → samples_to h (h.levels + 1) ≡ h.samples
unfolding after_levels
samples-all h = let none : h.levels + 1 - (h.levels + 1) ≡ 0 = omega arith in ap (λ d. count_at d h.samples) none

-- a section is its count and its samples
pub place-ends : (h : Head) (j : ℕ) → 1 ≤ j → place_of h j + (4 + length_of h j) ≡ end_of h j
place-ends h zero one = absurd (omega arith)
place-ends h (suc j) one = refl

pub next_place : (h : Head) (j : ℕ) → place_of h (j + 1) ≡ end_of h j
next_place h j = let e : j + 1 ≡ suc j = omega arith in ap (place_of h) e

-- none stands in section 0, and from section 2 on none right behind it
pub end-behind : (h : Head) (j : ℕ) → h.body ≤ end_of h j
end-behind h zero = omega arith
end-behind h (suc j) = omega (arith, end-behind h j)

pub place-behind : (h : Head) (j : ℕ) → 1 ≤ j → h.body ≤ place_of h j
place-behind h zero one = absurd (omega arith)
place-behind h (suc j) one = end-behind h j

pub place-far : (h : Head) (j : ℕ) → 2 ≤ j → h.body + 4 ≤ place_of h j
place-far h zero two = absurd (omega arith)
place-far h (suc zero) two = absurd (omega arith)
place-far h (suc (suc j)) two = omega (arith, end-behind h j)

pub stand-is : (h : Head) (j : ℕ) → 1 ≤ j → j ≤ h.levels + 1 → stand_of h.width h.body j (samples_to h j) ≡ place_of h j
stand-is h j one most = omega (arith, end_is h j one most, place-ends h j one)

pub wanted-is : (h : Head) (j : ℕ) → 1 ≤ j → wanted_of h j ≡ count_of h j
wanted-is h zero one = absurd (omega arith)
wanted-is h (suc j) one = refl
