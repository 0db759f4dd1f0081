-- How far a walk over a cut file gets, by how many sections are whole; and that a walk's way to tell how many is that of counting them from the first on.
use mathlib.Core.Bool.{cond}
use mathlib.Core.List.{List, [], ◌∷◌, ◌++◌}
use mathlib.Core.Logic.{⊎_elim}
use mathlib.Core.Path.{◌≡◌, refl, sym, ap, subst, ◌∙◌}
use Prim.Native.Nat.{ℕ, zero, suc, ◌+◌, ◌-◌, ◌*◌, ◌≤◌, ◌<◌}
use native.Mathlib.Nat.{mul-add, mul-zero}
use native.Mathlib.Omega.{arith}
use borrow.Author.Tests.{le-leb, lt-leb}
use lib.Dec.{leb}
use lib.ListN.{length}
use Rattle.base_order.proofs.Order.{lt-or-le}
use Rattle.base_lengths.specs.Lengths.{approx_length, details_length}
use Rattle.base_lengths.specs.Levels.{after_levels, count_at}
use Rattle.levels_filter.specs.Pyramids.{lengths_of}
use Rattle.levels_filter.specs.Backward.{total}
use Rattle.levels_filter.proofs.Cuts.{split-width}
use Rattle.law_levels.proofs.Lengths.{length-lengths, count-at-total}
use Rattle.file_open.specs.declared.walk.Way.TheVariants.{Short}
use Rattle.file_open.specs.Files.{body_size}
use Rattle.law_cuts.specs.Sees.{first_whole, needed, whole_of, whole_in, way_within}
use Rattle.law_cuts.proofs.CutWalk.{within-whole}
use Rattle.law_cuts.proofs.Restored.{whole-all, whole-most}

-- section 1 is no more than all sections
pub first-most : (k l n : ℕ) → body_size k 0 (count_at l n) ≤ body_size k l n
unfolding after_levels
first-most k zero n = omega arith
first-most k (suc l) n = omega (arith, first-most k l (approx_length n), split-width k n)

-- where section 1 is cut, the walk stops there
pub within_none : (k l n p b : ℕ) → b < body_size k 0 (count_at l n) → way_within k l n p b ≡ Short 1
unfolding way_within after_levels
within_none k zero n p b h = rw (lt-leb (body_size k 0 n) b h)
within_none k (suc l) n p b h =
    let g : b < body_size k (suc l) n = omega (arith, first-most k l (approx_length n), split-width k n) in
    rw (lt-leb (body_size k (suc l) n) b g, within_none k l (approx_length n) p b h)

-- where a later section is cut, the walk stops in the first that is not whole
pub within-short : (k l n p b : ℕ) → body_size k 0 (count_at l n) ≤ b → b < body_size k l n → way_within k l n p b ≡ Short (whole_in k l n b + 2)
unfolding way_within after_levels whole_in
within-short k zero n p b c h = absurd (omega arith)
within-short k (suc l) n p b c h =
    ⊎_elim
    (λ (g : b < body_size k l (approx_length n)). rw (lt-leb (body_size k (suc l) n) b h, within-short k l (approx_length n) p b c g))
    (λ (g : body_size k l (approx_length n) ≤ b).
    let e : suc l + 1 ≡ l + 2 = omega arith in
    rw (lt-leb (body_size k (suc l) n) b h, ← within-whole k l (approx_length n) p b g, whole-all k l (approx_length n) b g) (ap Short e))
    (lt-or-le b (body_size k l (approx_length n)))

-- one section more at the end: it is whole where all are
first_more : (k : ℕ) (cs : List ℕ) (c b : ℕ)
    → first_whole k (cs ++ (c ∷ [])) b ≡ cond (leb (4 * suc (length cs) + (k * total cs + k * c)) b) (suc (length cs)) (first_whole k cs b)
unfolding first_whole total
first_more k [] c b =
    let e : 4 * 1 + (k * 0 + k * c) ≡ 4 + k * c = omega (arith, mul-zero k) in
    sym (ap (λ (z : ℕ). cond (leb z b) 1 0) e)
first_more k (d ∷ cs) c b =
    let z = 4 + k * d in
    let y = 4 * suc (length cs) + (k * total cs + k * c) in
    let a = 4 * suc (suc (length cs)) + (k * (d + total cs) + k * c) in
    let e : a ≡ z + y = omega (arith, mul-add k d (total cs)) in
    ⊎_elim
    (λ (h : b < z). rw (lt-leb z b h, lt-leb a b (omega arith)))
    (λ (h : z ≤ b).
    ⊎_elim
    (λ (g : b - z < y). rw (le-leb z b h, first_more k cs c (b - z), lt-leb y (b - z) g, lt-leb a b (omega arith)))
    (λ (g : y ≤ b - z). rw (le-leb z b h, first_more k cs c (b - z), le-leb y (b - z) g, le-leb a b (omega arith)))
    (lt-or-le (b - z) y))
    (lt-or-le b z)

-- what a walk finds to be whole is what is whole from the first section on, where section 1 is
pub whole-first : (k l n b : ℕ) → body_size k 0 (count_at l n) ≤ b → whole_in k l n b ≡ first_whole k (lengths_of l n) (b - body_size k 0 (count_at l n))
unfolding whole_in first_whole after_levels lengths_of
whole-first k zero n b c = refl
whole-first k (suc l) n b c =
    let q = count_at l (approx_length n) in
    let ms = lengths_of l (approx_length n) in
    let a = 4 * suc (length ms) + (k * total ms + k * details_length n) in
    let j = b - body_size k 0 q in
    let e : body_size k (suc l) n ≡ body_size k 0 q + a =
    omega (arith, length-lengths l (approx_length n), mul-add k q (total ms), ap (λ (i : ℕ). k * i) (count-at-total l (approx_length n)), split-width k n) in
    ⊎_elim
    (λ (h : b < body_size k (suc l) n).
    rw (lt-leb (body_size k (suc l) n) b h, first_more k ms (details_length n) j, lt-leb a j (omega arith)) (whole-first k l (approx_length n) b c))
    (λ (h : body_size k (suc l) n ≤ b).
    rw (le-leb (body_size k (suc l) n) b h, first_more k ms (details_length n) j, le-leb a j (omega arith)) (ap suc (sym (length-lengths l (approx_length n)))))
    (lt-or-le b (body_size k (suc l) n))

-- the same of a whole file
pub whole_is : (z k l n b : ℕ) → needed z k l n ≤ b → whole_in k l n (b - z) ≡ whole_of z k l n b
whole_is z k l n b h =
    let e : b - z - body_size k 0 (count_at l n) ≡ b - needed z k l n = omega arith in
    whole-first k l n (b - z) (omega arith) ∙ ap (first_whole k (lengths_of l n)) e

-- ---- it is the largest such number

fits_in : (k l n b : ℕ) → body_size k 0 (count_at l n) ≤ b → body_size k (whole_in k l n b) (count_at (l - whole_in k l n b) n) ≤ b
unfolding after_levels whole_in
fits_in k zero n b c = c
fits_in k (suc l) n b c =
    let m = whole_in k l (approx_length n) b in
    ⊎_elim
    (λ (h : b < body_size k (suc l) n).
    let e : suc l - m ≡ suc (l - m) = omega (arith, whole-most k l (approx_length n) b) in
    rw (lt-leb (body_size k (suc l) n) b h, e) (fits_in k l (approx_length n) b c))
    (λ (h : body_size k (suc l) n ≤ b).
    let e : suc l - suc l ≡ 0 = omega arith in
    rw (le-leb (body_size k (suc l) n) b h, e) h)
    (lt-or-le b (body_size k (suc l) n))

next-out : (k l n b : ℕ) → whole_in k l n b < l → b < body_size k (suc (whole_in k l n b)) (count_at (l - suc (whole_in k l n b)) n)
unfolding after_levels whole_in
next-out k zero n b c = absurd (omega arith)
next-out k (suc l) n b c =
    let m = whole_in k l (approx_length n) b in
    let most = whole-most k l (approx_length n) b in
    ⊎_elim
    (λ (h : b < body_size k (suc l) n).
    rw (lt-leb (body_size k (suc l) n) b h)
    (⊎_elim
    (λ (g : m < l). let e : suc l - suc m ≡ suc (l - suc m) = omega arith in rw e (next-out k l (approx_length n) b g))
    (λ (g : l ≤ m).
    let em : m ≡ l = omega arith in
    let e : suc l - suc l ≡ 0 = omega arith in
    rw (em, e) h)
    (lt-or-le m l)))
    (λ (h : body_size k (suc l) n ≤ b). absurd (omega (arith, whole-all k (suc l) n b h)))
    (lt-or-le b (body_size k (suc l) n))

-- the sections up to that one are within b bytes
pub whole-fits : (z k l n b : ℕ) → needed z k l n ≤ b → z + body_size k (whole_of z k l n b) (count_at (l - whole_of z k l n b) n) ≤ b
whole-fits z k l n b c =
    let j = b - z in
    let f : body_size k (whole_in k l n j) (count_at (l - whole_in k l n j) n) ≤ j = fits_in k l n j (omega arith) in
    let g : body_size k (whole_of z k l n b) (count_at (l - whole_of z k l n b) n) ≤ j = subst (λ (m : ℕ). body_size k m (count_at (l - m) n) ≤ j) (whole_is z k l n b c) f in
    omega arith

-- and with the next one they are not
pub whole-next : (z k l n b : ℕ) → needed z k l n ≤ b → whole_of z k l n b < l → b < z + body_size k (suc (whole_of z k l n b)) (count_at (l - suc (whole_of z k l n b)) n)
whole-next z k l n b c h =
    let j = b - z in
    let e = whole_is z k l n b c in
    let f : j < body_size k (suc (whole_in k l n j)) (count_at (l - suc (whole_in k l n j)) n) = next-out k l n j (omega arith) in
    let g : j < body_size k (suc (whole_of z k l n b)) (count_at (l - suc (whole_of z k l n b)) n) = subst (λ (m : ℕ). j < body_size k (suc m) (count_at (l - suc m) n)) e f in
    omega arith
