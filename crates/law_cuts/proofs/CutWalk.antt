-- A walk over the sections of a file that is cut anywhere: it is as far as `way_within` says. Any filter.
use mathlib.Core.Bool.{cond}
use mathlib.Core.List.{List, ◌++◌, append_assoc}
use mathlib.Core.Logic.{⊎_elim}
use mathlib.Core.Path.{◌≡◌, refl, sym, ap, subst, ◌∙◌}
use Prim.Native.Nat.{ℕ, zero, suc, ◌+◌, ◌-◌, ◌*◌, ◌^◌, ◌≤◌, ◌<◌}
use native.Mathlib.Nat.{add-zero}
use native.Mathlib.Omega.{arith}
use borrow.Author.Tests.{lt-ltb, le-ltb, le-leb, lt-leb}
use lib.Dec.{leb}
use lib.ListN.{length, take, drop, length-drop, length-append}
use lib.Seq.{drop_at, take-append-add, drop-append-add, length-take-le}
use Rattle.base_answers.proofs.Chain.{by, stop, same}
use Rattle.base_order.proofs.Order.{lt-or-le}
use Rattle.base_lengths.specs.Lengths.{approx_length, details_length}
use Rattle.base_samples.specs.Le.{le_at, le_bytes}
use Rattle.base_samples.proofs.LeLaws.{le_at-bytes, le_at-drop, le_at-take}
use Rattle.levels_filter.specs.declared.filter.Filter.{Filter}
use Rattle.levels_filter.specs.Filters.{width_of, low_of, high_of}
use Rattle.levels_filter.specs.Pyramids.{laid_out}
use Rattle.levels_filter.proofs.Cuts.{split-width}
use Rattle.law_levels.proofs.Lengths.{length-low, length_high}
use Rattle.file_open.specs.declared.walk.Way.{Way}
use Rattle.file_open.specs.declared.walk.Way.TheVariants.{Went, Short, Wrong}
use Rattle.file_open.specs.Files.{section_of, body_of, body_size}
use Rattle.file_open.specs.Walks.{one_of, go_on, walk_of}
use Rattle.law_cuts.specs.Sees.{stopped, way_within}
use Rattle.law_cuts.proofs.Sized.{section-length, body-length}

-- the count of a section that stands at p
count_at : (s b t : List ℕ) (c p j : ℕ) → c < 256 ^ 4 → drop p s ≡ take j (section_of c b ++ t) → 4 ≤ j → le_at 4 s p ≡ c
count_at s b t c p j hc e h =
    ap (le_at 4 s) (sym (add-zero p)) ∙ sym (le_at-drop 4 p s 0) ∙ ap (λ (l : List ℕ). le_at 4 l 0) e ∙ le_at-take 4 j (section_of c b ++ t) 0 (omega arith)
    ∙ ap (λ (l : List ℕ). le_at 4 l 0) (append_assoc (le_bytes 4 c) b t) ∙ le_at-bytes 4 c (b ++ t) ∙ omega arith

-- a section of c samples b, of which j bytes are there
pub one-cut : (s b t : List ℕ) (k c num p j : ℕ) → c < 256 ^ 4 → length b ≡ k * c → drop p s ≡ take j (section_of c b ++ t) → j ≤ 4 + k * c + length t → p ≤ length s
    → one_of s k c num p ≡ cond (leb (4 + k * c) j) (Went (p + (4 + k * c))) (Short num)
unfolding one_of
one-cut s b t k c num p j hc hb e hj hp =
    let long : length (section_of c b ++ t) ≡ 4 + k * c + length t = length-append (section_of c b) t ∙ omega (arith, section-length c b) in
    let left : length s - p ≡ j = sym (length-drop p s) ∙ ap length e ∙ length-take-le j (section_of c b ++ t) (omega arith) in
    ⊎_elim
    (λ (h : j < 4).
    let a : Short num ≡ one_of s k c num p = stop _ (lt-ltb (length s - p) 4 (omega arith)) refl in
    let z : Short num ≡ cond (leb (4 + k * c) j) (Went (p + (4 + k * c))) (Short num) = by _ (lt-leb (4 + k * c) j (omega arith)) refl in
    sym a ∙ z)
    (λ (h : 4 ≤ j).
    let found : le_at 4 s p ≡ c = count_at s b t c p j hc e h in
    ⊎_elim
    (λ (g : j < 4 + k * c).
    let a : Short num ≡ one_of s k c num p = by _ (le-ltb (length s - p) 4 (omega arith)) (by _ (same (le_at 4 s p) c found) (stop _ (lt-ltb (length s - p - 4) (k * c) (omega arith)) refl)) in
    let z : Short num ≡ cond (leb (4 + k * c) j) (Went (p + (4 + k * c))) (Short num) = by _ (lt-leb (4 + k * c) j g) refl in
    sym a ∙ z)
    (λ (g : 4 + k * c ≤ j).
    let q : p + 4 + k * c ≡ p + (4 + k * c) = omega arith in
    let a : Went (p + (4 + k * c)) ≡ one_of s k c num p = by _ (le-ltb (length s - p) 4 (omega arith)) (by _ (same (le_at 4 s p) c found) (by _ (le-ltb (length s - p - 4) (k * c) (omega arith)) (ap Went (sym q)))) in
    let z : Went (p + (4 + k * c)) ≡ cond (leb (4 + k * c) j) (Went (p + (4 + k * c))) (Short num) = stop _ (le-leb (4 + k * c) j g) refl in
    sym a ∙ z)
    (lt-or-le j (4 + k * c)))
    (lt-or-le j 4)

-- where all is there, the walk goes past all
pub within-whole : (k l n p b : ℕ) → body_size k l n ≤ b → Went (p + body_size k l n) ≡ way_within k l n p b
unfolding way_within
within-whole k zero n p b h = stop _ (le-leb _ b h) refl
within-whole k (suc l) n p b h = stop _ (le-leb _ b h) refl

twice : (v : Way) (i j : ℕ) (g : ℕ → Way) → go_on (stopped v i) g ≡ stopped (stopped v i) j
twice (Went p) i j g = refl
twice (Short q) i j g = refl
twice (Wrong q found) i j g = refl

-- a walk that is cut goes no further
within-cut : (k l n p b j : ℕ) (g : ℕ → Way) → b < body_size k l n → go_on (way_within k l n p b) g ≡ stopped (way_within k l n p b) j
unfolding way_within
within-cut k zero n p b j g h = rw (lt-leb (body_size k 0 n) b h)
within-cut k (suc l) n p b j g h = rw (lt-leb (body_size k (suc l) n) b h) (twice (way_within k l (approx_length n) p b) (suc l + 1) j g)

-- one more section, of the bytes d
more : (s d t : List ℕ) (k l n p b : ℕ) → walk_of s k l (approx_length n) p ≡ way_within k l (approx_length n) p b → length d ≡ k * details_length n → n < 256 ^ 4
    → (body_size k l (approx_length n) ≤ b → (drop (p + body_size k l (approx_length n)) s ≡ take (b - body_size k l (approx_length n)) (section_of (details_length n) d ++ t)) × (p + body_size k l (approx_length n) ≤ length s))
    → b ≤ body_size k (suc l) n + length t
    → walk_of s k (suc l) n p ≡ way_within k (suc l) n p b
unfolding walk_of way_within
more s d t k l n p b e hd hn part hb =
    let sizes : body_size k (suc l) n ≡ body_size k l (approx_length n) + (4 + k * details_length n) = omega (arith, split-width k n) in
    let z = body_size k l (approx_length n) in
    let y = body_size k (suc l) n in
    let g : ℕ → Way = (λ q. one_of s k (details_length n) (suc l + 1) q) in
    ⊎_elim
    (λ (c : b < z).
    let q : stopped (way_within k l (approx_length n) p b) (suc l + 1) ≡ way_within k (suc l) n p b = by _ (lt-leb y b (omega arith)) refl in
    ap (λ (v : Way). go_on v g) e ∙ within-cut k l (approx_length n) p b (suc l + 1) g c ∙ q)
    (λ (c : z ≤ b).
    let went : Went (p + z) ≡ way_within k l (approx_length n) p b = within-whole k l (approx_length n) p b c in
    let one = one-cut s d t k (details_length n) (suc l + 1) (p + z) (b - z) (omega arith) hd (part c).0 (omega arith) (part c).1 in
    ap (λ (v : Way). go_on v g) (e ∙ sym went) ∙ one
    ∙ ⊎_elim
    (λ (h : b < y).
    let a : Short (suc l + 1) ≡ cond (leb (4 + k * details_length n) (b - z)) (Went (p + z + (4 + k * details_length n))) (Short (suc l + 1)) = by _ (lt-leb (4 + k * details_length n) (b - z) (omega arith)) refl in
    let q : Short (suc l + 1) ≡ way_within k (suc l) n p b = by _ (lt-leb y b h) (ap (λ (v : Way). stopped v (suc l + 1)) went) in
    sym a ∙ q)
    (λ (h : y ≤ b).
    let i : p + y ≡ p + z + (4 + k * details_length n) = omega arith in
    let a : Went (p + y) ≡ cond (leb (4 + k * details_length n) (b - z)) (Went (p + z + (4 + k * details_length n))) (Short (suc l + 1)) = stop _ (le-leb (4 + k * details_length n) (b - z) (omega arith)) (ap Went i) in
    let q : Went (p + y) ≡ way_within k (suc l) n p b = stop _ (le-leb y b h) refl in
    sym a ∙ q)
    (lt-or-le b y))
    (lt-or-le b z)

-- past a part of a list that is cut later
pub past : (front b r : List ℕ) (z j : ℕ) → length b ≡ z → z ≤ j → drop (length front + z) (front ++ take j (b ++ r)) ≡ take (j - z) r
past front b r z j e h =
    let q : length b + (j - z) ≡ j = omega arith in
    drop-append-add front (take j (b ++ r)) z
    ∙ ap (λ (i : ℕ). drop z (take i (b ++ r))) (sym q)
    ∙ ap (λ (l : List ℕ). drop z l) (take-append-add b r (j - z))
    ∙ drop_at b (take (j - z) r) z e

-- the walk over the first b bytes of the sections of a file, after any front, and whatever stands behind them
pub walk-cut : (f : Filter) (l n : ℕ) (x front t : List ℕ) (b : ℕ) → length x ≡ width_of f * n → n < 256 ^ 4 → b ≤ length (body_of f l n x ++ t)
    → walk_of (front ++ take b (body_of f l n x ++ t)) (width_of f) l n (length front) ≡ way_within (width_of f) l n (length front) b
unfolding walk_of laid_out way_within
walk-cut f zero n x front t b h hn hb =
    let s = front ++ take b (section_of n x ++ t) in
    let a = length-append front (take b (section_of n x ++ t)) in
    let i = length-append (section_of n x) t in
    one-cut s x t (width_of f) n 1 (length front) b hn h (drop_at front (take b (section_of n x ++ t)) (length front) refl) (omega (arith, section-length n x)) (omega arith)
walk-cut f (suc l) n x front t b h hn hb =
    let k = width_of f in
    let y = low_of f x in
    let body = body_of f l (approx_length n) y in
    let d = high_of f x in
    let r = section_of (details_length n) d ++ t in
    let s = front ++ take b (body ++ r) in
    let whole : (body ++ section_of (details_length n) d) ++ t ≡ body ++ r = append_assoc body (section_of (details_length n) d) t in
    let room : b ≤ length (body ++ r) = subst (λ (u : List ℕ). b ≤ length u) whole hb in
    let ey = length-low f x n h in
    let lb = body-length f l (approx_length n) y ey in
    let ld = length_high f x n h in
    let size = length-append body r in
    let rest = length-append (section_of (details_length n) d) t in
    let sec = section-length (details_length n) d in
    let all = length-append front (take b (body ++ r)) in
    let cut = length-take-le b (body ++ r) room in
    let before = walk-cut f l (approx_length n) y front r b ey (omega arith) room in
    subst (λ (u : List ℕ). walk_of (front ++ take b u) k (suc l) n (length front) ≡ way_within k (suc l) n (length front) b) (sym whole)
    (more s d t k l n (length front) b before ld hn (λ c. (past front body r (body_size k l (approx_length n)) b lb c, omega arith)) (omega (arith, split-width k n)))
