-- What the sections of a file restore: all of them the samples, and those that are whole in a cut file the approximations of the level that they reach. Each of
-- the integer filters.
use mathlib.Core.List.{List, ◌++◌, append_assoc}
use mathlib.Core.Logic.{⊎_elim}
use mathlib.Core.Path.{◌≡◌, refl, sym, ap, ap₂, subst, ◌∙◌}
use Prim.Native.Nat.{ℕ, zero, suc, ◌+◌, ◌-◌, ◌*◌, ◌≤◌, ◌<◌}
use native.Mathlib.Omega.{arith}
use borrow.Author.Tests.{le-leb, lt-leb}
use lib.ListN.{length, take, drop}
use lib.Seq.{take-take, take_at, drop_at, drop-drop, take-append-add}
use Rattle.base_order.proofs.Order.{lt-or-le}
use Rattle.base_lengths.specs.Lengths.{approx_length, details_length, smallest_of}
use Rattle.base_lengths.specs.Levels.{after_levels, count_at, depth_of}
use Rattle.base_lengths.proofs.Depths.{step, two-below}
use Rattle.base_samples.specs.Le.{Bytes, le_bytes}
use Rattle.base_samples.proofs.LeLaws.{length-le_bytes}
use Rattle.filter_cdf53i.specs.Bands.{back}
use Rattle.levels_filter.specs.declared.filter.Filter.{Filter}
use Rattle.levels_filter.specs.Filters.{width_of, wavelet_of, low_of, high_of, Integers}
use Rattle.levels_filter.specs.Pyramids.{approx_at, laid_out}
use Rattle.levels_filter.proofs.Cuts.{split-width}
use Rattle.law_levels.proofs.Lengths.{length-low, length_high}
use Rattle.law_levels.proofs.Undone.{Undoes, undoes}
use Rattle.file_open.specs.Files.{section_of, body_of, body_size}
use Rattle.file_open.specs.Walks.{bytes_at, restored_at}
use Rattle.file_open.proofs.Parts.{back_is}
use Rattle.law_cuts.specs.Sees.{whole_in}
use Rattle.law_cuts.proofs.Sized.{body-length}
use Rattle.law_cuts.proofs.CutWalk.{past}

-- the bytes of a section that is whole
pub bytes_whole : (s b t : List ℕ) (k c p j : ℕ) → drop p s ≡ take j (section_of c b ++ t) → length b ≡ k * c → 4 + k * c ≤ j → bytes_at k s c p ≡ b
bytes_whole s b t k c p j e hb h =
    let q : length (le_bytes 4 c) + (j - 4) ≡ j = omega (arith, length-le_bytes 4 c) in
    let i : drop (p + 4) s ≡ take (j - 4) (b ++ t) =
    sym (drop-drop 4 p s) ∙ ap (λ (l : List ℕ). drop 4 l) (e ∙ ap (λ (l : List ℕ). take j l) (append_assoc (le_bytes 4 c) b t))
    ∙ ap (λ (n : ℕ). drop 4 (take n (le_bytes 4 c ++ (b ++ t)))) (sym q)
    ∙ ap (λ (l : List ℕ). drop 4 l) (take-append-add (le_bytes 4 c) (b ++ t) (j - 4))
    ∙ drop_at (le_bytes 4 c) (take (j - 4) (b ++ t)) 4 (length-le_bytes 4 c) in
    ap (λ (l : List ℕ). take (k * c) l) i ∙ take-take (k * c) (j - 4) (b ++ t) (omega arith) ∙ take_at b t (k * c) hb

-- no more sections of details than levels
pub whole-most : (k l n b : ℕ) → whole_in k l n b ≤ l
unfolding whole_in
whole-most k zero n b = omega arith
whole-most k (suc l) n b =
    ⊎_elim
    (λ (h : b < body_size k (suc l) n). rw (lt-leb (body_size k (suc l) n) b h) (omega (arith, whole-most k l (approx_length n) b)))
    (λ (h : body_size k (suc l) n ≤ b). rw (le-leb (body_size k (suc l) n) b h) (omega arith))
    (lt-or-le b (body_size k (suc l) n))

-- where all is there, all sections are whole
pub whole-all : (k l n b : ℕ) → body_size k l n ≤ b → whole_in k l n b ≡ l
unfolding whole_in
whole-all k zero n b h = refl
whole-all k (suc l) n b h = rw (le-leb (body_size k (suc l) n) b h)

-- where not all is there, the last section is not whole
pub whole-less : (k l n b : ℕ) → b < body_size k (suc l) n → whole_in k (suc l) n b ≡ whole_in k l (approx_length n) b
unfolding whole_in
whole-less k l n b h = rw (lt-leb (body_size k (suc l) n) b h)

module _ (f : Filter) (int : Integers f) where
  u : Undoes f
  u = undoes f int

  -- sections that are all there restore the samples, after any front, and whatever stands behind them
  pub restored-whole : (l n : ℕ) (x front t : List ℕ) (b : ℕ) → Bytes x → length x ≡ width_of f * n → l ≤ depth_of (wavelet_of f) n → body_size (width_of f) l n ≤ b
      → restored_at (width_of f) (front ++ take b (body_of f l n x ++ t)) l n (length front) ≡ x
  unfolding restored_at laid_out
  restored-whole zero n x front t b v h g c =
      bytes_whole (front ++ take b (section_of n x ++ t)) x t (width_of f) n (length front) b (drop_at front (take b (section_of n x ++ t)) (length front) refl) h (omega arith)
  restored-whole (suc l) n x front t b v h g c =
      let k = width_of f in
      let w = wavelet_of f in
      let a = low_of f x in
      let body = body_of f l (approx_length n) a in
      let d = high_of f x in
      let r = section_of (details_length n) d ++ t in
      let s = front ++ take b (body ++ r) in
      let z = body_size k l (approx_length n) in
      let whole : (body ++ section_of (details_length n) d) ++ t ≡ body ++ r = append_assoc body (section_of (details_length n) d) t in
      let ea = length-low f x n h in
      let lb = body-length f l (approx_length n) a ea in
      let sw = split-width k n in
      let st = step (smallest_of w) (two-below w) l n g in
      let inner : restored_at (width_of f) s l (approx_length n) (length front) ≡ a = restored-whole l (approx_length n) a front r b (u.low-bytes x) ea st.1 (omega arith) in
      let outer : bytes_at k s (details_length n) (length front + z) ≡ d =
      bytes_whole s d t k (details_length n) (length front + z) (b - z) (past front body r z b lb (omega arith)) (length_high f x n h) (omega arith) in
      subst (λ (y : List ℕ). restored_at (width_of f) (front ++ take b y) (suc l) n (length front) ≡ x) (sym whole)
      (ap₂ (back k) inner outer ∙ ap (λ g. g a d) (sym (back_is f int)) ∙ u.there x n v h (omega (arith, st.0, two-below w)))

  -- sections of which the first b bytes are there: those that are whole restore the approximations of the level that they reach
  pub restored-cut : (l n : ℕ) (x front t : List ℕ) (b : ℕ) → Bytes x → length x ≡ width_of f * n → l ≤ depth_of (wavelet_of f) n → body_size (width_of f) 0 (count_at l n) ≤ b
      → restored_at (width_of f) (front ++ take b (body_of f l n x ++ t)) (whole_in (width_of f) l n b) (count_at (l - whole_in (width_of f) l n b) n) (length front)
      ≡ approx_at f (l - whole_in (width_of f) l n b) x
  unfolding laid_out after_levels whole_in
  restored-cut zero n x front t b v h g c = restored-whole zero n x front t b v h g c
  restored-cut (suc l) n x front t b v h g c =
      let k = width_of f in
      let a = low_of f x in
      let body = body_of f l (approx_length n) a in
      let d = section_of (details_length n) (high_of f x) in
      let whole : (body ++ d) ++ t ≡ body ++ (d ++ t) = append_assoc body d t in
      let w = wavelet_of f in
      let st = step (smallest_of w) (two-below w) l n g in
      ⊎_elim
      (λ (i : b < body_size k (suc l) n).
      let m = whole_in k l (approx_length n) b in
      let e : suc l - m ≡ suc (l - m) = omega (arith, whole-most k l (approx_length n) b) in
      rw (lt-leb (body_size k (suc l) n) b i, e, whole) (restored-cut l (approx_length n) a front (d ++ t) b (u.low-bytes x) (length-low f x n h) st.1 c))
      (λ (i : body_size k (suc l) n ≤ b).
      let e : suc l - suc l ≡ 0 = omega arith in
      rw (le-leb (body_size k (suc l) n) b i, e) (restored-whole (suc l) n x front t b v h g i))
      (lt-or-le b (body_size k (suc l) n))
