-- The sections that a walk went over are the sections of the samples that they restore: counts and bands come back as they stand. Each of the integer filters.
use mathlib.Core.Bool.{Bool, true, false, cond, not}
use mathlib.Core.List.{List, ◌++◌}
use mathlib.Core.Path.{◌≡◌, refl, sym, ap, ap₂, subst, ◌∙◌}
use Prim.Native.Nat.{ℕ, zero, suc, ◌+◌, ◌-◌, ◌*◌, ◌≤◌}
use native.Mathlib.Omega.{arith}
use lib.Dec.{ltb, eqb}
use lib.ListN.{length, take, drop, length-drop}
use lib.Seq.{length-take-le, take-add, drop-drop}
use Rattle.base_answers.proofs.Passed.{right}
use Rattle.base_lengths.specs.Lengths.{approx_length, details_length, smallest_of}
use Rattle.base_lengths.specs.Levels.{depth_of}
use Rattle.base_lengths.proofs.Depths.{step, two-below}
use Rattle.base_samples.specs.Le.{le_at, le_bytes, Bytes}
use Rattle.base_samples.proofs.LeLaws.{le_bytes-at}
use Rattle.filter_cdf53i.specs.Bands.{back}
use Rattle.levels_filter.specs.declared.filter.Filter.{Filter}
use Rattle.levels_filter.specs.Filters.{width_of, wavelet_of, low_of, high_of, back_of, Integers}
use Rattle.levels_filter.specs.Pyramids.{laid_out}
use Rattle.levels_filter.proofs.Cuts.{split-width}
use Rattle.law_levels.proofs.Lengths.{length_back}
use Rattle.law_levels.proofs.Undone.{Undoes, undoes, bytes_take, bytes_drop}
use Rattle.file_open.specs.declared.walk.Way.{Way}
use Rattle.file_open.specs.declared.walk.Way.TheVariants.{Went, Short, Wrong}
use Rattle.file_open.specs.Files.{section_of, body_of, body_size}
use Rattle.file_open.specs.Walks.{one_of, go_on, walk_of, bytes_at, restored_at}
use Rattle.file_open.proofs.Ways.{one-went, walk-size}
use Rattle.file_open.proofs.Parts.{back_is}

-- a walk goes only past a section whose count is right
one-count : (s : List ℕ) (k c j at q : ℕ) → one_of s k c j at ≡ Went q → le_at 4 s at ≡ c
unfolding one_of
one-count s k c j at q e = first (ltb (length s - at) 4) e
  where
    second : (t : Bool) → (t ≡ false → le_at 4 s at ≡ c)
        → cond t (Wrong j (le_at 4 s at)) (cond (ltb (length s - at - 4) (k * c)) (Short j) (Went (at + 4 + k * c))) ≡ Went q → le_at 4 s at ≡ c
    second true i e = let z : ◌≡◌ {A = ℕ} 0 1 = cc in absurd (let y : 1 ≤ 0 = omega arith in omega arith)
    second false i e = i refl

    first : (t : Bool)
        → cond t (Short j) (cond (not (eqb (le_at 4 s at) c)) (Wrong j (le_at 4 s at)) (cond (ltb (length s - at - 4) (k * c)) (Short j) (Went (at + 4 + k * c)))) ≡ Went q → le_at 4 s at ≡ c
    first true e = let z : ◌≡◌ {A = ℕ} 0 1 = cc in absurd (let y : 1 ≤ 0 = omega arith in omega arith)
    first false e = second (not (eqb (le_at 4 s at) c)) (right (le_at 4 s at) c) e

-- a walk that went on had gone on before
gone-on : (v : Way) (g : ℕ → Way) (q : ℕ) → go_on v g ≡ Went q → (m : ℕ) × (v ≡ Went m) × (g m ≡ Went q)
gone-on (Went m) g q e = (m, refl, e)
gone-on (Short j) g q e = let z : ◌≡◌ {A = ℕ} 0 1 = cc in absurd (let y : 1 ≤ 0 = omega arith in omega arith)
gone-on (Wrong j found) g q e = let z : ◌≡◌ {A = ℕ} 0 1 = cc in absurd (let y : 1 ≤ 0 = omega arith in omega arith)

-- the sections of l levels of n samples that stand at a place, and the samples that they restore
pub record Sections (f : Filter) (s : List ℕ) (l n at : ℕ) : Type 0 where
  pub bytes : Bytes (restored_at (width_of f) s l n at)
  pub size : length (restored_at (width_of f) s l n at) ≡ width_of f * n
  pub body : take (body_size (width_of f) l n) (drop at s) ≡ body_of f l n (restored_at (width_of f) s l n at)

module _ (f : Filter) (int : Integers f) (s : List ℕ) (bs : Bytes s) where
  abbrev k : ℕ
  k = width_of f

  -- its level undoes itself
  u : Undoes f
  u = undoes f int

  -- a section's samples are bytes, and as many as its count says
  bytes-bytes : (c at : ℕ) → Bytes (bytes_at k s c at)
  bytes-bytes c at = bytes_take (k * c) (drop (at + 4) s) (bytes_drop (at + 4) s bs)

  bytes-size : (c at : ℕ) → at + 4 + k * c ≤ length s → length (bytes_at k s c at) ≡ k * c
  bytes-size c at h = length-take-le (k * c) (drop (at + 4) s) (omega (arith, length-drop (at + 4) s))

  -- one section: its count, then its samples
  section-back : (c j at q : ℕ) → at ≤ length s → one_of s k c j at ≡ Went q → (take (4 + k * c) (drop at s) ≡ section_of c (bytes_at k s c at)) × (at + 4 + k * c ≤ length s)
  section-back c j at q h e =
      let i = one-went s k c j at q h e in
      let count : take 4 (drop at s) ≡ le_bytes 4 c = sym (le_bytes-at s bs 4 at (omega (arith, i.exact, i.within))) ∙ ap (le_bytes 4) (one-count s k c j at q e) in
      (take-add 4 (k * c) (drop at s) ∙ ap₂ (λ (a b : List ℕ). a ++ take (k * c) b) count (drop-drop 4 at s), omega (arith, i.exact, i.within))

  -- all of them, whatever stands behind: the two bands of what a level restores are those that stand there
  pub sections-back : (l n at q : ℕ) → at ≤ length s → l ≤ depth_of (wavelet_of f) n → walk_of s k l n at ≡ Went q → Sections f s l n at
  unfolding walk_of restored_at laid_out
  sections-back zero n at q h g e =
      let one = section-back n 1 at q h e in
      let z : body_size k 0 n ≡ 4 + k * n = omega arith in
      record { bytes = bytes-bytes n at; size = bytes-size n at one.1; body = ap (λ (m : ℕ). take m (drop at s)) z ∙ one.0 }
  sections-back (suc l) n at q h g e =
      let c = approx_length n in
      let m = details_length n in
      let z = body_size k l c in
      let w = wavelet_of f in
      let st = step (smallest_of w) (two-below w) l n g in
      let two : 2 ≤ n = omega (arith, st.0, two-below w) in
      let on = gone-on (walk_of s k l c at) (λ p. one_of s k m (suc l + 1) p) q e in
      let before = walk-size l s k c at on.0 h on.1 in
      let place : at + z ≤ length s = omega (arith, before.0, before.1) in
      let here : one_of s k m (suc l + 1) (at + z) ≡ Went q = ap (one_of s k m (suc l + 1)) (sym before.0) ∙ on.2 in
      let one = section-back m (suc l + 1) (at + z) q place here in
      let i = sections-back l c at on.0 h st.1 on.1 in
      let a = restored_at k s l c at in
      let d = bytes_at k s m (at + z) in
      let bd = bytes-bytes m (at + z) in
      let ed = bytes-size m (at + z) one.1 in
      let x = back_of f a d in
      let same : x ≡ back k a d = ap (λ b. b a d) (back_is f int) in
      let low : low_of f (back k a d) ≡ a = ap (low_of f) (sym same) ∙ u.again-low a d n i.bytes bd i.size ed two in
      let high : high_of f (back k a d) ≡ d = ap (high_of f) (sym same) ∙ u.again-high a d n i.bytes bd i.size ed two in
      let sizes : body_size k (suc l) n ≡ z + (4 + k * m) = omega (arith, split-width k n) in
      record {
        bytes = subst Bytes same (u.back-bytes a d);
        size = ap length (sym same) ∙ length_back f a d c m i.size ed ∙ omega (arith, i.size, ed, split-width k n);
        body = ap (λ (j : ℕ). take j (drop at s)) sizes
            ∙ take-add z (4 + k * m) (drop at s)
            ∙ ap₂ (λ (y t : List ℕ). y ++ take (4 + k * m) t) i.body (drop-drop z at s)
            ∙ ap₂ (λ (y t : List ℕ). y ++ t) (ap (body_of f l c) (sym low)) (one.0 ∙ ap (section_of m) (sym high));
      }
