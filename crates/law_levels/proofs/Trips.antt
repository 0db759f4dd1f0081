-- The pyramid of any filter by its approximations and its details, level by level from either end; and that levels and back, by the lengths that belong to
-- them, are the levels undone one by one. Of a filter they know how many bytes it gives, and no more.
use mathlib.Core.List.{List, [], ◌∷◌, ◌++◌, append_assoc, append-nil}
use mathlib.Core.Path.{◌≡◌, refl, sym, ap, ap₂, ◌∙◌}
use Prim.Native.Nat.{ℕ, zero, suc, ◌+◌, ◌-◌, ◌*◌, ◌≤◌, ◌<◌}
use native.Mathlib.Nat.{mul-add, mul-zero, zero-add, suc-add}
use native.Mathlib.Omega.{arith}
use lib.ListN.{length, take, drop, length-append, length-drop}
use lib.Seq.{take_all, take-append-le, drop-append-le, take_at, drop_at, length-take-le}
use Rattle.base_lengths.specs.Lengths.{approx_length, details_length}
use Rattle.base_lengths.specs.Levels.{after_levels, there_and_back, count_at}
use Rattle.base_lengths.proofs.Counts.{after_last}
use Rattle.levels_filter.specs.declared.filter.Filter.{Filter}
use Rattle.levels_filter.specs.Filters.{width_of, low_of, high_of, back_of}
use Rattle.levels_filter.specs.Pyramids.{approx_at, pyramid, samples_of, details_at, lengths_of, round_trip}
use Rattle.levels_filter.specs.Backward.{total}
use Rattle.law_levels.proofs.Lengths.{length-low, length_high, length_back, length-approx, length-details, count-at-total}

module _ (f : Filter) where
  -- the deepest approximations, then all details
  pub pyramid-parts : (l : ℕ) (x : List ℕ) → pyramid f l x ≡ approx_at f l x ++ details_at f l x
  unfolding pyramid after_levels details_at
  pyramid-parts zero x = sym (append-nil x)
  pyramid-parts (suc l) x =
      ap (λ (k : List ℕ). k ++ high_of f x) (pyramid-parts l (low_of f x))
      ∙ append_assoc (approx_at f l (low_of f x)) (details_at f l (low_of f x)) (high_of f x)

  -- one level more, at the deep end: its details
  pub details-deeper : (l : ℕ) (x : List ℕ) → details_at f (suc l) x ≡ high_of f (approx_at f l x) ++ details_at f l x
  unfolding after_levels details_at
  details-deeper zero x = sym (append-nil (high_of f x))
  details-deeper (suc l) x =
      ap (λ (k : List ℕ). k ++ high_of f x) (details-deeper l (low_of f x))
      ∙ append_assoc (high_of f (approx_at f l (low_of f x))) (details_at f l (low_of f x)) (high_of f x)

  -- what `multi_dwt` gives starts with the two bands that `dwt` gives of as many levels
  pub bands-first : (l : ℕ) (x : List ℕ) → pyramid f (suc l) x ≡ low_of f (approx_at f l x) ++ (high_of f (approx_at f l x) ++ details_at f l x)
  bands-first l x = pyramid-parts (suc l) x ∙ rw (after_last (low_of f) l x, details-deeper l x)

  -- j levels more: the pyramid of the approximations takes their place
  pub pyramid-deeper : (j l : ℕ) (x : List ℕ) → pyramid f (l + j) x ≡ pyramid f j (approx_at f l x) ++ details_at f l x
  unfolding pyramid after_levels details_at
  pyramid-deeper j zero x = rw (zero-add j) (sym (append-nil (pyramid f j x)))
  pyramid-deeper j (suc l) x =
      rw (suc-add l j)
      (ap (λ (k : List ℕ). k ++ high_of f x) (pyramid-deeper j l (low_of f x))
      ∙ append_assoc (pyramid f j (approx_at f l (low_of f x))) (details_at f l (low_of f x)) (high_of f x))

  -- as many bytes as the samples
  pub length-pyramid : (l : ℕ) (x : List ℕ) (n : ℕ) → length x ≡ width_of f * n → length (pyramid f l x) ≡ length x
  length-pyramid l x n e =
      let s = mul-add (width_of f) (count_at l n) (total (lengths_of l n)) in
      ap length (pyramid-parts l x)
      ∙ length-append (approx_at f l x) (details_at f l x)
      ∙ rw (length-approx f l x n e, length-details f l x n e, e) (sym s ∙ ap (λ (m : ℕ). width_of f * m) (count-at-total l n))

  -- where its approximations stand
  pub approx-part : (l : ℕ) (x : List ℕ) (n : ℕ) → length x ≡ width_of f * n → take (width_of f * count_at l n) (pyramid f l x) ≡ approx_at f l x
  approx-part l x n e = rw (pyramid-parts l x) (take_at (approx_at f l x) (details_at f l x) (width_of f * count_at l n) (length-approx f l x n e))

  -- where its details stand
  pub details-part : (l : ℕ) (x : List ℕ) (n : ℕ) → length x ≡ width_of f * n → drop (width_of f * count_at l n) (pyramid f l x) ≡ details_at f l x
  details-part l x n e = rw (pyramid-parts l x) (drop_at (approx_at f l x) (details_at f l x) (width_of f * count_at l n) (length-approx f l x n e))

  -- and where the details of level l + 1 stand
  pub level-part : (m l : ℕ) (x : List ℕ) (n : ℕ) → length x ≡ width_of f * n → l < m
      → take (width_of f * details_length (count_at l n)) (drop (width_of f * count_at (suc l) n) (pyramid f m x)) ≡ high_of f (approx_at f l x)
  unfolding pyramid
  level-part m l x n e h =
      let j = m - suc l in
      let s : l + suc j ≡ m = omega arith in
      let y = approx_at f l x in
      let ey = length-approx f l x n e in
      let ep : length (pyramid f j (low_of f y)) ≡ width_of f * count_at (suc l) n =
      length-pyramid j (low_of f y) (approx_length (count_at l n)) (length-low f y (count_at l n) ey) ∙ length-low f y (count_at l n) ey ∙ ap (λ (m : ℕ). width_of f * m) (sym (after_last approx_length l n)) in
      ap (λ (i : ℕ). take (width_of f * details_length (count_at l n)) (drop (width_of f * count_at (suc l) n) (pyramid f i x))) (sym s)
      ∙ rw (pyramid-deeper (suc j) l x, append_assoc (pyramid f j (low_of f y)) (high_of f y) (details_at f l x), drop_at (pyramid f j (low_of f y)) (high_of f y ++ details_at f l x) (width_of f * count_at (suc l) n) ep)
      (take_at (high_of f y) (details_at f l x) (width_of f * details_length (count_at l n)) (length_high f y (count_at l n) ey))

  -- ---- and back

  -- a length more, of the level that comes last
  pub samples-more : (ms : List ℕ) (a d e : List ℕ) (m : ℕ) → length d ≡ width_of f * total ms → length e ≡ width_of f * m
      → samples_of f a (d ++ e) (ms ++ (m ∷ [])) ≡ back_of f (samples_of f a d ms) e
  unfolding samples_of total
  samples-more [] a [] e m p q = ap (back_of f a) (take_all (width_of f * m) e (omega arith))
  samples-more [] a (b ∷ d) e m p q = absurd (omega (arith, mul-zero (width_of f)))
  samples-more (j ∷ ms) a d e m p q =
      let k = width_of f * j in
      let s = mul-add (width_of f) j (total ms) in
      let h : k ≤ length d = omega arith in
      ap₂ (λ (t c : List ℕ). samples_of f (back_of f a t) c (ms ++ (m ∷ []))) (take-append-le k d e h) (drop-append-le k d e h)
      ∙ samples-more ms (back_of f a (take k d)) (drop k d) e m (length-drop k d ∙ omega arith) q

  -- levels and back
  pub samples-trip : (l : ℕ) (x : List ℕ) (n : ℕ) → length x ≡ width_of f * n → samples_of f (approx_at f l x) (details_at f l x) (lengths_of l n) ≡ round_trip f l x
  unfolding after_levels details_at lengths_of there_and_back samples_of
  samples-trip zero x n e = refl
  samples-trip (suc l) x n e =
      let y = low_of f x in
      let ey = length-low f x n e in
      samples-more (lengths_of l (approx_length n)) (approx_at f l y) (details_at f l y) (high_of f x) (details_length n) (length-details f l y (approx_length n) ey) (length_high f x n e)
      ∙ ap (λ (k : List ℕ). back_of f k (high_of f x)) (samples-trip l y (approx_length n) ey)

  -- as many bytes as the bands
  pub length-samples : (ms : List ℕ) (a d : List ℕ) (n : ℕ) → length a ≡ width_of f * n → length d ≡ width_of f * total ms → length (samples_of f a d ms) ≡ length a + length d
  unfolding samples_of total
  length-samples [] a d n ea ed = omega (arith, ed, mul-zero (width_of f))
  length-samples (m ∷ ms) a d n ea ed =
      let k = width_of f * m in
      let s = mul-add (width_of f) m (total ms) in
      let et : length (take k d) ≡ k = length-take-le k d (omega arith) in
      let ec : length (drop k d) ≡ width_of f * total ms = length-drop k d ∙ omega arith in
      let eb = length_back f a (take k d) n m ea et in
      length-samples ms (back_of f a (take k d)) (drop k d) (n + m) (eb ∙ omega (arith, ea, et, mul-add (width_of f) n m)) ec ∙ omega (arith, eb, et, ec, ed, s)
