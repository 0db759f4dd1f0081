-- Parts that are copied, for `fetch` and `build`.
use mathlib.Core.List.{List, ◌++◌}
use mathlib.Core.Path.{◌≡◌, refl, sym, ap, ◌∙◌}
use Prim.Native.Nat.{ℕ, suc, ◌+◌, ◌-◌, ◌*◌, ◌≤◌}
use native.Mathlib.Nat.{add-sub_cancel_left}
use native.Mathlib.Omega.{arith}
use lib.ListN.{length, take, drop, length-drop}
use lib.Seq.{length-take-le, take_at}
use Rattle.levels_filter.proofs.Integers.{each_width}
use Rattle.levels_filter.specs.declared.filter.Filter.{Filter}
use Rattle.base_lengths.specs.Lengths.{approx_length, details_length, smallest_of}
use Rattle.base_lengths.specs.Levels.{depth_of}
use Rattle.base_lengths.proofs.Depths.{step, two-below}
use Rattle.levels_filter.proofs.Lists.{later, put_front}
use Rattle.filter_cdf53i.specs.Bands.{back}
use Rattle.levels_filter.specs.Filters.{width_of, wavelet_of, back_of, Integers}
use Rattle.file_open.specs.Files.{body_size}
use Rattle.file_open.specs.Walks.{bytes_at, restored_at}

-- a part from k on of j bytes, where j is known by another name
pub piece : (s : List ℕ) (k j b : ℕ) → j ≡ b → take (k + j - k) (drop k s) ≡ take b (drop k s)
piece s k j b e = ap (λ (i : ℕ). take i (drop k s)) (add-sub_cancel_left k j ∙ e)

pub piece-length : (s : List ℕ) (k b : ℕ) → k + b ≤ length s → length (take b (drop k s)) ≡ b
piece-length s k b h = length-take-le b (drop k s) (omega (arith, length-drop k s))

-- the levels of the code
pub restore-none : (k : ℕ) (s : List ℕ) (l n at : ℕ) → l ≡ 0 → bytes_at k s n at ≡ restored_at k s l n at
unfolding restored_at
restore-none k s l n at e = ap (λ (j : ℕ). restored_at k s j n at) (sym e)

-- an integer filter takes a level back by its width alone
pub back_is : (f : Filter) → Integers f → back_of f ≡ back (width_of f)
back_is = each_width (λ k low high b. b ≡ back k) (λ k w. refl)

restore-more : (f : Filter) → Integers f → (s : List ℕ) (l n at place : ℕ) → (l ≡ 0 → ⊥) → place ≡ at + body_size (width_of f) (l - 1) (approx_length n)
    → back_of f (restored_at (width_of f) s (l - 1) (approx_length n) at) (bytes_at (width_of f) s (details_length n) place) ≡ restored_at (width_of f) s l n at
unfolding restored_at
restore-more f i s l n at place h e =
    let q : suc (l - 1) ≡ l = omega arith in
    rw (back_is f i, e) (ap (λ (j : ℕ). restored_at (width_of f) s j n at) q)

-- a level more runs
level : (f : Filter) (l n : ℕ) → l ≤ depth_of (wavelet_of f) n → (l ≡ 0 → ⊥) → (smallest_of (wavelet_of f) ≤ n) × (l - 1 ≤ depth_of (wavelet_of f) (approx_length n))
level f l n d h =
    let e : suc (l - 1) ≤ depth_of (wavelet_of f) n = omega (arith, d, h) in
    step (smallest_of (wavelet_of f)) (two-below (wavelet_of f)) (l - 1) n e

pub level-long : (f : Filter) (l n : ℕ) → l ≤ depth_of (wavelet_of f) n → (l ≡ 0 → ⊥) → smallest_of (wavelet_of f) ≤ n
level-long f l n d h = (level f l n d h).0

pub level-deep : (f : Filter) (l n : ℕ) → l ≤ depth_of (wavelet_of f) n → (l ≡ 0 → ⊥) → l - 1 ≤ depth_of (wavelet_of f) (approx_length n)
level-deep f l n d h = (level f l n d h).1

-- the samples of the level below, which are in front of u, with the details at q: the samples of this level
pub whole : (f : Filter) → Integers f → (s : List ℕ) (l n at q : ℕ) (u o : List ℕ) → (l ≡ 0 → ⊥) → q ≡ at + body_size (width_of f) (l - 1) (approx_length n)
    → u ≡ restored_at (width_of f) s (l - 1) (approx_length n) at ++ drop (width_of f * approx_length n) o → length (restored_at (width_of f) s (l - 1) (approx_length n) at) ≡ width_of f * approx_length n
    → back_of f (take (width_of f * approx_length n) u) (bytes_at (width_of f) s (details_length n) q) ≡ restored_at (width_of f) s l n at
whole f i s l n at q u o h e made size =
    let k = width_of f * approx_length n in
    let r = restored_at (width_of f) s (l - 1) (approx_length n) at in
    let front : take k u ≡ r = ap (λ (x : List ℕ). take k x) made ∙ take_at r (drop k o) k size in
    ap (λ (x : List ℕ). back_of f x (bytes_at (width_of f) s (details_length n) q)) front ∙ restore-more f i s l n at q h e

-- what is behind a front of j bytes, and behind more
pub behind : (r x y : List ℕ) (j n : ℕ) → y ≡ r ++ drop j x → length r ≡ j → j ≤ n → drop n y ≡ drop n x
behind r x y j n e h l = rw e (put_front x r j n h l).1

-- for the code that restores
pub ruleset restoring = (level-long, level-deep, restore-none, whole, later, behind)
