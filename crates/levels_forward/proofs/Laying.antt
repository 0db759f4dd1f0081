-- Bands laid out level by level, after counts of c bytes. Looks into no filter.
use mathlib.Core.Bool.{Bool, true, false}
use mathlib.Core.Path.{◌≡◌, refl, sym, ap, ◌∙◌}
use mathlib.Core.List.{List, ◌++◌, append_assoc}
use Prim.Native.Nat.{ℕ, zero, suc, ◌+◌, ◌-◌, ◌*◌, ◌≤◌, ◌<◌}
use native.Mathlib.Omega.{arith}
use lib.ListN.{length, take, drop, length-append}
use lib.Seq.{take_at, drop_at, length-take-le}
use Rattle.base_samples.specs.Le.{le_bytes, stored}
use Rattle.base_samples.proofs.LeLaws.{length-le_bytes, length-stored, stored_is}
use Rattle.base_lengths.specs.Lengths.{approx_length, details_length}
use Rattle.levels_filter.specs.declared.filter.Filter.{Filter}
use Rattle.levels_filter.specs.Filters.{width_of, low_of, high_of}
use Rattle.levels_filter.specs.Pyramids.{pyramid, count_size, laid_out, laid_size}
use Rattle.levels_filter.proofs.Cuts.{split-width, half-within}
use Rattle.levels_filter.proofs.Lists.{put-end, later}
use Rattle.levels_forward.specs.Levels.{LevelLaid}

-- without counts the bands are the pyramid
pub no-counts : (f : Filter) (l n : ℕ) (x : List ℕ) → laid_out f 0 l n x ≡ pyramid f l x
unfolding laid_out pyramid le_bytes
no-counts f zero n x = refl
no-counts f (suc l) n x = ap (λ (r : List ℕ). r ++ high_of f x) (no-counts f l (approx_length n) (low_of f x))

-- no count stored
pub stored-none : (o : List ℕ) (p n : ℕ) → stored 0 o p n ≡ o
unfolding stored le_bytes
stored-none o p n = refl

-- a count of c bytes stored at p, and y put after it, from r on, up to the end
pub count-laid : (c : ℕ) (o o₁ y : List ℕ) (p n r : ℕ) → r ≡ p + c → p + c ≤ length o → o₁ ≡ stored c o p n
    → take r o₁ ++ (y ++ drop (length o₁ - r) (drop r o₁)) ≡ take p o ++ (le_bytes c n ++ y)
count-laid c o o₁ y p n r e h q =
    let long : length o₁ ≡ length o = ap length q ∙ length-stored c o p n in
    let a = take p o ++ le_bytes c n in
    let la : length a ≡ r = length-append (take p o) (le_bytes c n) ∙ omega (arith, length-take-le p o (omega arith), length-le_bytes c n) in
    let front : take r o₁ ≡ a = ap (take r) (q ∙ stored_is c o p n h ∙ sym (append_assoc (take p o) (le_bytes c n) (drop (p + c) o))) ∙ take_at a (drop (p + c) o) r la in
    put-end r o₁ y (omega arith) ∙ rw front (append_assoc (take p o) (le_bytes c n) y)

pub size-more : (b : Bool) (k l n : ℕ) → 0 < l → laid_size (count_size b) k l n ≡ laid_size (count_size b) k (l - 1) (approx_length n) + count_size b + k * details_length n
size-more true k l n z = omega (arith, split-width k n)
size-more false k l n z = omega (arith, split-width k n)

-- the bands of no level
pub laid_none : (f : Filter) (c l n : ℕ) (x : List ℕ) → l ≡ 0 → laid_out f c l n x ≡ le_bytes c n ++ x
unfolding laid_out
laid_none f c l n x e = ap (λ (i : ℕ). laid_out f c i n x) e

-- of a level that leaves t' and o': what the levels below it are lent, and what is there when they have put y over the front of o'
module _ (b : Bool) {f : Filter} {l n : ℕ} {x t o : List ℕ} {r : ℕ} {t' o' : List ℕ} (h : LevelLaid f (count_size b) l n x t o r t' o') (p : 0 < l)
    (s : length o ≡ laid_size (count_size b) (width_of f) l n) where
  -- the bytes of its approximations
  abbrev low_bytes : ℕ
  low_bytes = width_of f * approx_length n

  inside : r ≤ length o
  inside = omega (arith, h.place, s, size-more b (width_of f) l n p)

  pub fits_below : length o' ≡ length o → r ≤ length o'
  fits_below e = omega (arith, inside)

  pub size_below : length o' ≡ length o → length (take r o') ≡ laid_size (count_size b) (width_of f) (l - 1) (approx_length n)
  size_below e = length-take-le r o' (fits_below e) ∙ h.place

  pub laid_more : (y : List ℕ) → y ≡ laid_out f (count_size b) (l - 1) (approx_length n) (take low_bytes t') → y ++ drop r o' ≡ laid_out f (count_size b) l n x
  unfolding laid_out
  laid_more y q =
      let below = laid_out f (count_size b) (l - 1) (approx_length n) in
      let own = le_bytes (count_size b) (details_length n) ++ high_of f x in
      let m : suc (l - 1) ≡ l = omega arith in
      ap (λ (j : List ℕ). y ++ j) (ap (drop r) h.details ∙ drop_at (take r o) own r (length-take-le r o inside))
      ∙ ap (λ (j : List ℕ). j ++ own) (q ∙ ap below (ap (take low_bytes) h.approx ∙ take_at (low_of f x) (drop low_bytes t) low_bytes h.long))
      ∙ ap (λ (j : ℕ). laid_out f (count_size b) j n x) m

  -- behind the n samples the area that it wrote to is as it was
  pub area-kept : (a : List ℕ) → drop low_bytes a ≡ drop low_bytes t' → drop (width_of f * n) a ≡ drop (width_of f * n) t
  area-kept a e = later low_bytes (width_of f * n) a t (half-within (width_of f) n) (e ∙ ap (drop low_bytes) h.approx ∙ drop_at (low_of f x) (drop low_bytes t) low_bytes h.long)
