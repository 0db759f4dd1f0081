-- Where a walk that went on stands, and where one that stopped does: all sections before are there, and the one where it stops is cut or has a wrong count.
use mathlib.Core.Bool.{Bool, true, false, cond, not}
use mathlib.Core.List.{List}
use mathlib.Core.Path.{◌≡◌, refl, sym, ap, subst, ◌∙◌}
use Prim.Native.Nat.{ℕ, zero, suc, ◌+◌, ◌-◌, ◌*◌, ◌^◌, ◌≤◌, ◌<◌}
use native.Mathlib.Nat.{mul-le-mul_left, mul-le-mul_right}
use native.Mathlib.Omega.{arith}
use borrow.Author.Tests.{ltb-true, ltb-false, eqb-true, eqb-false, eq-eqb, ne_eqb}
use lib.Dec.{ltb, eqb}
use lib.ListN.{length}
use Rattle.base_answers.proofs.Passed.{off}
use Rattle.base_samples.specs.Le.{le_at}
use Rattle.base_lengths.specs.Lengths.{approx_length, details_length}
use Rattle.base_lengths.specs.Levels.{after_levels, count_at}
use Rattle.base_lengths.proofs.Counts.{count-at-le}
use Rattle.levels_filter.proofs.Cuts.{split-width}
use Rattle.file_open.specs.declared.walk.Way.{Way}
use Rattle.file_open.specs.declared.walk.Way.TheVariants.{Went, Short, Wrong}
use Rattle.file_open.specs.Files.{body_size}
use Rattle.file_open.specs.Walks.{one_of, go_on, walk_of, last_count}

-- a byte times a u32 is small
pub small : (k n : ℕ) → k < 256 → n < 4294967296 → k * n < 1099511627776
small k n p q = let a : k * n ≤ 256 * n = mul-le-mul_right n (omega arith) in omega arith

-- ways of two kinds are not the same
abbrev kind_of : Way → ℕ
kind_of (Went q) = 0
kind_of (Short j) = 1
kind_of (Wrong j found) = 2

pub apart : {A : Type 0} (u v : Way) → eqb (kind_of u) (kind_of v) ≡ false → u ≡ v → A
apart u v d e = off d (eq-eqb (kind_of u) (kind_of v) (ap kind_of e))

-- ---- one section

module _ (s : List ℕ) (k c i p : ℕ) where
  -- the four ways that it can have, and what each tells
  pub one-by : (P : Way → Type 0) → (length s - p < 4 → P (Short i)) → (4 ≤ length s - p → (le_at 4 s p ≡ c → ⊥) → P (Wrong i (le_at 4 s p)))
      → (4 ≤ length s - p → le_at 4 s p ≡ c → length s - p - 4 < k * c → P (Short i)) → (4 ≤ length s - p → le_at 4 s p ≡ c → k * c ≤ length s - p - 4 → P (Went (p + 4 + k * c)))
      → P (one_of s k c i p)
  unfolding one_of
  one-by P broken wrong short went = pick (ltb (length s - p) 4) (eqb (le_at 4 s p) c) (ltb (length s - p - 4) (k * c)) refl refl refl
    where
      pick : (x y z : Bool) → ltb (length s - p) 4 ≡ x → eqb (le_at 4 s p) c ≡ y → ltb (length s - p - 4) (k * c) ≡ z
          → P (cond x (Short i) (cond (not y) (Wrong i (le_at 4 s p)) (cond z (Short i) (Went (p + 4 + k * c)))))
      pick true y z ex ey ez = broken (ltb-true (length s - p) 4 ex)
      pick false false z ex ey ez = wrong (ltb-false (length s - p) 4 ex) (eqb-false (le_at 4 s p) c ey)
      pick false true true ex ey ez = short (ltb-false (length s - p) 4 ex) (eqb-true (le_at 4 s p) c ey) (ltb-true (length s - p - 4) (k * c) ez)
      pick false true false ex ey ez = went (ltb-false (length s - p) 4 ex) (eqb-true (le_at 4 s p) c ey) (ltb-false (length s - p - 4) (k * c) ez)

-- a walk past a section of c samples stands right behind it, and in the slice
pub record At (s : List ℕ) (w c at p : ℕ) : Type 0 where
  pub exact : p ≡ at + 4 + w * c
  pub within : p ≤ length s

pub one-went : (s : List ℕ) (w c k at p : ℕ) → at ≤ length s → one_of s w c k at ≡ Went p → At s w c at p
one-went s w c k at p h =
    one-by s w c k at (λ v. v ≡ Went p → At s w c at p) (λ _. apart _ _ refl) (λ _ _. apart _ _ refl) (λ _ _ _. apart _ _ refl)
    (λ four _ room e. let z : at + 4 + w * c ≡ p = cc in record { exact = sym z; within = omega arith })

-- v stops in section j
abbrev pub StopsIn : ℕ → Way → Type 0
StopsIn j (Went q) = ⊥
StopsIn j (Short i) = j ≡ i
StopsIn j (Wrong i found) = j ≡ i

pub one-stops : (s : List ℕ) (k c i p j : ℕ) → StopsIn j (one_of s k c i p) → j ≡ i
one-stops s k c i p j = one-by s k c i p (λ v. StopsIn j v → j ≡ i) (λ _ h. h) (λ _ _ h. h) (λ _ _ _ h. h) (λ _ _ _ h. absurd h)

-- what goes on from a way that stops is that way
pub go-stops : (v : Way) (g : ℕ → Way) (j : ℕ) → StopsIn j v → go_on v g ≡ v
go-stops (Went q) g j h = absurd h
go-stops (Short i) g j h = refl
go-stops (Wrong i found) g j h = refl

-- ---- many sections

-- what goes on from a walk that went on
pub go-went : (v : Way) (g : ℕ → Way) (p : ℕ) → go_on v g ≡ Went p → (q : ℕ) × (v ≡ Went q) × (g q ≡ Went p)
go-went (Went q) g p e = (q, refl, e)
go-went (Short k) g p e = apart _ _ refl e
go-went (Wrong k f) g p e = apart _ _ refl e

-- it stands right behind its sections
pub walk-size : (l : ℕ) (s : List ℕ) (k n at p : ℕ) → at ≤ length s → walk_of s k l n at ≡ Went p → (p ≡ at + body_size k l n) × (p ≤ length s)
unfolding walk_of
walk-size zero s k n at p h e = let i = one-went s k n 1 at p h e in (omega (arith, i.exact), i.within)
walk-size (suc l) s k n at p h e =
    let g = go-went (walk_of s k l (approx_length n) at) (λ q. one_of s k (details_length n) (suc l + 1) q) p e in
    let i = walk-size l s k (approx_length n) at g.0 h g.1 in
    let j = one-went s k (details_length n) (suc l + 1) g.0 p i.1 g.2 in
    (omega (arith, i.0, j.exact, split-width k n), j.within)

-- where section j stands, behind the sections before it, if the sections to it restore m samples
abbrev pub stand_of : ℕ → ℕ → ℕ → ℕ → ℕ
stand_of k p j m = p + body_size k (j - 1) m - (4 + k * last_count (j - 1) m)

-- a walk v that stops in section j: it is one of the sections, those before it are there, and v is the way of this one
pub record Stopped (s : List ℕ) (k l p j m : ℕ) (v : Way) : Type 0 where
  pub some : 1 ≤ j
  pub most : j ≤ l + 1
  pub within : stand_of k p j m ≤ length s
  pub before : 2 ≤ j → walk_of s k (j - 2) (approx_length m) p ≡ Went (stand_of k p j m)
  pub here : one_of s k (last_count (j - 1) m) j (stand_of k p j m) ≡ v

-- the last of some levels has no more samples than there are
pub last-most : (l n : ℕ) → last_count l n ≤ n
last-most l n = pick (eqb l 0)
  where
    pick : (b : Bool) → cond b n (details_length n) ≤ n
    pick true = omega arith
    pick false = omega arith

-- and from level 1 on it has details
pub last-details : (i n : ℕ) → 1 ≤ i → last_count i n ≡ details_length n
last-details i n one = ap (λ b. cond b n (details_length n)) (ne_eqb i 0 (λ e. omega arith))

-- and stands behind the others
pub last-stands : (k l n p q : ℕ) → q ≡ p + body_size k l (approx_length n) → stand_of k p (suc l + 1) n ≡ q
last-stands k l n p q e =
    let b : suc l + 1 - 1 ≡ suc l = omega arith in
    rw (b, last-details (suc l) n (omega arith)) (omega (arith, e, split-width k n))

stops : (l : ℕ) (s : List ℕ) (k n p j : ℕ) → p ≤ length s → StopsIn j (walk_of s k l n p) → Stopped s k l p j (count_at (l + 1 - j) n) (walk_of s k l n p)
unfolding walk_of after_levels
stops zero s k n p j h st =
    let e = one-stops s k n 1 p j st in
    let at : stand_of k p 1 n ≡ p = omega arith in
    subst (λ i. Stopped s k 0 p i (count_at (0 + 1 - i) n) (one_of s k n 1 p)) (sym e)
    (record { some = omega arith; most = omega arith; within = omega (arith, at, h); before = λ two. absurd (omega arith); here = ap (λ q. one_of s k n 1 q) at })
stops (suc l) s k n p j h st = pick (walk_of s k l (approx_length n) p) refl (stops l s k (approx_length n) p j h) st
  where
    -- it stopped before
    early : (v : Way) → Stopped s k l p j (count_at (l + 1 - j) (approx_length n)) v → Stopped s k (suc l) p j (count_at (suc l + 1 - j) n) v
    early v i =
        let b : suc (l + 1 - j) ≡ suc l + 1 - j = omega (arith, i.most) in
        subst (λ d. Stopped s k (suc l) p j (count_at d n) v) b (record { some = i.some; most = omega (arith, i.most); within = i.within; before = i.before; here = i.here })

    -- it stops in the last section
    late : (q : ℕ) → walk_of s k l (approx_length n) p ≡ Went q → let v = one_of s k (details_length n) (suc l + 1) q in Stopped s k (suc l) p (suc l + 1) (count_at (suc l + 1 - (suc l + 1)) n) v
    late q e =
        let z = walk-size l s k (approx_length n) p q h e in
        let at = last-stands k l n p q z.0 in
        let none : 0 ≡ suc l + 1 - (suc l + 1) = omega arith in
        let a : suc l + 1 - 2 ≡ l = omega arith in
        let b : suc l + 1 - 1 ≡ suc l = omega arith in
        subst (λ d. Stopped s k (suc l) p (suc l + 1) (count_at d n) (one_of s k (details_length n) (suc l + 1) q)) none
        (record {
          some = omega arith;
          most = omega arith;
          within = omega (arith, at, z.1);
          before = λ two. ap (λ i. walk_of s k i (approx_length n) p) a ∙ e ∙ ap (λ x. Went x) (sym at);
          here = ap (λ i. one_of s k (last_count i n) (suc l + 1) (stand_of k p (suc l + 1) n)) b ∙ ap (λ c. one_of s k c (suc l + 1) (stand_of k p (suc l + 1) n)) (last-details (suc l) n (omega arith)) ∙ ap (λ x. one_of s k (details_length n) (suc l + 1) x) at;
        })

    pick : (v : Way) → walk_of s k l (approx_length n) p ≡ v
        → (StopsIn j (walk_of s k l (approx_length n) p) → Stopped s k l p j (count_at (l + 1 - j) (approx_length n)) (walk_of s k l (approx_length n) p))
        → let u = go_on v (λ q. one_of s k (details_length n) (suc l + 1) q) in StopsIn j u → Stopped s k (suc l) p j (count_at (suc l + 1 - j) n) u
    pick (Went q) e rest st =
        let i = one-stops s k (details_length n) (suc l + 1) q j st in
        subst (λ i. Stopped s k (suc l) p i (count_at (suc l + 1 - i) n) (one_of s k (details_length n) (suc l + 1) q)) (sym i) (late q e)
    pick (Short i) e rest st = early (Short i) (subst (λ v. StopsIn j v → Stopped s k l p j (count_at (l + 1 - j) (approx_length n)) v) e rest st)
    pick (Wrong i found) e rest st = early (Wrong i found) (subst (λ v. StopsIn j v → Stopped s k l p j (count_at (l + 1 - j) (approx_length n)) v) e rest st)

pub walk-stops : (l : ℕ) (s : List ℕ) (k n p j : ℕ) (v : Way) → p ≤ length s → walk_of s k l n p ≡ v → StopsIn j v → Stopped s k l p j (count_at (l + 1 - j) n) v
walk-stops l s k n p j v h e = subst (λ u. StopsIn j u → Stopped s k l p j (count_at (l + 1 - j) n) u) e (stops l s k n p j h)

-- a section that is cut ends behind the bytes
pub stop-below : (s : List ℕ) (k l p j m : ℕ) → Stopped s k l p j m (Short j) → length s < p + body_size k (j - 1) m
stop-below s k l p j m i =
    let q = stand_of k p j m in
    let c = last_count (j - 1) m in
    let ends : q + (4 + k * c) ≡ p + body_size k (j - 1) m = omega (arith, mul-le-mul_left k (last-most (j - 1) m)) in
    one-by s k c j q (λ v. v ≡ Short j → length s < p + body_size k (j - 1) m) (λ few _. omega (arith, few, ends)) (λ _ _. apart _ _ refl) (λ four _ few _. omega (arith, four, few, ends)) (λ _ _ _. apart _ _ refl)
    i.here

-- so do the sections of a walk that is cut
pub walk-below : (l : ℕ) (s : List ℕ) (k n at j : ℕ) → at ≤ length s → walk_of s k l n at ≡ Short j → length s < at + body_size k l n
walk-below l s k n at j h e =
    let i = walk-stops l s k n at j (Short j) h e refl in
    omega (arith, stop-below s k l at j (count_at (l + 1 - j) n) i, i.some, i.most, mul-le-mul_left k (count-at-le (l + 1 - j) n))

-- the walk of the code
pub walk_none : (s : List ℕ) (w l n at : ℕ) → l ≡ 0 → walk_of s w l n at ≡ one_of s w n 1 at
unfolding walk_of
walk_none s w l n at e = ap (λ (k : ℕ). walk_of s w k n at) e

pub walk_more : (s : List ℕ) (w l n at : ℕ) → (l ≡ 0 → ⊥) → walk_of s w l n at ≡ go_on (walk_of s w (l - 1) (approx_length n) at) (λ p. one_of s w (details_length n) (l + 1) p)
unfolding walk_of
walk_more s w l n at h =
    let q : suc (l - 1) ≡ l = omega arith in
    sym (ap (λ (k : ℕ). walk_of s w k n at) q) ∙ ap (λ (k : ℕ). go_on (walk_of s w (l - 1) (approx_length n) at) (λ p. one_of s w (details_length n) (k + 1) p)) q

-- and what the last of its sections asks, where the others are there
pub walk_room : (s : List ℕ) (k l n at p : ℕ) → at ≤ length s → k * n < 2 ^ 63 → walk_of s k l (approx_length n) at ≡ Went p → (p ≤ length s) × (k * details_length n < 2 ^ 63)
walk_room s k l n at p h b e =
    let m = mul-le-mul_left k (let h : details_length n ≤ n = omega arith in h) in
    ((walk-size l s k (approx_length n) at p h e).1, omega arith)

-- for the code that counts samples
pub ruleset counting = (count-at-le)
