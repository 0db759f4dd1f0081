-- From the first sections of a walk to all of them, and from one file to another that begins with the same sections.
use mathlib.Core.List.{List}
use mathlib.Core.Logic.{◌⊎◌, inl, inr}
use mathlib.Core.Path.{◌≡◌, refl, sym, ap, ap₂, subst, ◌∙◌}
use Prim.Native.Nat.{ℕ, zero, suc, ◌+◌, ◌-◌, ◌*◌, ◌≤◌, ◌<◌}
use native.Mathlib.Nat.{zero-add, suc-add}
use native.Mathlib.Omega.{arith}
use lib.ListN.{length}
use Rattle.base_samples.specs.Le.{le_at}
use Rattle.base_order.proofs.Order.{lt-or-le}
use Rattle.base_lengths.specs.Lengths.{approx_length, details_length}
use Rattle.base_lengths.specs.Levels.{after_levels, count_at}
use Rattle.levels_filter.proofs.Cuts.{split-width}
use Rattle.file_open.specs.declared.walk.Way.{Way}
use Rattle.file_open.specs.declared.walk.Way.TheVariants.{Went, Short, Wrong}
use Rattle.file_open.specs.Files.{body_size}
use Rattle.file_open.specs.Walks.{one_of, go_on, walk_of, last_count}
use Rattle.file_open.proofs.Ways.{apart, one-by, one-went, StopsIn, one-stops, go-stops, go-went, walk-size, last-details, last-stands, stand_of, Stopped}

-- ---- from some sections to more

-- where the walk through the first sections stops, the whole walk stops there
pub walk-stays : (d e : ℕ) (s : List ℕ) (k n p j : ℕ) → StopsIn j (walk_of s k e (count_at d n) p) → walk_of s k (d + e) n p ≡ walk_of s k e (count_at d n) p
unfolding walk_of after_levels
walk-stays zero e s k n p j st = ap (λ l. walk_of s k l n p) (zero-add e)
walk-stays (suc d) e s k n p j st =
    let g : ℕ → Way = λ q. one_of s k (details_length n) (suc (d + e) + 1) q in
    ap (λ l. walk_of s k l n p) (suc-add d e)
    ∙ ap (λ v. go_on v g) (walk-stays d e s k (approx_length n) p j st)
    ∙ go-stops (walk_of s k e (count_at d (approx_length n)) p) g j st

-- where they are there, it stops behind them
pub walk-later : (d e : ℕ) (s : List ℕ) (k n p j q : ℕ) → walk_of s k e (count_at d n) p ≡ Went q → StopsIn j (walk_of s k (d + e) n p) → e + 1 < j
unfolding walk_of after_levels
walk-later zero e s k n p j q w st = absurd (subst (StopsIn j) (ap (λ l. walk_of s k l n p) (zero-add e) ∙ w) st)
walk-later (suc d) e s k n p j q w st =
    pick (walk_of s k (d + e) (approx_length n) p) (walk-later d e s k (approx_length n) p j q w) (subst (λ l. StopsIn j (walk_of s k l n p)) (suc-add d e) st)
  where
    pick : (v : Way) → (StopsIn j v → e + 1 < j) → StopsIn j (go_on v (λ q. one_of s k (details_length n) (suc (d + e) + 1) q)) → e + 1 < j
    pick (Went q) rest st = let i = one-stops s k (details_length n) (suc (d + e) + 1) q j st in omega arith
    pick (Short i) rest st = rest st
    pick (Wrong i found) rest st = rest st

-- ---- other bytes behind the sections

-- a section is there if its count is right and its bytes are in the list
pub one-goes : (t : List ℕ) (k c i p : ℕ) → le_at 4 t p ≡ c → p + 4 + k * c ≤ length t → one_of t k c i p ≡ Went (p + 4 + k * c)
one-goes t k c i p e h =
    one-by t k c i p (λ v. v ≡ Went (p + 4 + k * c)) (λ z. absurd (omega arith)) (λ _ z. absurd (z e)) (λ _ _ z. absurd (omega arith)) (λ _ _ _. refl)

-- and is cut if less than its count is there
pub one-broken : (t : List ℕ) (k c i p : ℕ) → length t < p + 4 → p ≤ length t → one_of t k c i p ≡ Short i
one-broken t k c i p h b = one-by t k c i p (λ v. v ≡ Short i) (λ _. refl) (λ z _. absurd (omega arith)) (λ _ _ _. refl) (λ z _ _. absurd (omega arith))

-- a walk that is there to the end of the bytes stops in the next section
pub walk-next : (l : ℕ) (t : List ℕ) (k n p : ℕ) → walk_of t k l (approx_length n) p ≡ Went (length t) → walk_of t k (suc l) n p ≡ Short (suc l + 1)
unfolding walk_of
walk-next l t k n p e = ap (λ v. go_on v (λ x. one_of t k (details_length n) (suc l + 1) x)) e ∙ one-broken t k (details_length n) (suc l + 1) (length t) (omega arith) (omega arith)

-- sections that are there are there in any t that has the same counts and is as long
one_same : (s t : List ℕ) (k c i p q : ℕ) → one_of s k c i p ≡ Went q → ((i : ℕ) → i + 4 ≤ q → le_at 4 t i ≡ le_at 4 s i) → q ≤ length t → one_of t k c i p ≡ Went q
one_same s t k c i p q e same long =
    one-by s k c i p (λ v. v ≡ Went q → one_of t k c i p ≡ Went q) (λ _. apart _ _ refl) (λ _ _. apart _ _ refl) (λ _ _ _. apart _ _ refl)
    (λ _ count _ e. let z : p + 4 + k * c ≡ q = cc in one-goes t k c i p (same p (omega arith) ∙ count) (omega arith) ∙ e) e

pub walk_same : (l : ℕ) (s t : List ℕ) (k n p q : ℕ) → p ≤ length s → walk_of s k l n p ≡ Went q → ((i : ℕ) → i + 4 ≤ q → le_at 4 t i ≡ le_at 4 s i) → q ≤ length t → walk_of t k l n p ≡ Went q
unfolding walk_of
walk_same zero s t k n p q h e same long = one_same s t k n 1 p q e same long
walk_same (suc l) s t k n p q h e same long =
    let g = go-went (walk_of s k l (approx_length n) p) (λ x. one_of s k (details_length n) (suc l + 1) x) q e in
    let z = walk-size l s k (approx_length n) p g.0 h g.1 in
    let o = one-went s k (details_length n) (suc l + 1) g.0 q z.1 g.2 in
    let i = walk_same l s t k (approx_length n) p g.0 h g.1 (λ i b. same i (omega (arith, o.exact))) (omega (arith, o.exact)) in
    ap (λ v. go_on v (λ x. one_of t k (details_length n) (suc l + 1) x)) i ∙ one_same s t k (details_length n) (suc l + 1) g.0 q g.2 same long

-- and where a walk stops, the walk of such a t comes to the same section
pub stop-same : (s t : List ℕ) (k l p j m : ℕ) (v : Way) → p ≤ length s → Stopped s k l p j m v → ((i : ℕ) → i + 4 ≤ stand_of k p j m → le_at 4 t i ≡ le_at 4 s i) → stand_of k p j m ≤ length t
    → walk_of t k (j - 1) m p ≡ one_of t k (last_count (j - 1) m) j (stand_of k p j m)
unfolding walk_of
stop-same s t k l p zero m v h i same long = absurd (omega (arith, i.some))
stop-same s t k l p (suc zero) m v h i same long = let at : p ≡ stand_of k p 1 m = omega arith in ap (λ q. one_of t k m 1 q) at
stop-same s t k l p (suc (suc x)) m v h i same long =
    let q = stand_of k p (suc (suc x)) m in
    let a : suc (suc x) - 1 ≡ suc x = omega arith in
    let b : suc (suc x) - 2 ≡ x = omega arith in
    let c : suc x + 1 ≡ suc (suc x) = omega arith in
    let before : walk_of t k x (approx_length m) p ≡ Went q = walk_same x s t k (approx_length m) p q h (sym (ap (λ y. walk_of s k y (approx_length m) p) b) ∙ i.before (omega arith)) same long in
    ap (λ y. walk_of t k y m p) a
    ∙ ap (λ u. go_on u (λ y. one_of t k (details_length m) (suc x + 1) y)) before
    ∙ ap₂ (λ n y. one_of t k n y q) (sym (ap (λ y. last_count y m) a ∙ last-details (suc x) m (omega arith))) c

-- ---- each section of a walk

-- levels one after the other
pub count-more : (b a n : ℕ) → count_at a (count_at b n) ≡ count_at (b + a) n
unfolding after_levels
count-more zero a n = ap (λ i. count_at i n) (sym (zero-add a))
count-more (suc b) a n = count-more b a (approx_length n) ∙ ap (λ i. count_at i n) (sym (suc-add b a))

one-count : (s : List ℕ) (k c i p q : ℕ) → one_of s k c i p ≡ Went q → le_at 4 s p ≡ c
one-count s k c i p q = one-by s k c i p (λ v. v ≡ Went q → le_at 4 s p ≡ c) (λ _. apart _ _ refl) (λ _ _. apart _ _ refl) (λ _ _ _. apart _ _ refl) (λ _ e _ _. e)

-- section i of a walk that went to the end is there, with its count
abbrev pub Has : List ℕ → ℕ → ℕ → ℕ → ℕ → Type 0
Has s k p i m = (le_at 4 s (stand_of k p i m) ≡ last_count (i - 1) m) × (p + body_size k (i - 1) m ≤ length s)

pub walk-each : (l : ℕ) (s : List ℕ) (k n p q : ℕ) → p ≤ length s → walk_of s k l n p ≡ Went q → (i : ℕ) → 1 ≤ i → i ≤ l + 1 → Has s k p i (count_at (l + 1 - i) n)
unfolding walk_of after_levels
walk-each zero s k n p q h e i one most =
    let z = one-went s k n 1 p q h e in
    let at : stand_of k p 1 n ≡ p = omega arith in
    let i1 : 1 ≡ i = omega arith in
    subst (λ i. Has s k p i (count_at (0 + 1 - i) n)) i1 (ap (λ y. le_at 4 s y) at ∙ one-count s k n 1 p q e, omega (arith, z.exact, z.within))
walk-each (suc l) s k n p q h e i one most = pick (lt-or-le i (l + 2)) (walk-each l s k (approx_length n) p)
  where
    g : (q' : ℕ) × (walk_of s k l (approx_length n) p ≡ Went q') × (one_of s k (details_length n) (suc l + 1) q' ≡ Went q)
    g = go-went (walk_of s k l (approx_length n) p) (λ x. one_of s k (details_length n) (suc l + 1) x) q e

    pick : (i < l + 2) ⊎ (l + 2 ≤ i) → ((q : ℕ) → p ≤ length s → walk_of s k l (approx_length n) p ≡ Went q → (i : ℕ) → 1 ≤ i → i ≤ l + 1 → Has s k p i (count_at (l + 1 - i) (approx_length n))) → Has s k p i (count_at (suc l + 1 - i) n)
    pick (inl low) rest =
        let b : suc (l + 1 - i) ≡ suc l + 1 - i = omega arith in
        subst (λ d. Has s k p i (count_at d n)) b (rest g.0 h g.1 i one (omega arith))
    pick (inr high) rest =
        let z = walk-size l s k (approx_length n) p g.0 h g.1 in
        let o = one-went s k (details_length n) (suc l + 1) g.0 q z.1 g.2 in
        let at = last-stands k l n p g.0 z.0 in
        let last : suc l + 1 ≡ i = omega arith in
        let none : 0 ≡ suc l + 1 - (suc l + 1) = omega arith in
        let b : suc l + 1 - 1 ≡ suc l = omega arith in
        let count = ap (λ y. le_at 4 s y) at ∙ one-count s k (details_length n) (suc l + 1) g.0 q g.2 ∙ sym (ap (λ y. last_count y n) b ∙ last-details (suc l) n (omega arith)) in
        subst (λ i. Has s k p i (count_at (suc l + 1 - i) n)) last
        (subst (λ d. Has s k p (suc l + 1) (count_at d n)) none (count, omega (arith, z.0, o.exact, o.within, split-width k n)))

-- ---- other samples

-- a section with the same count, in a list as long, has the same way
one_alike : (s t : List ℕ) (k c i p : ℕ) → length t ≡ length s → p ≤ length s → (p + 4 ≤ length s → le_at 4 t p ≡ le_at 4 s p) → one_of t k c i p ≡ one_of s k c i p
one_alike s t k c i p e h same =
    one-by s k c i p (λ v. one_of t k c i p ≡ v) (λ few. one-broken t k c i p (omega arith) (omega arith))
    (λ four n. let g = same (omega arith) in one-by t k c i p (λ v. v ≡ Wrong i (le_at 4 s p)) (λ z. absurd (omega arith)) (λ _ _. ap (λ f. Wrong i f) g) (λ _ z _. absurd (n (sym g ∙ z))) (λ _ z _. absurd (n (sym g ∙ z))))
    (λ four z less. let g = same (omega arith) in one-by t k c i p (λ v. v ≡ Short i) (λ _. refl) (λ _ n. absurd (n (g ∙ z))) (λ _ _ _. refl) (λ _ _ room. absurd (omega arith)))
    (λ four z room. one-goes t k c i p (same (omega arith) ∙ z) (omega arith))

-- so has a walk over such sections
pub walk-alike : (l : ℕ) (s t : List ℕ) (k n p : ℕ) → length t ≡ length s → p ≤ length s
    → ((i : ℕ) → 1 ≤ i → i ≤ l + 1 → let q = stand_of k p i (count_at (l + 1 - i) n) in q + 4 ≤ length s → le_at 4 t q ≡ le_at 4 s q) → walk_of t k l n p ≡ walk_of s k l n p
unfolding walk_of after_levels
walk-alike zero s t k n p e h same = one_alike s t k n 1 p e h (subst (λ q. q + 4 ≤ length s → le_at 4 t q ≡ le_at 4 s q) at (same 1 (omega arith) (omega arith)))
  where
    at : stand_of k p 1 n ≡ p
    at = omega arith
walk-alike (suc l) s t k n p e h same =
    ap (λ v. go_on v (λ x. one_of t k (details_length n) (suc l + 1) x)) (walk-alike l s t k (approx_length n) p e h inner) ∙ pick (walk_of s k l (approx_length n) p) refl
  where
    inner : (i : ℕ) → 1 ≤ i → i ≤ l + 1 → let q = stand_of k p i (count_at (l + 1 - i) (approx_length n)) in q + 4 ≤ length s → le_at 4 t q ≡ le_at 4 s q
    inner i one low = let b : suc l + 1 - i ≡ suc (l + 1 - i) = omega arith in subst (λ d. let q = stand_of k p i (count_at d n) in q + 4 ≤ length s → le_at 4 t q ≡ le_at 4 s q) b (same i one (omega arith))

    pick : (v : Way) → walk_of s k l (approx_length n) p ≡ v → go_on v (λ x. one_of t k (details_length n) (suc l + 1) x) ≡ go_on v (λ x. one_of s k (details_length n) (suc l + 1) x)
    pick (Went q) g =
        let z = walk-size l s k (approx_length n) p q h g in
        let at = last-stands k l n p q z.0 in
        let none : suc l + 1 - (suc l + 1) ≡ 0 = omega arith in
        let last = subst (λ d. let q = stand_of k p (suc l + 1) (count_at d n) in q + 4 ≤ length s → le_at 4 t q ≡ le_at 4 s q) none (same (suc l + 1) (omega arith) (omega arith)) in
        one_alike s t k (details_length n) (suc l + 1) q e z.1 (subst (λ q. q + 4 ≤ length s → le_at 4 t q ≡ le_at 4 s q) at last)
    pick (Short j) g = refl
    pick (Wrong j found) g = refl
