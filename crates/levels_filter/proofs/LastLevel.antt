-- `dwt`: what its checks leave, what a done call leaves, and that two results which the statement allows are equal. Looks into no filter.
use mathlib.Core.Bool.{true, cond}
use mathlib.Core.List.{List, ◌∷◌}
use mathlib.Core.Path.{◌≡◌, sym, ap, ◌∙◌}
use Prim.Native.Nat.{ℕ, suc, ◌-◌, ◌*◌, ◌/◌}
use native.Mathlib.Nat.{mul-le-mul_left}
use native.Mathlib.Omega.{arith}
use lib.ListN.{length, drop}
use Rattle.base_answers.specs.declared.err.Answer.{Answer}
use Rattle.base_answers.specs.Answers.{Outcome, told, answer_of, done}
use Rattle.base_answers.specs.Checks.{ragged, Spared}
use Rattle.base_answers.proofs.Passed.{passing, whole, roomy, right}
use Rattle.base_answers.proofs.Endings.{left-done, spared}
use Rattle.base_lengths.specs.Lengths.{most_samples, approx_length, details_length}
use Rattle.base_lengths.specs.Levels.{after_levels, count_at, depth_of, levels_of}
use Rattle.levels_filter.specs.declared.filter.Filter.{Filter}
use Rattle.levels_filter.specs.Filters.{width_of, wavelet_of, low_of, high_of}
use Rattle.levels_filter.specs.Pyramids.{approx_at}
use Rattle.levels_filter.specs.Calls.{BandsOf, Parted, dwt_checks, say_dwt, Dwt, Ready}
use Rattle.levels_filter.proofs.Multi.{levels-pos}
use Rattle.base_lengths.proofs.Counts.{after_last}

-- what the checks leave: the levels run, and the bands have the lengths of the last level
pub dwt-ready : (f : Filter) (l x a d u v : ℕ) → done (say_dwt f l x a d u v) ≡ true
    → let m = count_at (levels_of l - 1) (x / width_of f) in Ready f (levels_of l) (x / width_of f) x u v × BandsOf f m a d
unfolding say_dwt
dwt-ready f l x a d u v h =
    let k = width_of f in
    let m = count_at (levels_of l - 1) (x / k) in
    let p = passing (ragged k x ∷ ragged k a ∷ ragged k d ∷ ragged k u ∷ ragged k v ∷ dwt_checks f l (x / k) (a / k) (d / k) (u / k) (v / k)) (told 0 0) h in
    let q = p.1.1.1.1.1 in
    let eu = whole k u p.1.1.1.0 in
    let ev = whole k v p.1.1.1.1.0 in
    let lu = mul-le-mul_left k (roomy (u / k) (x / k) q.1.1.1.1.0) in
    let lv = mul-le-mul_left k (roomy (v / k) (x / k) q.1.1.1.1.1.0) in (
      record {
        some = levels-pos l;
        deep = roomy (depth_of (wavelet_of f) (x / k)) (levels_of l) q.1.0;
        short = roomy most_samples (x / k) q.0;
        whole = whole k x p.0;
        first = omega (arith, eu, lu);
        second = omega (arith, ev, lv);
      },
      (
        whole k a p.1.0 ∙ ap (λ n. k * n) (right (a / k) (approx_length m) q.1.1.0),
        whole k d p.1.1.0 ∙ ap (λ n. k * n) (right (d / k) (details_length m) q.1.1.1.0),
      ),
    )

module _ (f : Filter) (l : ℕ) (x a d u v : List ℕ) where
  abbrev said : Outcome
  said = say_dwt f l (length x) (length a) (length d) (length u) (length v)

  abbrev input : List ℕ
  input = approx_at f (levels_of l - 1) x

  -- what a call leaves whose checks pass; n is the number of samples
  pub dwt-done : (n : ℕ) {a' d' u' v' : List ℕ} → told 0 0 ≡ said → width_of f * n ≡ length x → Parted f input a' d' → drop (width_of f * n) u' ≡ drop (width_of f * n) u
      → drop (width_of f * n) v' ≡ drop (width_of f * n) v → Dwt f l x a d u v (answer_of (told 0 0)) a' d' u' v'
  dwt-done n {u' = u'} {v' = v'} es en p hu hv =
      let t : done said ≡ true = sym (ap done es) in
      record {
        answer = ap answer_of es;
        approx = p.0 ∙ sym (left-done said (low_of f input) a t);
        details = p.1 ∙ sym (left-done said (high_of f input) d t);
        first = spared said (length x) u u' t (rw en at hu);
        second = spared said (length x) v v' t (rw en at hv);
      }

  pub dwt-decides : (r s : Answer) (a₁ d₁ u₁ v₁ a₂ d₂ u₂ v₂ : List ℕ) → Dwt f l x a d u v r a₁ d₁ u₁ v₁ → Dwt f l x a d u v s a₂ d₂ u₂ v₂
      → let k = cond (done said) (length x) 0 in (r ≡ s) × (a₁ ≡ a₂) × (d₁ ≡ d₂) × (drop k u₁ ≡ drop k u₂) × (drop k v₁ ≡ drop k v₂)
  unfolding Spared
  dwt-decides r s a₁ d₁ u₁ v₁ a₂ d₂ u₂ v₂ p q =
      (p.answer ∙ sym q.answer, p.approx ∙ sym q.approx, p.details ∙ sym q.details, p.first ∙ sym q.first, p.second ∙ sym q.second)

  -- a done call gives the approximations of level l, and the details that were parted from them
  pub dwt-gives : {r : Answer} {a' d' u' v' : List ℕ} → Dwt f l x a d u v r a' d' u' v' → done said ≡ true → (a' ≡ approx_at f (levels_of l) x) × (d' ≡ high_of f input)
  dwt-gives m z =
      let e : suc (levels_of l - 1) ≡ levels_of l = omega (arith, levels-pos l) in (
        m.approx ∙ left-done said (low_of f input) a z ∙ sym (after_last (low_of f) (levels_of l - 1) x) ∙ ap (λ (i : ℕ). approx_at f i x) e,
        m.details ∙ left-done said (high_of f input) d z,
      )

-- the bands of what no level leaves, and of what the levels below one leave
pub parted-none : (f : Filter) {l : ℕ} (x : List ℕ) {a d : List ℕ} → l ≡ 0 → Parted f x a d → Parted f (approx_at f l x) a d
unfolding after_levels
parted-none f x e p = rw e p

pub parted-more : (f : Filter) {l m : ℕ} (x : List ℕ) {y a d : List ℕ} → l ≡ suc m → y ≡ low_of f x → Parted f (approx_at f m y) a d → Parted f (approx_at f l x) a d
unfolding after_levels
parted-more f x e h p = rw e (rw h at p)
