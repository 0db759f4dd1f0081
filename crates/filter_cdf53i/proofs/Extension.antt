-- What T.800's periodic symmetric extension of n samples, two or more, gives at the places that the 5-3 filter reads: from -2 to n + 1.
use Rattle.std.proofs.Common.{◌≡◌, ℕ, suc, ◌+◌, ◌-◌, ◌*◌, ◌<◌, ◌≤◌, min, List, length, ℤ, pos, negsuc, ap, ◌∙◌, ⊎_elim, mod-eq_of_lt, arith}
use native.Mathlib.Nat.{mod-eq-sub-mod}
use Rattle.base_samples.specs.Integers.{residue}
use Rattle.base_order.proofs.Order.{lt-or-le}
use Rattle.filter_cdf53i.specs.Lift.{at}
use Rattle.filter_cdf53i.specs.T800.{pse, extended}

-- i, or how far it is from 2(n - 1), the mirror image of 0 at the last sample, where that is less: i below n, n - 2 at n, n - 3 at n + 1 (1 where n is 2)
abbrev pub place : ℕ → ℕ → ℕ
place n i = min i ((2 * (n - 1) - i) + (i - 2 * (n - 1)))

module _ (n : ℕ) (some : 2 ≤ n) where
  pub pse-at : (i : ℕ) → i ≤ n + 1 → pse n (pos i) ≡ place n i
  unfolding pse residue
  pse-at i h =
      let M = 2 * (n - 1) in
      ⊎_elim
      (λ (k : i < M). rw (mod-eq_of_lt k) (omega arith))
      (λ (k : M ≤ i). let l : i - M < M = omega arith in rw (mod-eq-sub-mod k, mod-eq_of_lt l) (omega arith))
      (lt-or-le i M)

  -- -1 as 1, and -2 as 2
  pub pse-before : (i : ℕ) → i < 2 → pse n (negsuc i) ≡ place n (suc i)
  unfolding pse residue
  pse-before i h = rw (mod-eq_of_lt {n = i} {m = 2 * (n - 1)} (omega arith)) (omega arith)

module _ (x : List ℤ) (some : 2 ≤ length x) where
  pub extended-at : (i k : ℕ) → i ≤ length x + 1 → place (length x) i ≡ k → extended x (pos i) ≡ at x k
  unfolding extended
  extended-at i k h e = ap (at x) (pse-at (length x) some i h ∙ e)

  pub extended-before : (i k : ℕ) → i < 2 → place (length x) (suc i) ≡ k → extended x (negsuc i) ≡ at x k
  unfolding extended
  extended-before i k h e = ap (at x) (pse-before (length x) some i h ∙ e)
