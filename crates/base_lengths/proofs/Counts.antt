-- How many approximations there are after some levels.
use mathlib.Core.List.{List}
use mathlib.Core.Path.{◌≡◌, refl, ap, ◌∙◌}
use Prim.Native.Nat.{ℕ, zero, suc, ◌+◌, ◌*◌, ◌≤◌}
use native.Mathlib.Numerals.{add-one}
use native.Mathlib.Omega.{arith}
use lib.ListN.{length}
use Rattle.base_lengths.specs.Lengths.{approx_length}
use Rattle.base_lengths.specs.Levels.{after_levels, count_at}

-- a level more at the end is a level more at the start
pub after_last : {A : Type 0} (level : A → A) (l : ℕ) (a : A) → after_levels level (suc l) a ≡ level (after_levels level l a)
unfolding after_levels
after_last level zero a = refl
after_last level (suc l) a = after_last level l (level a)

-- the bytes after some levels, of n samples of k bytes, where each level leaves the bytes of its approximations
pub length-after : (level : List ℕ → List ℕ) (k : ℕ) → ((x : List ℕ) (n : ℕ) → length x ≡ k * n → length (level x) ≡ k * approx_length n)
    → (l : ℕ) (x : List ℕ) (n : ℕ) → length x ≡ k * n → length (after_levels level l x) ≡ k * count_at l n
unfolding after_levels
length-after level k h zero x n e = e
length-after level k h (suc l) x n e = length-after level k h l (level x) (approx_length n) (h x n e)

-- one turn of the loop that counts
pub count_turn : (i n p q : ℕ) → p ≡ count_at i n → q ≡ approx_length p → q ≡ count_at (i + 1) n
count_turn i n p q e h = rw (add-one, after_last approx_length) (h ∙ ap approx_length e)

-- never more than there were, and never none of some
pub count-at-le : (l n : ℕ) → count_at l n ≤ n
unfolding after_levels
count-at-le zero n = omega arith
count-at-le (suc l) n = omega (arith, count-at-le l (approx_length n), halved n)
  where
    halved : (n : ℕ) → approx_length n ≤ n
    halved zero = omega arith
    halved (suc n) = omega arith
