-- Words past the end of a list, and a word that is kept where a < n and is 0 where not. Over the width.
use mathlib.Core.Bool.{Bool, true, false}
use mathlib.Core.List.{List, []}
use mathlib.Core.Logic.{◌⊎◌, inl, inr, ⊎_elim}
use mathlib.Core.Path.{◌≡◌, refl}
use Prim.Native.Nat.{ℕ, zero, suc, ◌+◌, ◌*◌, ◌^◌, ◌≤◌, ◌<◌}
use native.Mathlib.Nat.{mul-zero}
use native.Mathlib.Omega.{arith}
use borrow.Author.Tests.{ltb-true, ltb-false}
use lib.Dec.{ltb}
use lib.ListN.{length, take, get_or-eq_default}
use Rattle.base_samples.specs.Le.{le_at}
use Rattle.base_samples.specs.Words.{word_at}
use Rattle.stream_pieces.specs.States.{bound}

-- past its end a list reads as 0
le-past : (k : ℕ) (s : List ℕ) (p : ℕ) → length s ≤ p → le_at k s p ≡ 0
unfolding le_at
le-past zero s p h = refl
le-past (suc k) s p h = rw (get_or-eq_default s 0 h, le-past k s (p + 1) (omega arith))

pub word-past : (k : ℕ) (s : List ℕ) (j : ℕ) → length s ≤ k * j → word_at k s j ≡ 0
unfolding word_at
word-past k s j h = le-past k s (k * j) h

-- and a part of no words does
pub word_none : (k : ℕ) (s : List ℕ) (m j : ℕ) → m ≡ 0 → word_at k (take (k * m) s) j ≡ 0
word_none k s m j e = rw (e, mul-zero) (word-past k [] j (omega arith))

-- a word that is kept where a < n, and is 0 where not
pub kept : (k a n u : ℕ) → (a < n → u < 256 ^ k) → (n ≤ a → u ≡ 0) → u < bound k (ltb a n)
kept k a n u some none = pick (ltb a n) refl
  where
    pick : (t : Bool) → ltb a n ≡ t → u < bound k t
    pick true e = some (ltb-true a n e)
    pick false e = omega (arith, none (ltb-false a n e))

-- and back
pub kept-or : (k a n u : ℕ) → u < bound k (ltb a n) → ((a < n) × (u < 256 ^ k)) ⊎ ((n ≤ a) × (u ≡ 0))
kept-or k a n u h = pick (ltb a n) refl h
  where
    pick : (t : Bool) → ltb a n ≡ t → u < bound k t → ((a < n) × (u < 256 ^ k)) ⊎ ((n ≤ a) × (u ≡ 0))
    pick true e h = inl (ltb-true a n e, h)
    pick false e h = inr (ltb-false a n e, omega arith)

pub kept_small : (k a n u : ℕ) → u < bound k (ltb a n) → a < n → u < 256 ^ k
kept_small k a n u h l = ⊎_elim (λ q. q.1) (λ q. omega (arith, q.0)) (kept-or k a n u h)
