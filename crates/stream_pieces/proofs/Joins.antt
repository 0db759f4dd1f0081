-- Two recordings joined: x, of t samples, and then y, of u. Over the width.
use mathlib.Core.List.{List, ◌++◌}
use mathlib.Core.Path.{◌≡◌, sym, ap, ◌∙◌}
use Prim.Native.Nat.{ℕ, ◌+◌, ◌-◌, ◌*◌, ◌≤◌, ◌<◌}
use native.Mathlib.Nat.{mul-add}
use native.Mathlib.Omega.{arith}
use lib.ListN.{length, length-append}
use lib.Seq.{take_at, drop_at}
use Rattle.base_samples.specs.Words.{word_at, Holds}
use Rattle.base_samples.specs.Integers.{Width}
use Rattle.base_samples.proofs.Words.{holds, word-take, word-drop}

module _ {k : ℕ} (w : Width k) (x y : List ℕ) (t u : ℕ) (hx : length x ≡ k * t) (hy : length y ≡ k * u) where
  pub joined : Holds k (t + u) (x ++ y)
  joined = holds w.some (x ++ y) (t + u) (length-append x y ∙ rw (hx, hy) (sym (mul-add k t u)))

  pub earlier : (j : ℕ) → j < t → word_at k (x ++ y) j ≡ word_at k x j
  earlier j h = sym (word-take k (x ++ y) t j h) ∙ ap (λ s. word_at k s j) (take_at x y (k * t) hx)

  pub later : (j : ℕ) → t ≤ j → word_at k (x ++ y) j ≡ word_at k y (j - t)
  later j h =
      ap (word_at k (x ++ y)) (omega arith) ∙ sym (word-drop k (x ++ y) t (j - t)) ∙ ap (λ s. word_at k s (j - t)) (drop_at x y (k * t) hx)
