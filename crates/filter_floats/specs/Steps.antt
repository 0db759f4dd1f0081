-- The steps of the float filters, from document 01, "Float filters", on two lists: approximations a and details d. "A step is one of three kinds, each carrying
-- its own factors." Over the format, and the two lifting steps over any kind of entry.
use Rattle.std.specs.Prelude.{List, [], ◌∷◌, ℕ, ◌+◌, ◌-◌, min, Float, length, get_or}
use Rattle.std.specs.Float.{nan, Format}
use Rattle.std.specs.Float.Ieee.{add, mul}
use Rattle.base_samples.specs.Words.{tabulate}

module _ {A : Type 0} where
  -- what g makes of a[i], a[i+1] and d[i], where the approximation after the last is the last; z is never read
  unfoldable pub odd_at : (A → A → A → A) → A → List A → List A → ℕ → A
  odd_at g z a d i = g (get_or a i z) (get_or a (min (i + 1) (length a - 1)) z) (get_or d i z)

  -- what g makes of d[i-1], d[i] and a[i], where the detail before the first is the first (0 - 1 is 0 here), and the one after the last is the last
  unfoldable pub even_at : (A → A → A → A) → A → List A → List A → ℕ → A
  even_at g z a d i = g (get_or d (i - 1) z) (get_or d (min i (length d - 1)) z) (get_or a i z)

  unfoldable pub odds : (A → A → A → A) → A → List A → List A → List A
  odds g z a d = tabulate (length d) (odd_at g z a d)

  unfoldable pub evens : (A → A → A → A) → A → List A → List A → List A
  evens g z a d = tabulate (length a) (even_at g z a d)

-- (l + r) * c + x: "each addition and each multiplication is rounded once, in that order"
unfoldable pub lift : Format → Float → Float → Float → Float → Float
lift f c l r x = add f (mul f (add f l r) c) x

-- each entry times c
unfoldable pub scaled : Format → Float → List Float → List Float
scaled f c s = tabulate (length s) (λ i. mul f (get_or s i nan) c)

-- a step: "odds c" replaces d[i] by (a[i] + a[i+1])·c + d[i]; "evens c" replaces a[i] by (d[i-1] + d[i])·c + a[i]; "scale" multiplies a by one factor and d by another
pub data Step : Type 0 where
  oddly : Float → Step
  evenly : Float → Step
  scaling : Float → Float → Step

-- the two lists after a step
abbrev pub step_a : Format → Step → List Float → List Float → List Float
step_a f (oddly c) a d = a
step_a f (evenly c) a d = evens (lift f c) nan a d
step_a f (scaling p q) a d = scaled f p a

abbrev pub step_d : Format → Step → List Float → List Float → List Float
step_d f (oddly c) a d = odds (lift f c) nan a d
step_d f (evenly c) a d = d
step_d f (scaling p q) a d = scaled f q d

-- and after a schedule of steps, one after the other
abbrev pub run_a : Format → List Step → List Float → List Float → List Float
run_a f [] a d = a
run_a f (s ∷ ss) a d = run_a f ss (step_a f s a d) (step_d f s a d)

abbrev pub run_d : Format → List Step → List Float → List Float → List Float
run_d f [] a d = d
run_d f (s ∷ ss) a d = run_d f ss (step_a f s a d) (step_d f s a d)
