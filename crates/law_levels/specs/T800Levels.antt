-- T.800's steps at many levels: each takes the low-pass coefficients of the level before, as they are kept.
use Rattle.std.specs.Prelude.{List, [], ◌∷◌, ◌++◌, ℕ, zero, suc, take, drop, ℤ}
use Rattle.base_lengths.specs.Levels.{after_levels}
use Rattle.filter_cdf53i.specs.T800.{lows, highs, backs}

-- the low-pass coefficients of level l; level 0 is the samples
abbrev pub lows_at : (ℤ → ℤ) → ℕ → List ℤ → List ℤ
lows_at keep = after_levels (lows keep)

-- the high-pass coefficients of level l + 1: those of the low-pass ones of level l
unfoldable pub highs_after : (ℤ → ℤ) → ℕ → List ℤ → List ℤ
highs_after keep l x = highs keep (lows_at keep l x)

-- the high-pass coefficients of the levels l to 1, deepest first
unfoldable pub all_highs : (ℤ → ℤ) → ℕ → List ℤ → List ℤ
all_highs keep zero x = []
all_highs keep (suc l) x = highs_after keep l x ++ all_highs keep l x

-- the way back: of low-pass coefficients a and high-pass ones d, joined deepest first, of which each level has as many as the list of lengths says
unfoldable pub backs_at : (ℤ → ℤ) → List ℤ → List ℤ → List ℕ → List ℤ
backs_at keep a d [] = a
backs_at keep a d (m ∷ ms) = backs_at keep (backs keep a (take m d)) (drop m d) ms
