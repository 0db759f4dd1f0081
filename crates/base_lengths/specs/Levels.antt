-- Many levels, from document 01: each level's input is the approximations of the level before. By recursion on the levels.
use Rattle.std.specs.Prelude.{cond, [], ◌∷◌, ℕ, zero, suc, ◌≤◌, ltb, eqb}
use Rattle.base_answers.specs.declared.err.Refusal.TheVariants.{TooLong}
use Rattle.base_answers.specs.Answers.{Outcome, told}
use Rattle.base_answers.specs.Checks.{first_refusal}
use Rattle.base_lengths.specs.declared.Wavelet.{Wavelet}
use Rattle.base_lengths.specs.Lengths.{most_samples, approx_length, smallest_of}

-- what stands after l levels, where one level makes `level a` of a: of counts, bytes, floats or whole numbers
unfoldable pub after_levels : {A : Type 0} → (A → A) → ℕ → A → A
after_levels level zero a = a
after_levels level (suc l) a = after_levels level l (level a)

-- l levels forward and back again, where one level makes `low a` and `high a` of a, and `back` makes one of two
unfoldable pub there_and_back : {A : Type 0} → (A → A) → (A → A) → (A → A → A) → ℕ → A → A
there_and_back low high back zero a = a
there_and_back low high back (suc l) a = back (there_and_back low high back l (low a)) (high a)

-- how many approximations n samples have after l levels
abbrev pub count_at : ℕ → ℕ → ℕ
count_at = after_levels approx_length

-- l levels run on n samples: each level's input has m samples or more
unfoldable pub Runs : ℕ → ℕ → ℕ → Type 0
Runs m zero n = Unit {0}
Runs m (suc l) n = (m ≤ n) × Runs m l (approx_length n)

-- how many levels run before an input has fewer than m samples, counted up to k
unfoldable pub depth_within : ℕ → ℕ → ℕ → ℕ
depth_within zero m n = 0
depth_within (suc k) m n = cond (ltb n m) 0 (suc (depth_within k m (approx_length n)))

-- the same with nothing to count up to: n samples never have more than n levels
unfoldable pub depth_from : ℕ → ℕ → ℕ
depth_from m n = depth_within n m n

-- "the depth of n is how many levels run before an input is too short"
abbrev pub depth_of : Wavelet → ℕ → ℕ
depth_of w n = depth_from (smallest_of w) n

-- "zero levels means one"
abbrev pub levels_of : ℕ → ℕ
levels_of l = cond (eqb l 0) 1 l

-- "asking the depth is refused only with 6"
abbrev pub say_depth : Wavelet → ℕ → Outcome
say_depth w n = first_refusal ((ltb most_samples n, TooLong) ∷ []) (told (depth_of w n) 0)
