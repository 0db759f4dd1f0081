-- The inverse of 9/7 as the blocks make it: the bands scaled, then four lifting steps, by the set t with signs changed. Over the format.
use Rattle.std.specs.Prelude.{List, ◌≡◌, ℕ, ◌+◌, ◌-◌, ◌*◌, ◌/◌, ◌≤◌, ◌<◌, min, Float, length, get_or}
use Rattle.std.specs.Float.{nan, Format}
use Rattle.base_samples.specs.Words.{Front}
use Rattle.base_samples.specs.Floats.{width, decode_floats}
use Rattle.filter_floats.specs.Steps.{lift, evens, odds, scaled}
use Rattle.filter_floats.specs.declared.steps.Factors.{Factors}
use Rattle.filter_floats.specs.Filters.{Set, factors_of, turned}
use Rattle.filter_floats.specs.Kinds.{set_of}
use Rattle.filter_small.specs.declared.rows.Carry.{Carry}
use Rattle.filter_small.specs.Lists.{in_turn}
use Rattle.filter_cdf97f_inverse.specs.declared.blocks.Parts.{Parts}

-- each float in s times k
unfoldable pub times_of : Format → Float → List ℕ → List Float
times_of f k s = scaled f k (decode_floats f s)

-- the evens after the first step, the odds after the second, the evens after the third, and the odds after the fourth
unfoldable pub evens_one : Format → Set → List ℕ → List ℕ → List Float
evens_one f t a d = evens (lift f t.delta) nan (times_of f t.invk a) (times_of f t.k d)

unfoldable pub odds_two : Format → Set → List ℕ → List ℕ → List Float
odds_two f t a d = odds (lift f t.gamma) nan (evens_one f t a d) (times_of f t.k d)

unfoldable pub evens_three : Format → Set → List ℕ → List ℕ → List Float
evens_three f t a d = evens (lift f t.beta) nan (evens_one f t a d) (odds_two f t a d)

unfoldable pub odds_four : Format → Set → List ℕ → List ℕ → List Float
odds_four f t a d = odds (lift f t.alpha) nan (evens_three f t a d) (odds_two f t a d)

-- a and d are the bands of four samples or more; t is the set of the inverse
pub record Bands97 (f : Format) (t : Set) (a d : List ℕ) : Type 0 where
  pub long : 2 ≤ length d / width f
  pub fewer : length d / width f ≤ length a / width f
  pub near : length a / width f ≤ length d / width f + 1
  pub set : t ≡ turned (factors_of f)

-- what a turn hands to the next: even entry i + 1 after the first step, odd entry i after the second, even entry i after the third
pub record Carried (f : Format) (t : Set) (a d : List ℕ) (i : ℕ) (p q r : Float) : Type 0 where
  pub one : p ≡ get_or (evens_one f t a d) (i + 1) nan
  pub two : q ≡ get_or (odds_two f t a d) i nan
  pub three : r ≡ get_or (evens_three f t a d) i nan

-- what pair i is made of: odd entry i after the second step, and after the third even entry i and its right neighbour, which is the last where i is
pub record Pair (f : Format) (t : Set) (a d : List ℕ) (i : ℕ) (q r n : Float) : Type 0 where
  pub inside : i < length d / width f
  pub two : q ≡ get_or (odds_two f t a d) i nan
  pub three : r ≡ get_or (evens_three f t a d) i nan
  pub next : n ≡ get_or (evens_three f t a d) (min (i + 1) (length a / width f - 1)) nan

-- both of what the code holds, where v is what a float of it stands for
abbrev pub Carries : {A : Type 0} → Format → (A → Float) → Factors A → List ℕ → List ℕ → ℕ → Carry A → Type 0
Carries f v t a d i s = Carried f (set_of v t) a d i (v s.one) (v s.two) (v s.three)

abbrev pub Pairs : {A : Type 0} → Format → (A → Float) → Factors A → List ℕ → List ℕ → ℕ → Parts A → Type 0
Pairs f v t a d i p = Pair f (set_of v t) a d i (v p.two) (v p.three) (v p.next)

-- x, which has room for the samples, holds the first 2 i of them
abbrev pub Restoring : Format → Set → List ℕ → List ℕ → List ℕ → ℕ → Type 0
Restoring f t a d x i = Front (width f) (length a / width f + length d / width f) (2 * i) (in_turn f (evens_three f t a d) (odds_four f t a d)) x
