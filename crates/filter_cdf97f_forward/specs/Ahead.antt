-- 9/7 forward as the blocks make it, by the set t: after the two steps that `odds_to` and `evens_to` are, two more and the scaling. Over the format.
use Rattle.std.specs.Prelude.{Bool, true, List, ◌≡◌, ℕ, ◌+◌, ◌-◌, ◌/◌, ◌≤◌, Float, map, length, get_or}
use Rattle.std.specs.Float.{nan, Format}
use Rattle.base_lengths.specs.Lengths.{approx_length, details_length}
use Rattle.base_samples.specs.Words.{Holds, Front}
use Rattle.base_samples.specs.Floats.{width, encode_floats}
use Rattle.filter_floats.specs.Steps.{lift, evens, odds, scaled}
use Rattle.filter_floats.specs.declared.steps.Factors.{Factors}
use Rattle.filter_floats.specs.Filters.{Set, factors_of}
use Rattle.filter_floats.specs.Kinds.{set_of}
use Rattle.filter_small.specs.declared.rows.Carry.{Carry}
use Rattle.filter_small.specs.declared.rows.Rows.{Rows}
use Rattle.filter_small.specs.Pieces.{Piece}
use Rattle.filter_small.specs.Lists.{odds_to, evens_to, pattern_of}

-- the odds and the evens after the first two steps
abbrev pub odds_one : Format → Set → List ℕ → List Float
odds_one f t x = odds_to f t.alpha x

abbrev pub evens_two : Format → Set → List ℕ → List Float
evens_two f t x = evens_to f t.alpha t.beta x

-- the odds after the third step, and the evens after the fourth
unfoldable pub odds_three : Format → Set → List ℕ → List Float
odds_three f t x = odds (lift f t.gamma) nan (evens_two f t x) (odds_one f t x)

unfoldable pub evens_four : Format → Set → List ℕ → List Float
evens_four f t x = evens (lift f t.delta) nan (evens_two f t x) (odds_three f t x)

-- and scaled: the details and the approximations
unfoldable pub scaled_odds : Format → Set → List ℕ → List Float
scaled_odds f t x = scaled f t.invk (odds_three f t x)

unfoldable pub scaled_evens : Format → Set → List ℕ → List Float
scaled_evens f t x = scaled f t.k (evens_four f t x)

-- x holds four samples or more, and t is the set of the forward filter
pub record Samples (f : Format) (t : Set) (x : List ℕ) : Type 0 where
  pub four : 4 ≤ length x / width f
  pub whole : Holds (width f) (length x / width f) x
  pub set : t ≡ factors_of f

-- and a has room for the approximations and, where both are wanted, d for the details
pub record Ahead (both : Bool) (f : Format) (t : Set) (x a d : List ℕ) : Type 0 where
  pub samples : Samples f t x
  pub approx : Holds (width f) (approx_length (length x / width f)) a
  pub details : both ≡ true → Holds (width f) (details_length (length x / width f)) d

-- what a turn hands to the next: odd entry i after the first step, even entry i after the second, and odd entry i - 1 after the third, or entry 0 where i is 0
pub record Carried (f : Format) (t : Set) (x : List ℕ) (i : ℕ) (p q r : Float) : Type 0 where
  pub one : p ≡ get_or (odds_one f t x) i nan
  pub two : q ≡ get_or (evens_two f t x) i nan
  pub three : r ≡ get_or (odds_three f t x) (i - 1) nan

-- u, v and w hold what the turns before i, and so on to i + n, hand on
pub record Handed (f : Format) (t : Set) (x : List ℕ) (i n : ℕ) (u v w : List Float) : Type 0 where
  pub one : Piece (odds_one f t x) 0 i (n + 1) u
  pub two : Piece (evens_two f t x) 0 i (n + 1) v
  pub three : Piece (odds_three f t x) 1 i (n + 1) w

-- both of what the code holds, where v is what a float of it stands for
abbrev pub Carries : {A : Type 0} → Format → (A → Float) → Factors A → List ℕ → ℕ → Carry A → Type 0
Carries f v t x i s = Carried f (set_of v t) x i (v s.one) (v s.two) (v s.three)

abbrev pub Hands : {A : Type 0} → Format → (A → Float) → Factors A → List ℕ → ℕ → ℕ → Rows A → Type 0
Hands f v t x i n r = Handed f (set_of v t) x i n (map v r.u) (map v r.v) (map v r.w)

-- the first i entries of the bands that are wanted are stored
pub record Splitting (both : Bool) (f : Format) (t : Set) (x a d : List ℕ) (i : ℕ) : Type 0 where
  pub approx : Front (width f) (approx_length (length x / width f)) i (pattern_of f (scaled_evens f t x)) a
  pub details : both ≡ true → Front (width f) (details_length (length x / width f)) i (pattern_of f (scaled_odds f t x)) d

-- all of them are
pub record Split (both : Bool) (f : Format) (t : Set) (x a d : List ℕ) : Type 0 where
  pub approx : a ≡ encode_floats f (scaled_evens f t x)
  pub details : both ≡ true → d ≡ encode_floats f (scaled_odds f t x)
