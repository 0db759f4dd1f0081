-- The float filters as schedules of steps, and their factors, from document 01. Factors are decimal fractions rounded once to f64; "the f32 set is these f64
-- numbers rounded once".
use Rattle.std.specs.Prelude.{Bool, true, false, List, [], ◌∷◌, ℕ, ◌*◌, ◌^◌, Float}
use Rattle.std.specs.Float.{nan, inf, fin, Format, binary32, binary64}
use Rattle.std.specs.Float.Ieee.{up, down, round, neg}
use Rattle.base_lengths.specs.declared.Wavelet.{Wavelet}
use Rattle.base_lengths.specs.declared.Wavelet.TheVariants.{Cdf53, Cdf97}
use Rattle.filter_floats.specs.Steps.{Step, oddly, evenly, scaling}

-- digits / 10 ^ places, below zero where s says so, rounded once
unfoldable pub decimal : Format → Bool → ℕ → ℕ → Float
decimal f s digits count_at = round f s digits (10 ^ count_at)

-- a float rounded once to the format f
unfoldable pub rounded : Format → Float → Float
rounded f nan = nan
rounded f (inf s) = inf s
rounded f (fin s m e) = round f s (m * up e) (down e)

-- "the six factors travel together as one set"
pub record Set : Type 0 where
  pub alpha : Float
  pub beta : Float
  pub gamma : Float
  pub delta : Float
  pub k : Float
  pub invk : Float

unfoldable pub factors64 : Set
factors64 = record {
  alpha = decimal binary64 true 15861343420693648 16;
  beta = decimal binary64 true 529801185718856 16;
  gamma = decimal binary64 false 8829110755411875 16;
  delta = decimal binary64 false 4435068520511142 16;
  k = decimal binary64 false 11496043988602418 16;
  invk = decimal binary64 false 86986445162478079 17;
}

unfoldable pub factors32 : Set
factors32 = record {
  alpha = rounded binary32 factors64.alpha;
  beta = rounded binary32 factors64.beta;
  gamma = rounded binary32 factors64.gamma;
  delta = rounded binary32 factors64.delta;
  k = rounded binary32 factors64.k;
  invk = rounded binary32 factors64.invk;
}

abbrev pub factors_of : Format → Set
factors_of binary32 = factors32
factors_of binary64 = factors64

-- the four lifting factors "with signs changed"
unfoldable pub turned : Set → Set
turned t = record { alpha = neg t.alpha; beta = neg t.beta; gamma = neg t.gamma; delta = neg t.delta; k = t.k; invk = t.invk }

-- "odds ALPHA, evens BETA, odds GAMMA, evens DELTA, scale (K, INV_K)"
unfoldable pub steps97 : Set → List Step
steps97 t = oddly t.alpha ∷ evenly t.beta ∷ oddly t.gamma ∷ evenly t.delta ∷ scaling t.k t.invk ∷ []

-- "Inverse: scale (INV_K, K), then the four with signs changed, last first": t is the set with signs changed
unfoldable pub back97 : Set → List Step
back97 t = scaling t.invk t.k ∷ evenly t.delta ∷ oddly t.gamma ∷ evenly t.beta ∷ oddly t.alpha ∷ []

-- "odds -0.5, evens 0.25. Inverse: evens -0.25, odds 0.5"
unfoldable pub steps53 : Format → List Step
steps53 f = oddly (decimal f true 5 1) ∷ evenly (decimal f false 25 2) ∷ []

unfoldable pub back53 : Format → List Step
back53 f = evenly (decimal f true 25 2) ∷ oddly (decimal f false 5 1) ∷ []

-- a filter's schedules
abbrev pub steps_of : Format → Wavelet → List Step
steps_of f Cdf53 = steps53 f
steps_of f Cdf97 = steps97 (factors_of f)

abbrev pub back_steps : Format → Wavelet → List Step
back_steps f Cdf53 = back53 f
back_steps f Cdf97 = back97 (turned (factors_of f))
