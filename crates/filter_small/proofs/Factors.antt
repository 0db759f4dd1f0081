-- The factors of 9/7 are at most 2 in size, forward and with signs changed.
use native.Mathlib.Omega.{arith}
use lib.Ieee.{Float, nan, inf, fin, Format, binary32, binary64, neg, round}
use Rattle.filter_floats.specs.Filters.{Set, decimal, rounded, factors32, factors64, factors_of, turned}
use Rattle.filter_small.specs.Small.{Factor}

pub record Factors (t : Set) : Type 0 where
  pub alpha : Factor t.alpha
  pub beta : Factor t.beta
  pub gamma : Factor t.gamma
  pub delta : Factor t.delta
  pub k : Factor t.k
  pub invk : Factor t.invk

pub factors : (f : Format) → Factors (factors_of f)
unfolding factors32 factors64 rounded decimal round
factors binary32 = record { alpha = omega arith; beta = omega arith; gamma = omega arith; delta = omega arith; k = omega arith; invk = omega arith }
factors binary64 = record { alpha = omega arith; beta = omega arith; gamma = omega arith; delta = omega arith; k = omega arith; invk = omega arith }

neg-factor : (c : Float) → Factor c → Factor (neg c)
unfolding neg
neg-factor nan h = h
neg-factor (inf s) h = h
neg-factor (fin s m e) h = h

pub factors-turned : (t : Set) → Factors t → Factors (turned t)
unfolding turned
factors-turned t h = record {
  alpha = neg-factor t.alpha h.alpha;
  beta = neg-factor t.beta h.beta;
  gamma = neg-factor t.gamma h.gamma;
  delta = neg-factor t.delta h.delta;
  k = h.k;
  invk = h.invk;
}
