-- Document 02's figures of C-16, and its neighbours: lengths in bytes, and what each call answers.
use Rattle.std.specs.Prelude.{[], ◌∷◌, ◌≡◌}
use Rattle.base_answers.specs.Answers.{say, answer_of}
use Rattle.base_lengths.specs.declared.Wavelet.TheVariants.{Cdf53, Cdf97}
use Rattle.base_lengths.specs.Calls.{say_forward, say_inverse}
use Rattle.levels_filter.specs.declared.filter.Filter.TheVariants.{Cdf53I8, Cdf97F32}
use Rattle.levels_filter.specs.Calls.{say_dwt}
use Rattle.levels_filter.specs.Backward.{say_back}

pub record Figures : Type 0 where
  -- "01's last two inverse figures become 17 (1, 0) and 17 (2, 1)": 2 and 0 of 8 bits, output 2; 9/7 of 2 and 1 of 32 bits, output 3
  pub inverse-53 : answer_of (say_inverse Cdf53 1 2 0 2) ≡ say 17 1 0
  pub inverse-97 : answer_of (say_inverse Cdf97 4 8 4 12) ≡ say 17 2 1
  -- the one other 17 of an inverse: no details at all in 9/7
  pub none-97 : answer_of (say_inverse Cdf97 4 8 0 8) ≡ say 17 2 0
  -- "(got, n) forward": 5 samples, 3 approximations, 1 detail
  pub forward : answer_of (say_forward Cdf53 1 5 3 1) ≡ say 17 1 5
  -- where both bands are wrong it is 2
  pub both : answer_of (say_forward Cdf53 1 5 2 1) ≡ say 2 2 5
  pub both-back : answer_of (say_inverse Cdf53 1 1 0 1) ≡ say 2 2 1
  -- and in the inverse 3, where the output is not their sum: before a 2, and before a 17
  pub sum_first : answer_of (say_inverse Cdf53 1 1 0 2) ≡ say 3 2 1
  pub sum-first-too : answer_of (say_inverse Cdf53 1 2 0 1) ≡ say 3 1 2
  -- `dwt`: the second level of 5 samples has 3, and 17 comes before the work areas
  pub last : answer_of (say_dwt Cdf53I8 2 5 2 0 0 0) ≡ say 17 0 3
  pub last_fits : answer_of (say_dwt Cdf53I8 2 5 2 1 0 0) ≡ say 7 0 5
  -- `multi_idwt`: the deepest level, of 2 and 0, comes before the next, of 2 and 5, which alone would be 2 (4, 2)
  pub deepest : answer_of (say_back Cdf53I8 2 5 (0 ∷ 0 ∷ 0 ∷ 0 ∷ 5 ∷ 0 ∷ 0 ∷ 0 ∷ []) 0 0 0) ≡ say 17 1 0
  pub deepest-97 : answer_of (say_back Cdf97F32 8 4 (1 ∷ 0 ∷ 0 ∷ 0 ∷ []) 0 0 0) ≡ say 17 2 1
  -- the level above one that fits, of 3 and 0, by its approximations
  pub above : answer_of (say_back Cdf53I8 2 1 (1 ∷ 0 ∷ 0 ∷ 0 ∷ 0 ∷ 0 ∷ 0 ∷ 0 ∷ []) 0 0 0) ≡ say 2 2 3
