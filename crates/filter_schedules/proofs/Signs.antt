-- The schedules of 5/3 from the two numbers that the code has, a half and a quarter: by computing at either format.
use mathlib.Core.Bool.{false}
use mathlib.Core.List.{[], ◌∷◌}
use mathlib.Core.Path.{◌≡◌, refl}
use lib.Ieee.{Float, Format, binary32, binary64, neg, round}
use Rattle.filter_floats.specs.Steps.{oddly, evenly}
use Rattle.filter_floats.specs.Filters.{decimal, steps53, back53}

forth : (f : Format) → (oddly (neg (decimal f false 5 1)) ∷ evenly (decimal f false 25 2) ∷ []) ≡ steps53 f
unfolding steps53 decimal round neg
forth binary32 = refl
forth binary64 = refl

back : (f : Format) → (evenly (neg (decimal f false 25 2)) ∷ oddly (decimal f false 5 1) ∷ []) ≡ back53 f
unfolding back53 decimal round neg
back binary32 = refl
back binary64 = refl

module _ (f : Format) {half quarter n : Float} (h : half ≡ decimal f false 5 1) (q : quarter ≡ decimal f false 25 2) where
  pub steps53-made : n ≡ neg half → (oddly n ∷ evenly quarter ∷ []) ≡ steps53 f
  steps53-made e = rw (e, h, q) (forth f)

  pub back53-made : n ≡ neg quarter → (evenly n ∷ oddly half ∷ []) ≡ back53 f
  back53-made e = rw (e, h, q) (back f)
