-- The two lists that two lifting steps make of three samples or more, entry by entry as code makes them of the samples, and how large they are. Once over the format.
use mathlib.Core.List.{List}
use mathlib.Core.Path.{◌≡◌, refl, ◌∙◌}
use Prim.Native.Nat.{ℕ, ◌+◌, ◌-◌, ◌*◌, ◌/◌, ◌≤◌, ◌<◌, min}
use native.Mathlib.Omega.{arith}
use lib.Ieee.{Float, nan, Format, binary32, binary64}
use lib.ListN.{length, get_or}
use Rattle.base_samples.specs.Floats.{width, float_at}
use Rattle.filter_floats.specs.Steps.{lift}
use Rattle.filter_small.specs.Small.{Small, Factor, SmallFrom}
use Rattle.filter_small.specs.Lists.{even_in, odd_in, odds_to, evens_to}
use Rattle.filter_small.proofs.Sizes as sizes
use Rattle.filter_small.proofs.Lifts as lifts
use Rattle.filter_small.proofs.Lifts.{length-even_in, length-odd_in, even-in, odd-in}

pub far : (f : Format) → sizes.size_read f + 9 + 9 < sizes.ceiling f
far binary32 = omega arith
far binary64 = omega arith

module _ (f : Format) (x : List ℕ) (long : 3 ≤ length x / width f) where
  module _ (c : Float) where
    pub length-odds_to : length (odds_to f c x) ≡ length x / width f / 2
    unfolding odds_to
    length-odds_to = lifts.length-odds f c (even_in f x) (odd_in f x) ∙ length-odd_in f x

    -- as the code makes them, of the samples l, m and r of x
    pub odd-made : (i j l m r : ℕ) {y z t : Float} → i < length x / width f / 2 → j ≡ min (i + 1) ((length x / width f + 1) / 2 - 1) → l ≡ 2 * i → m ≡ 2 * i + 1 → r ≡ 2 * j
        → y ≡ float_at f x l → z ≡ float_at f x r → t ≡ float_at f x m → lift f c y z t ≡ get_or (odds_to f c x) i nan
    unfolding odds_to
    odd-made i j l m r h ej el em er ey ez et =
        lifts.odd-made f c (even_in f x) (odd_in f x) i j (rw (length-odd_in f x) h) (rw (length-even_in f x) ej)
        (ey ∙ even-in f x i l el (omega arith)) (ez ∙ even-in f x j r er (omega arith)) (et ∙ odd-in f x i m em (omega arith))

    -- small samples around leave it small: those from 2 i on, to 2 i + 2
    pub odd-small : (i : ℕ) → i < length x / width f / 2 → Factor c → SmallFrom f x (2 * i) (2 * i + 3) → Small f (sizes.size_read f + 9) (get_or (odds_to f c x) i nan)
    unfolding odds_to
    odd-small i h k w =
        let j = min (i + 1) ((length x / width f + 1) / 2 - 1) in
        lifts.odd-small f c (even_in f x) (odd_in f x) (sizes.size_read f) k (omega (arith, far f)) i j (rw (length-odd_in f x) h) (rw (length-even_in f x) refl)
        (lifts.even-in-small w i (omega arith) (omega arith) (omega arith)) (lifts.even-in-small w j (omega arith) (omega arith) (omega arith)) (lifts.odd-in-small w i (omega arith) (omega arith) (omega arith))

    module _ (g : Float) where
      pub length-evens_to : length (evens_to f c g x) ≡ (length x / width f + 1) / 2
      unfolding evens_to
      length-evens_to = lifts.length-evens f g (even_in f x) (odds_to f c x) ∙ length-even_in f x

      pub even-made : (i l r k : ℕ) {y z t : Float} → i < (length x / width f + 1) / 2 → l ≡ i - 1 → r ≡ min i (length x / width f / 2 - 1) → k ≡ 2 * i
          → y ≡ get_or (odds_to f c x) l nan → z ≡ get_or (odds_to f c x) r nan → t ≡ float_at f x k → lift f g y z t ≡ get_or (evens_to f c g x) i nan
      unfolding evens_to
      even-made i l r k h el er ek ey ez et =
          lifts.even-made f g (even_in f x) (odds_to f c x) i l r (rw (length-even_in f x) h) el (rw length-odds_to er) ey ez (et ∙ even-in f x i k ek (omega arith))

      -- those from 2 i - 2 on, to 2 i + 2
      pub even-small : (i : ℕ) → i < (length x / width f + 1) / 2 → Factor c → Factor g → SmallFrom f x (2 * i - 2) (2 * i + 3) → Small f (sizes.size_read f + 9 + 9) (get_or (evens_to f c g x) i nan)
      unfolding evens_to
      even-small i h kc kg w =
          let r = min i (length x / width f / 2 - 1) in
          lifts.even-small f g (even_in f x) (odds_to f c x) (sizes.size_read f + 9) kg (far f) i (i - 1) r (rw (length-even_in f x) h) refl (rw length-odds_to refl)
          (odd-small (i - 1) (omega arith) kc (sizes.small-part _ _ w (omega arith) (omega arith)))
          (odd-small r (omega arith) kc (sizes.small-part _ _ w (omega arith) (omega arith)))
          (sizes.small-le f (get_or (even_in f x) i nan) (sizes.size_read f) (sizes.size_read f + 9) (lifts.even-in-small w i (omega arith) (omega arith) (omega arith)) (omega arith))
