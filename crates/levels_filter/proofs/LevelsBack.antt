-- `multi_idwt`, one level at a time from the deepest: what a level is lent, and what is left for those after it. Looks into no filter.
use mathlib.Core.Path.{◌≡◌, refl, ap, ◌∙◌}
use mathlib.Core.List.{List, [], ◌∷◌}
use Prim.Native.Nat.{ℕ, ◌+◌, ◌-◌, ◌*◌, ◌≤◌}
use native.Mathlib.Nat.{mul-add}
use native.Mathlib.Omega.{arith}
use lib.ListN.{length, take, drop}
use lib.Seq.{take_all}
use Rattle.base_lengths.specs.Calls.{Level}
use Rattle.levels_filter.specs.declared.filter.Filter.{Filter}
use Rattle.levels_filter.specs.Filters.{width_of, wavelet_of, back_of}
use Rattle.levels_filter.specs.Pyramids.{samples_of}
use Rattle.levels_filter.specs.Backward.{total, Fits, Rising}

-- the room of the approximations
pub rise-front : (f : Filter) (a : ℕ) (ms : List ℕ) (d u v o : ℕ) → Rising f a ms d u v o → width_of f * a ≤ u
rise-front f a ms d u v o r = omega (arith, r.first, mul-add (width_of f) a (total ms))

-- one level back of a approximations and m details, ms the lengths after it
module _ {f : Filter} {a m : ℕ} {ms : List ℕ} {d u v o : ℕ} (r : Rising f a (m ∷ ms) d u v o) where
  abbrev all : a + total (m ∷ ms) ≡ a + m + total ms
  unfolding total
  all = omega arith

  -- its lengths are those of a level
  pub rise-level : Level (wavelet_of f) (width_of f) (a + m) (width_of f * (a + m)) (width_of f * a) (width_of f * m)
  unfolding Fits
  rise-level =
      let p = r.fits in
      record { long = p.0; short = omega (arith, r.short, all); samples = refl; approx = ap (λ n. width_of f * n) p.1; details = ap (λ n. width_of f * n) p.2 }

  -- the room that it takes, of the two work areas, of the details and of the output
  pub rise-room : (width_of f * a ≤ u) × (width_of f * (a + m) ≤ v) × (width_of f * m ≤ d) × (width_of f * (a + m) ≤ o)
  unfolding total
  rise-room =
      let e = mul-add (width_of f) a (m + total ms) in
      let g = mul-add (width_of f) m (total ms) in
      let h = mul-add (width_of f) a m in
      (omega (arith, r.first, e), omega (arith, r.second, e, g, h), omega (arith, r.details, g), omega (arith, r.output, e, g, h))

  -- and what is left for the levels after it, the work areas exchanged
  pub rise-next : {c v' : ℕ} → c ≡ d - width_of f * m → v' ≡ v → Rising f (a + m) ms c v' u o
  unfolding Fits total
  rise-next e z =
      let g = mul-add (width_of f) m (total ms) in
      record {
        fits = r.fits.3;
        short = omega (arith, r.short, all);
        details = omega (arith, r.details, e, g);
        first = rw z (rw all at r.second);
        second = rw all at r.first;
        output = r.output ∙ ap (λ n. width_of f * n) all;
      }

  -- the last level
  pub rise-last : ms ≡ [] → (d ≡ width_of f * m) × (o ≡ width_of f * (a + m))
  unfolding total
  rise-last e =
      let z : total ms ≡ 0 = ap total e in
      let g : m + total ms ≡ m = omega arith in
      (r.details ∙ ap (λ n. width_of f * n) g, r.output ∙ ap (λ n. width_of f * (a + n)) g)

-- the samples of lengths l, of which the first is m
module _ (f : Filter) (a d l : List ℕ) (m : ℕ) (ms : List ℕ) (e : l ≡ m ∷ ms) where
  pub samples-next : samples_of f a d l ≡ samples_of f (back_of f a (take (width_of f * m) d)) (drop (width_of f * m) d) ms
  unfolding samples_of
  samples-next = ap (samples_of f a d) e

  pub samples-last : ms ≡ [] → length d ≡ width_of f * m → samples_of f a d l ≡ back_of f a d
  unfolding samples_of
  samples-last z h =
      samples-next
      ∙ ap (samples_of f (back_of f a (take (width_of f * m) d)) (drop (width_of f * m) d)) z
      ∙ ap (back_of f a) (take_all (width_of f * m) d (omega arith))
