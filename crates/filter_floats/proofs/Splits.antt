-- A loop that writes floats from the front, the loop that splits samples into evens and odds and the one that joins them, once over the format.
use mathlib.Core.Bool.{cond}
use mathlib.Core.List.{List}
use mathlib.Core.Path.{◌≡◌, refl, sym, ap, ◌∙◌}
use Prim.Native.Nat.{ℕ, ◌+◌, ◌*◌, ◌/◌, ◌%◌, ◌≤◌, ◌<◌}
use native.Mathlib.Omega.{arith}
use borrow.Author.Tests.{eq-eqb, ne_eqb}
use lib.Dec.{eqb}
use lib.Ieee.{Float, nan, Format, to_bits}
use lib.ListN.{length, get_or}
use Rattle.base_lengths.specs.Lengths.{approx_length, details_length}
use Rattle.base_samples.specs.Words.{tabulate, Front}
use Rattle.base_samples.specs.Halves.{even_of, odd_of, joined}
use Rattle.base_samples.specs.Floats.{width, float_at, put_float, decode_floats, encode_floats}
use Rattle.base_samples.proofs.Fronts.{front-none, front-more, front_at, front-all}
use Rattle.base_samples.proofs.FloatLaws.{length-decode_floats, at-decode_floats, encode_floats-tabulate}
use Rattle.filter_floats.specs.Loops.{Lent}

module _ (f : Format) (n : ℕ) (g : ℕ → Float) where
  -- s is n floats, of which the first i are g 0, .., g (i - 1)
  abbrev pub FloatFront : ℕ → List ℕ → Type 0
  FloatFront i s = Front (width f) n i (λ j. to_bits f (g j)) s

  floats-more : {i j : ℕ} {s t : List ℕ} {v : Float} → FloatFront i s → j ≡ i → i < n → v ≡ g j → t ≡ put_float f s j v → FloatFront (i + 1) t
  unfolding put_float
  floats-more h ej hi e put = front-more h ej hi (ap (to_bits f) e) put

  floats-all : {i : ℕ} {s : List ℕ} → FloatFront i s → i ≡ n → s ≡ encode_floats f (tabulate n g)
  floats-all h e = front-all n h e refl ∙ sym (encode_floats-tabulate f n g)

module _ (f : Format) (x : List ℕ) where
  -- the first i evens of the samples in x are in a, the first i odds in d
  abbrev pub Evens : ℕ → List ℕ → Type 0
  Evens = FloatFront f (approx_length (length x / width f)) (λ i. get_or (decode_floats f x) (2 * i) nan)

  abbrev pub Odds : ℕ → List ℕ → Type 0
  Odds = FloatFront f (details_length (length x / width f)) (λ i. get_or (decode_floats f x) (2 * i + 1) nan)

  evens-more : {i j : ℕ} {s t : List ℕ} → Evens i s → j ≡ i → 2 * i < length x / width f → t ≡ put_float f s j (float_at f x (2 * j)) → Evens (i + 1) t
  evens-more {j = j} h ej hi put = floats-more f _ _ h ej (omega arith) (sym (at-decode_floats f x (2 * j) (omega arith))) put

  pub odds-more : {i : ℕ} {s t : List ℕ} {v : Float} → Odds i s → 2 * i + 1 < length x / width f → v ≡ float_at f x (2 * i + 1) → t ≡ put_float f s i v → Odds (i + 1) t
  odds-more {i} h hi e put = floats-more f _ _ h refl (omega arith) (e ∙ sym (at-decode_floats f x (2 * i + 1) (omega arith))) put

  evens-done : {i : ℕ} {s : List ℕ} → Evens i s → i ≡ approx_length (length x / width f) → s ≡ encode_floats f (even_of nan (decode_floats f x))
  unfolding even_of
  evens-done h e = rw (length-decode_floats f x) (floats-all f _ _ h e)

  pub odds-done : {i : ℕ} {s : List ℕ} → Odds i s → i ≡ details_length (length x / width f) → s ≡ encode_floats f (odd_of nan (decode_floats f x))
  unfolding odd_of
  odds-done h e = rw (length-decode_floats f x) (floats-all f _ _ h e)

-- a and d hold the evens and the odds of the samples in x
abbrev pub Split : Format → List ℕ → List ℕ → List ℕ → Type 0
Split f x a d = (a ≡ encode_floats f (even_of nan (decode_floats f x))) × (d ≡ encode_floats f (odd_of nan (decode_floats f x)))

-- the loop of split, over pairs of samples: i of them are split
pub record Halved (f : Format) (x : List ℕ) (i : ℕ) (a d : List ℕ) : Type 0 where
  pub up_to : i ≤ length x / width f / 2
  pub evens : Evens f x i a
  pub odds : Odds f x i d

module _ {f : Format} {x : List ℕ} where
  pub halved_none : {a d : List ℕ} → Lent f x a d → Halved f x 0 a d
  halved_none l = record { up_to = omega arith; evens = front-none _ l.approx; odds = front-none _ l.details }

  module _ {i : ℕ} {a d : List ℕ} (h : Halved f x i a d) where
    pub halved-more : {a' d' : List ℕ} → i < length x / width f / 2 → a' ≡ put_float f a i (float_at f x (2 * i)) → d' ≡ put_float f d i (float_at f x (2 * i + 1)) → Halved f x (i + 1) a' d'
    halved-more l ea ed =
        record {
          up_to = omega arith;
          evens = evens-more f x h.evens refl (omega arith) ea;
          odds = odds-more f x h.odds (omega arith) refl ed;
        }

    pub halved-done : length x / width f / 2 ≤ i → (length x / width f % 2 ≡ 1 → ⊥) → Split f x a d
    halved-done l even = (evens-done f x h.evens (omega arith), odds-done f x h.odds (omega arith))

    -- the last of an odd number of samples is an even one
    pub halved-done-odd : {k : ℕ} {a' : List ℕ} → k ≡ length x / width f / 2 → k ≤ i → length x / width f % 2 ≡ 1 → a' ≡ put_float f a k (float_at f x (2 * k)) → Split f x a' d
    halved-done-odd e l odd ea = (evens-done f x (evens-more f x h.evens (omega arith) (omega arith) ea) (omega arith), odds-done f x h.odds (omega arith))

module _ (f : Format) (a d : List ℕ) where
  -- float j of a and d, one of each in turn
  abbrev pub join_at : ℕ → Float
  join_at j = cond (eqb (j % 2) 0) (get_or (decode_floats f a) (j / 2) nan) (get_or (decode_floats f d) (j / 2) nan)

  join-even : (i : ℕ) → i < length a / width f → float_at f a i ≡ join_at (2 * i)
  join-even i h =
      let half : 2 * i / 2 ≡ i = omega arith in
      rw (eq-eqb (2 * i % 2) 0 (omega arith), half) (sym (at-decode_floats f a i h))

  join-odd : (i : ℕ) → i < length d / width f → float_at f d i ≡ join_at (2 * i + 1)
  join-odd i h =
      let half : (2 * i + 1) / 2 ≡ i = omega arith in
      rw (ne_eqb ((2 * i + 1) % 2) 0 (omega arith), half) (sym (at-decode_floats f d i h))

-- the loop of join, over pairs: i floats of each of a and d are in s, which was x
pub record Paired (f : Format) (a d x : List ℕ) (i : ℕ) (s : List ℕ) : Type 0 where
  pub lent : Lent f x a d
  pub up_to : i ≤ length x / width f / 2
  pub pairs : FloatFront f (length x / width f) (join_at f a d) (2 * i) s

module _ {f : Format} {a d x : List ℕ} where
  pub paired_none : Lent f x a d → Paired f a d x 0 x
  paired_none l = record { lent = l; up_to = omega arith; pairs = front-none _ l.samples }

  module _ {i : ℕ} {s : List ℕ} (h : Paired f a d x i s) where
    pub paired-more : {t r : List ℕ} → i < length x / width f / 2 → t ≡ put_float f s (2 * i) (float_at f a i) → r ≡ put_float f t (2 * i + 1) (float_at f d i) → Paired f a d x (i + 1) r
    paired-more l et er =
        let n = length x / width f in
        let na = h.lent.approx.count in
        let nd = h.lent.details.count in
        let one = floats-more f n (join_at f a d) h.pairs refl (omega arith) (join-even f a d i (omega arith)) et in
        let two = floats-more f n (join_at f a d) one refl (omega arith) (join-odd f a d i (omega arith)) er in
        record { lent = h.lent; up_to = omega arith; pairs = front_at (2 * (i + 1)) two (omega arith) }

    joined_at : {j : ℕ} {t : List ℕ} → FloatFront f (length x / width f) (join_at f a d) j t → j ≡ length x / width f → t ≡ encode_floats f (joined nan (decode_floats f a) (decode_floats f d))
    unfolding joined
    joined_at q e =
        let n : length x / width f ≡ length a / width f + length d / width f = omega (arith, h.lent.approx.count, h.lent.details.count) in
        rw (length-decode_floats f a, length-decode_floats f d, ← n) (floats-all f _ _ q e)

    pub paired-done : length x / width f / 2 ≤ i → (length x / width f % 2 ≡ 1 → ⊥) → s ≡ encode_floats f (joined nan (decode_floats f a) (decode_floats f d))
    paired-done l even = joined_at h.pairs (omega (arith, h.up_to))

    -- the last of an odd number of samples is an approximation
    pub paired-done-odd : {k : ℕ} {t : List ℕ} → k ≡ length x / width f / 2 → k ≤ i → length x / width f % 2 ≡ 1
        → t ≡ put_float f s (2 * k) (float_at f a k) → t ≡ encode_floats f (joined nan (decode_floats f a) (decode_floats f d))
    paired-done-odd {k} e l odd et =
        let n = length x / width f in
        let na = h.lent.approx.count in
        joined_at (floats-more f n (join_at f a d) h.pairs (omega arith) (omega arith) (join-even f a d k (omega arith)) et) (omega arith)
