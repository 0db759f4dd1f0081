-- A loop that goes over stored floats from the front and writes some of them where they stand, once over the format.
use mathlib.Core.Bool.{cond}
use mathlib.Core.List.{List}
use mathlib.Core.Logic.{⊎_elim}
use mathlib.Core.Path.{◌≡◌, sym, ap, ◌∙◌}
use Prim.Native.Nat.{ℕ, ◌+◌, ◌≤◌, ◌<◌}
use native.Mathlib.Omega.{arith}
use borrow.Author.Tests.{lt-ltb, le-ltb}
use lib.Dec.{T, ltb}
use lib.Ieee.{Float, nan, Format, fits}
use lib.ListN.{length, get_or}
use Rattle.base_order.proofs.Order.{lt-or-le}
use Rattle.base_samples.specs.Words.{tabulate, Holds}
use Rattle.base_samples.specs.Floats.{width, float_at, put_float, decode_floats, encode_floats, Plain}
use Rattle.base_samples.proofs.Words.{tabulate-same, tabulate-get_or, holds_on}
use Rattle.base_samples.proofs.FloatLaws.{length-put_float, length-decode_floats, float_at-encode, plain-encode, put-encode}
use Rattle.filter_floats.specs.Loops.{Stored}
use Rattle.filter_floats.proofs.Fits.{get_or-fits}

-- entry i where the first j entries are new ones
abbrev pub mix : (ℕ → Float) → (ℕ → Float) → ℕ → ℕ → Float
mix new old j i = cond (ltb i j) (new i) (old i)

-- s is n floats, of which the first j are the new ones, and the others still the old
pub record Midway (f : Format) (n j : ℕ) (new old : ℕ → Float) (s : List ℕ) : Type 0 where
  pub holds : Holds (width f) n s
  pub bytes : s ≡ encode_floats f (tabulate n (mix new old j))

mix-new : (new old : ℕ → Float) (j i : ℕ) → i < j → mix new old j i ≡ new i
mix-new new old j i h = rw (lt-ltb i j h)

mix-old : (new old : ℕ → Float) (j i : ℕ) → j ≤ i → mix new old j i ≡ old i
mix-old new old j i h = rw (le-ltb i j h)

-- one place more
mix-more : (new old : ℕ → Float) (j i : ℕ) → (i ≡ j → ⊥) → mix new old (j + 1) i ≡ mix new old j i
mix-more new old j i ne =
    ⊎_elim
    (λ h. mix-new new old (j + 1) i (omega arith) ∙ sym (mix-new new old j i h))
    (λ h. mix-old new old (j + 1) i (above i j h ne) ∙ sym (mix-old new old j i h))
    (lt-or-le i j)
  where
    above : (i j : ℕ) → j ≤ i → (i ≡ j → ⊥) → j + 1 ≤ i
    above i j h ne = ⊎_elim (λ l. omega arith) (λ l. absurd (ne (omega arith))) (lt-or-le j i)

-- the floats that s has
abbrev pub floats_of : Format → List ℕ → ℕ → Float
floats_of f s i = get_or (decode_floats f s) i nan

module _ {f : Format} {n : ℕ} where
  -- nothing is passed yet
  pub midway-none : {s : List ℕ} (new : ℕ → Float) → Stored f n s → Midway f n 0 new (floats_of f s) s
  midway-none {s} new h =
      let len : length (decode_floats f s) ≡ n = length-decode_floats f s ∙ h.holds.count in
      record {
        holds = h.holds;
        bytes =
            sym h.plain
            ∙ ap (encode_floats f)
            (sym (tabulate-get_or (decode_floats f s) nan)
            ∙ rw len (tabulate-same n (floats_of f s) (mix new (floats_of f s) 0) (λ i l. sym (mix-old new (floats_of f s) 0 i (omega arith)))));
      }

  module _ {j : ℕ} {new old : ℕ → Float} {s : List ℕ} (m : Midway f n j new old s) where
    -- float j is written
    pub midway-put : {t : List ℕ} {v : Float} → j < n → v ≡ new j → t ≡ put_float f s j v → Midway f n (j + 1) new old t
    midway-put {t} {v} h e put =
        record {
          holds = holds_on t m.holds (ap length put ∙ length-put_float f s j v);
          bytes =
              put
              ∙ ap (λ r. put_float f r j v) m.bytes
              ∙ put-encode f n (mix new old j) (mix new old (j + 1)) j v h (mix-new new old (j + 1) j (omega arith) ∙ sym e) (λ i l ne. mix-more new old j i ne);
        }

    -- or stays as it is
    pub midway-skip : (j < n → new j ≡ old j) → Midway f n (j + 1) new old s
    midway-skip e =
        record {
          holds = m.holds;
          bytes =
              m.bytes
              ∙ ap (encode_floats f) (tabulate-same n (mix new old j) (mix new old (j + 1)) (λ i l. ⊎_elim (λ h. sym (mix-more new old j i (λ q. omega arith))) (λ h. ⊎_elim (λ k. sym (mix-more new old j i (λ q. omega arith))) (λ k. here i (omega arith) l) (lt-or-le j i)) (lt-or-le i j)));
        }
      where
        here : (i : ℕ) → i ≡ j → i < n → mix new old j i ≡ mix new old (j + 1) i
        here i q l = rw q (mix-old new old j j (omega arith) ∙ sym (e (rw q at l)) ∙ sym (mix-new new old (j + 1) j (omega arith)))

    -- all are passed
    pub midway-all : n ≤ j → s ≡ encode_floats f (tabulate n new)
    midway-all h = m.bytes ∙ ap (encode_floats f) (tabulate-same n (mix new old j) new (λ i l. mix-new new old j i (omega arith)))

-- a float that is not passed yet, or that stays, is still the old one, and stands as it is written
module _ {f : Format} {n j : ℕ} {new : ℕ → Float} {s : List ℕ} (t : List ℕ) (m : Midway f n j new (floats_of f t) s) (i : ℕ) (l : i < n) where
  module _ (e : mix new (floats_of f t) j i ≡ floats_of f t i) where
    fit : T (fits f (mix new (floats_of f t) j i))
    fit = rw e (get_or-fits f t i)

    same : float_at f s i ≡ floats_of f t i
    same = rw m.bytes (float_at-encode f n (mix new (floats_of f t) j) i l fit ∙ e)

    plain : Plain f s i
    plain = rw m.bytes (plain-encode f n (mix new (floats_of f t) j) i l fit)

  module _ (k : j ≤ i) where
    pub midway-later : float_at f s i ≡ floats_of f t i
    midway-later = same (mix-old new (floats_of f t) j i k)

    later-plain : Plain f s i
    later-plain = plain (mix-old new (floats_of f t) j i k)

  module _ (e : new i ≡ floats_of f t i) where
    stays : mix new (floats_of f t) j i ≡ floats_of f t i
    stays = ⊎_elim (λ k. mix-new new (floats_of f t) j i k ∙ e) (λ k. mix-old new (floats_of f t) j i k) (lt-or-le i j)

    pub midway-kept : float_at f s i ≡ floats_of f t i
    midway-kept = same stays

    pub kept-plain : Plain f s i
    kept-plain = plain stays

module _ {f : Format} {n : ℕ} {s : List ℕ} where
  pub midway-plain : {j i : ℕ} {new : ℕ → Float} (t : List ℕ) → Midway f n j new (floats_of f t) s → j ≤ i → i < n → Plain f s i
  midway-plain {i = i} t m k l = later-plain t m i l k

  pub stored-plain : {i : ℕ} → Stored f n s → i < n → Plain f s i
  stored-plain h l = midway-plain s (midway-none (floats_of f s) h) (omega arith) l
