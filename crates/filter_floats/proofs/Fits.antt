-- Floats to bytes and back, once over the format: what a step makes fits the format, so its bytes are read as it again.
use mathlib.Core.Bool.{cond}
use mathlib.Core.List.{List, [], ◌∷◌}
use mathlib.Core.Logic.{⊎_elim}
use mathlib.Core.Path.{◌≡◌, ap, ◌∙◌}
use Prim.Native.Nat.{ℕ, ◌+◌, ◌*◌, ◌/◌, ◌%◌}
use lib.Dec.{T, eqb}
use lib.Ieee.{Float, nan, Format, fits, mul, add}
use lib.Ieee.Fits.{add-fits, mul-fits, nan-fits, cond-fits}
use lib.ListN.{length, get_or, get_or-eq_default}
use Rattle.base_order.proofs.Order.{lt-or-le}
use Rattle.base_samples.specs.Halves.{even_of, odd_of, joined}
use Rattle.base_samples.specs.Floats.{width, float_at, decode_floats, encode_floats}
use Rattle.base_samples.proofs.Words.{holds}
use Rattle.base_samples.proofs.FloatLaws.{width-pos, length-decode_floats, length-encode_floats, at-decode_floats, decode_floats-is, decode_floats-encode, float_at-fits}
use Rattle.filter_floats.specs.Steps.{lift, odd_at, even_at, odds, evens, scaled, Step, oddly, evenly, scaling, step_a, step_d, run_a, run_d}
use Rattle.filter_floats.specs.Loops.{Stored}

module _ (f : Format) where
  -- the floats xs are read from their bytes
  abbrev pub Fit : List Float → Type 0
  Fit xs = decode_floats f (encode_floats f xs) ≡ xs

  -- the bytes of n such floats
  pub stored-encode : (n : ℕ) (xs : List Float) (s : List ℕ) → s ≡ encode_floats f xs → length xs ≡ n → Fit xs → Stored f n s
  stored-encode n xs s e len fit =
      record {
        holds = holds (width-pos f) s n (ap length e ∙ length-encode_floats f xs ∙ ap (λ m. width f * m) len);
        plain = rw e (ap (encode_floats f) fit);
      }

  pub lift-fits : (c l r x : Float) → T (fits f (lift f c l r x))
  unfolding lift
  lift-fits c l r x = add-fits f (mul f (add f l r) c) x

  -- what is read fits, and so does the nan that stands for what is not there
  pub get_or-fits : (s : List ℕ) (i : ℕ) → T (fits f (get_or (decode_floats f s) i nan))
  get_or-fits s i =
      ⊎_elim
      (λ h. rw (at-decode_floats f s i h) (float_at-fits f s i))
      (λ h. rw (get_or-eq_default (decode_floats f s) nan {n = i} (rw (length-decode_floats f s) h)) (nan-fits f))
      (lt-or-le i (length s / width f))

  pub fit-decode : (s : List ℕ) → Fit (decode_floats f s)
  fit-decode s = rw (decode_floats-is f s) (decode_floats-encode f _ (float_at f s) (λ i h. float_at-fits f s i))

  -- the evens and the odds of what was read
  pub fit-even : (s : List ℕ) → Fit (even_of nan (decode_floats f s))
  unfolding even_of
  fit-even s = decode_floats-encode f _ (λ i. get_or (decode_floats f s) (2 * i) nan) (λ i h. get_or-fits s (2 * i))

  pub fit-odd : (s : List ℕ) → Fit (odd_of nan (decode_floats f s))
  unfolding odd_of
  fit-odd s = decode_floats-encode f _ (λ i. get_or (decode_floats f s) (2 * i + 1) nan) (λ i h. get_or-fits s (2 * i + 1))

  -- and two lists joined
  entry-fits : (a : List Float) → Fit a → (i : ℕ) → T (fits f (get_or a i nan))
  entry-fits a h i = rw h at (get_or-fits (encode_floats f a) i)

  pub fit-joined : (a d : List Float) → Fit a → Fit d → Fit (joined nan a d)
  unfolding joined
  fit-joined a d ha hd =
      decode_floats-encode f (length a + length d) (λ j. cond (eqb (j % 2) 0) (get_or a (j / 2) nan) (get_or d (j / 2) nan))
      (λ j h. cond-fits f (eqb (j % 2) 0) (get_or a (j / 2) nan) (get_or d (j / 2) nan) (entry-fits a ha (j / 2)) (entry-fits d hd (j / 2)))

  pub fit-odds : (c : Float) (a d : List Float) → Fit (odds (lift f c) nan a d)
  unfolding odds odd_at
  fit-odds c a d = decode_floats-encode f (length d) (odd_at (lift f c) nan a d) (λ i h. lift-fits c _ _ _)

  pub fit-evens : (c : Float) (a d : List Float) → Fit (evens (lift f c) nan a d)
  unfolding evens even_at
  fit-evens c a d = decode_floats-encode f (length a) (even_at (lift f c) nan a d) (λ i h. lift-fits c _ _ _)

  pub fit-scaled : (c : Float) (s : List Float) → Fit (scaled f c s)
  unfolding scaled
  fit-scaled c s = decode_floats-encode f (length s) (λ i. mul f (get_or s i nan) c) (λ i h. mul-fits f (get_or s i nan) c)

  pub fit-step_a : (s : Step) (a d : List Float) → Fit a → Fit (step_a f s a d)
  fit-step_a (oddly c) a d h = h
  fit-step_a (evenly c) a d h = fit-evens c a d
  fit-step_a (scaling p q) a d h = fit-scaled p a

  pub fit-step_d : (s : Step) (a d : List Float) → Fit d → Fit (step_d f s a d)
  fit-step_d (oddly c) a d h = fit-odds c a d
  fit-step_d (evenly c) a d h = h
  fit-step_d (scaling p q) a d h = fit-scaled q d

  pub fit-run_a : (ss : List Step) (a d : List Float) → Fit a → Fit d → Fit (run_a f ss a d)
  fit-run_a [] a d ha hd = ha
  fit-run_a (s ∷ ss) a d ha hd = fit-run_a ss (step_a f s a d) (step_d f s a d) (fit-step_a s a d ha) (fit-step_d s a d hd)

  pub fit-run_d : (ss : List Step) (a d : List Float) → Fit a → Fit d → Fit (run_d f ss a d)
  fit-run_d [] a d ha hd = hd
  fit-run_d (s ∷ ss) a d ha hd = fit-run_d ss (step_a f s a d) (step_d f s a d) (fit-step_a s a d ha) (fit-step_d s a d hd)
