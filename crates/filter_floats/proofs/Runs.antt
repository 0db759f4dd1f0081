-- Schedules on two bands, once over the format: lengths stay, one step more, and what a whole schedule leaves.
use mathlib.Core.List.{List, [], ◌∷◌, ◌++◌, map}
use mathlib.Core.Path.{◌≡◌, refl, sym, ap, ◌∙◌}
use Prim.Native.Nat.{ℕ, ◌+◌, ◌/◌, ◌<◌}
use native.Mathlib.Numerals.{add-one}
use lib.Ieee.{Float, Format}
use lib.ListN.{length, get_or, take, length-map, get_or-map}
use lib.Seq.{take-suc}
use Rattle.base_samples.specs.Floats.{width, decode_floats}
use Rattle.base_samples.proofs.Words.{length-tabulate}
use Rattle.base_samples.proofs.FloatLaws.{length-decode_floats}
use Rattle.filter_floats.specs.Steps.{odds, evens, scaled, Step, oddly, evenly, scaling, step_a, step_d, run_a, run_d}
use Rattle.filter_floats.specs.Loops.{Stored, StoredBands, Ran}
use Rattle.filter_floats.proofs.Fits.{stored-encode, fit-decode, fit-run_a, fit-run_d}

module _ (f : Format) where
  length-step_a : (s : Step) (a d : List Float) → length (step_a f s a d) ≡ length a
  unfolding evens scaled
  length-step_a (oddly c) a d = refl
  length-step_a (evenly c) a d = length-tabulate (length a) _
  length-step_a (scaling p q) a d = length-tabulate (length a) _

  length-step_d : (s : Step) (a d : List Float) → length (step_d f s a d) ≡ length d
  unfolding odds scaled
  length-step_d (oddly c) a d = length-tabulate (length d) _
  length-step_d (evenly c) a d = refl
  length-step_d (scaling p q) a d = length-tabulate (length d) _

  pub length-run_a : (ss : List Step) (a d : List Float) → length (run_a f ss a d) ≡ length a
  length-run_a [] a d = refl
  length-run_a (s ∷ ss) a d = length-run_a ss (step_a f s a d) (step_d f s a d) ∙ length-step_a s a d

  pub length-run_d : (ss : List Step) (a d : List Float) → length (run_d f ss a d) ≡ length d
  length-run_d [] a d = refl
  length-run_d (s ∷ ss) a d = length-run_d ss (step_a f s a d) (step_d f s a d) ∙ length-step_d s a d

  -- one schedule after another
  pub run_a-append : (ss ts : List Step) (a d : List Float) → run_a f (ss ++ ts) a d ≡ run_a f ts (run_a f ss a d) (run_d f ss a d)
  run_a-append [] ts a d = refl
  run_a-append (s ∷ ss) ts a d = run_a-append ss ts (step_a f s a d) (step_d f s a d)

  pub run_d-append : (ss ts : List Step) (a d : List Float) → run_d f (ss ++ ts) a d ≡ run_d f ts (run_a f ss a d) (run_d f ss a d)
  run_d-append [] ts a d = refl
  run_d-append (s ∷ ss) ts a d = run_d-append ss ts (step_a f s a d) (step_d f s a d)

module _ {f : Format} {a d : List ℕ} (b : StoredBands f a d) where
  ran-none : Ran f [] a d a d
  ran-none = record { approx = sym b.approx.plain; details = sym b.details.plain }

  module _ {ss : List Step} {a' d' : List ℕ} (r : Ran f ss a d a' d') where
    -- a schedule leaves as many floats
    stored_a : Stored f (length a / width f) a'
    stored_a = stored-encode f _ (run_a f ss (decode_floats f a) (decode_floats f d)) a' r.approx (length-run_a f ss _ _ ∙ length-decode_floats f a) (fit-run_a f ss _ _ (fit-decode f a) (fit-decode f d))

    stored_d : Stored f (length d / width f) d'
    stored_d = stored-encode f _ (run_d f ss (decode_floats f a) (decode_floats f d)) d' r.details (length-run_d f ss _ _ ∙ length-decode_floats f d) (fit-run_d f ss _ _ (fit-decode f a) (fit-decode f d))

    ran-bands : StoredBands f a' d'
    ran-bands =
        let na = stored_a.holds.count in
        let nd = stored_d.holds.count in
        record { approx = rw na stored_a; details = rw nd stored_d; some = rw nd b.some; fewer = rw (na, nd) b.fewer; near = rw (na, nd) b.near }

-- the steps ss, and then the steps ts
ran_then : {f : Format} (ss ts : List Step) {a d a₁ d₁ a₂ d₂ : List ℕ} → Ran f ss a d a₁ d₁ → Ran f ts a₁ d₁ a₂ d₂ → Ran f (ss ++ ts) a d a₂ d₂
ran_then {f} ss ts {a} {d} {a₁} {d₁} r q =
    let x = decode_floats f a in
    let y = decode_floats f d in
    let ea : decode_floats f a₁ ≡ run_a f ss x y = rw r.approx (fit-run_a f ss x y (fit-decode f a) (fit-decode f d)) in
    let ed : decode_floats f d₁ ≡ run_d f ss x y = rw r.details (fit-run_d f ss x y (fit-decode f a) (fit-decode f d)) in
    record {
      approx = q.approx ∙ rw (ea, ed, run_a-append f ss ts x y);
      details = q.details ∙ rw (ea, ed, run_d-append f ss ts x y);
    }

-- the front of a schedule, with one step more
pub front-step {ℓ} : {S : Type ℓ} (kind : S → Step) (s : List S) (z : S) (i : ℕ) → z ≡ get_or s i z → i < length s → take (i + 1) (map kind s) ≡ take i (map kind s) ++ (kind z ∷ [])
front-step kind s z i e h = rw add-one (take-suc (map kind s) i (kind z) (rw (length-map s kind) h) ∙ ap (λ w. take i (map kind s) ++ (w ∷ [])) (get_or-map kind s i z ∙ ap kind (sym e)))

-- the loop over a schedule: the bands are what its first i steps leave
pub record RanTo (f : Format) {S : Type 0} (kind : S → Step) (s : List S) (a d : List ℕ) (i : ℕ) (a₁ d₁ : List ℕ) : Type 0 where
  pub bands : StoredBands f a d
  pub ran : Ran f (take i (map kind s)) a d a₁ d₁

module _ {f : Format} {S : Type 0} {kind : S → Step} {s : List S} {a d : List ℕ} where
  pub ran_to-none : StoredBands f a d → RanTo f kind s a d 0 a d
  ran_to-none b = record { bands = b; ran = ran-none b }

  module _ {i : ℕ} {a₁ d₁ : List ℕ} (r : RanTo f kind s a d i a₁ d₁) where
    pub ran_to-bands : StoredBands f a₁ d₁
    ran_to-bands = ran-bands r.bands r.ran

    pub ran_to-more : {z : S} {a₂ d₂ : List ℕ} → z ≡ get_or s i z → i < length s → Ran f (kind z ∷ []) a₁ d₁ a₂ d₂ → RanTo f kind s a d (i + 1) a₂ d₂
    ran_to-more {z} e h q = record { bands = r.bands; ran = rw (front-step kind s z i e h) (ran_then (take i (map kind s)) (kind z ∷ []) r.ran q) }
