-- Schedules on both bands in one list, once over the format: as on two bands.
use mathlib.Core.List.{List, [], ◌∷◌, ◌++◌, map}
use mathlib.Core.Path.{◌≡◌, sym, ap, ◌∙◌}
use Prim.Native.Nat.{ℕ, ◌+◌, ◌/◌, ◌≤◌, ◌<◌}
use native.Mathlib.Omega.{arith}
use lib.Ieee.{Float, nan, Format}
use lib.ListN.{length, get_or, take}
use Rattle.base_samples.specs.Halves.{even_of, odd_of}
use Rattle.base_samples.specs.Floats.{width, decode_floats, encode_floats}
use Rattle.base_samples.proofs.Halves.{length-even, length-odd, length-joined, joined-halves, even-joined, odd-joined}
use Rattle.base_samples.proofs.FloatLaws.{length-decode_floats}
use Rattle.filter_floats.specs.Steps.{Step, oddly, evenly, scaling, run_a, run_d}
use Rattle.filter_floats.specs.Loops.{Stored}
use Rattle.filter_floats.specs.Lanes.{lane, scaled_lanes, run_on, Lanes, RanOn}
use Rattle.filter_floats.proofs.Fits.{Fit, stored-encode, fit-even, fit-odd, fit-joined, fit-run_a, fit-run_d}
use Rattle.filter_floats.proofs.Lanes.{lane-odds, lane-evens, lanes-scaled}
use Rattle.filter_floats.proofs.Runs.{length-run_a, length-run_d, run_a-append, run_d-append, front-step}

module _ (f : Format) where
  length-run_on : (ss : List Step) (x : List Float) → length (run_on f ss x) ≡ length x
  unfolding run_on
  length-run_on ss x = length-joined nan _ _ ∙ rw (length-run_a, length-run_d, length-even, length-odd) (omega arith)

  fit-run_on : (ss : List Step) (s : List ℕ) → Fit f (run_on f ss (decode_floats f s))
  unfolding run_on
  fit-run_on ss s = fit-joined f _ _ (fit-run_a f ss _ _ (fit-even f s) (fit-odd f s)) (fit-run_d f ss _ _ (fit-even f s) (fit-odd f s))

  -- nothing done, and one schedule after another
  run_on-none : (x : List Float) → run_on f [] x ≡ x
  unfolding run_on
  run_on-none x = joined-halves nan x

  run_on-append : (ss ts : List Step) (x : List Float) → run_on f (ss ++ ts) x ≡ run_on f ts (run_on f ss x)
  unfolding run_on
  run_on-append ss ts x =
      let a = even_of nan x in
      let d = odd_of nan x in
      let na : length (run_a f ss a d) ≡ (length x + 1) / 2 = length-run_a f ss a d ∙ length-even nan x in
      let nd : length (run_d f ss a d) ≡ length x / 2 = length-run_d f ss a d ∙ length-odd nan x in
      rw (run_a-append f ss ts a d, run_d-append f ss ts a d, even-joined nan (run_a f ss a d) (run_d f ss a d) (omega arith) (omega arith), odd-joined nan (run_a f ss a d) (run_d f ss a d) (omega arith) (omega arith))

module _ {f : Format} {x : List ℕ} (l : Lanes f x) where
  ran_on-none : RanOn f [] x x
  ran_on-none = record { output = sym (ap (encode_floats f) (run_on-none f (decode_floats f x)) ∙ l.stored.plain) }

  -- one step
  entries : 2 ≤ length (decode_floats f x)
  entries = rw (length-decode_floats f x) l.long

  pub ran_on-odds : {c : Float} {x' : List ℕ} → x' ≡ encode_floats f (lane f c 1 (decode_floats f x)) → RanOn f (oddly c ∷ []) x x'
  ran_on-odds {c} e = record { output = e ∙ ap (encode_floats f) (lane-odds f (decode_floats f x) entries c) }

  pub ran_on-evens : {c : Float} {x' : List ℕ} → x' ≡ encode_floats f (lane f c 0 (decode_floats f x)) → RanOn f (evenly c ∷ []) x x'
  ran_on-evens {c} e = record { output = e ∙ ap (encode_floats f) (lane-evens f (decode_floats f x) entries c) }

  pub ran_on-scaled : {p q : Float} {x' : List ℕ} → x' ≡ encode_floats f (scaled_lanes f p q (decode_floats f x)) → RanOn f (scaling p q ∷ []) x x'
  ran_on-scaled {p} {q} e = record { output = e ∙ ap (encode_floats f) (lanes-scaled f (decode_floats f x) p q) }

  module _ {ss : List Step} {x' : List ℕ} (r : RanOn f ss x x') where
    -- a schedule leaves as many floats
    stored_on : Stored f (length x / width f) x'
    stored_on = stored-encode f _ (run_on f ss (decode_floats f x)) x' r.output (length-run_on f ss _ ∙ length-decode_floats f x) (fit-run_on f ss x)

    ran_on-lanes : Lanes f x'
    ran_on-lanes = let n = stored_on.holds.count in record { stored = rw n stored_on; long = rw n l.long }

-- the steps ss, and then the steps ts
ran_on-then : {f : Format} (ss ts : List Step) {x x₁ x₂ : List ℕ} → RanOn f ss x x₁ → RanOn f ts x₁ x₂ → RanOn f (ss ++ ts) x x₂
ran_on-then {f} ss ts {x} {x₁} r q =
    let e : decode_floats f x₁ ≡ run_on f ss (decode_floats f x) = rw r.output (fit-run_on f ss x) in
    record { output = q.output ∙ rw (e, run_on-append f ss ts (decode_floats f x)) }

-- the loop over a schedule: the list is what its first i steps leave
pub record RanOnTo (f : Format) {S : Type 0} (kind : S → Step) (s : List S) (x : List ℕ) (i : ℕ) (x₁ : List ℕ) : Type 0 where
  pub lanes : Lanes f x
  pub ran : RanOn f (take i (map kind s)) x x₁

module _ {f : Format} {S : Type 0} {kind : S → Step} {s : List S} {x : List ℕ} where
  pub ran_on_to-none : Lanes f x → RanOnTo f kind s x 0 x
  ran_on_to-none l = record { lanes = l; ran = ran_on-none l }

  module _ {i : ℕ} {x₁ : List ℕ} (r : RanOnTo f kind s x i x₁) where
    pub ran_on_to-lanes : Lanes f x₁
    ran_on_to-lanes = ran_on-lanes r.lanes r.ran

    pub ran_on_to-more : {z : S} {x₂ : List ℕ} → z ≡ get_or s i z → i < length s → RanOn f (kind z ∷ []) x₁ x₂ → RanOnTo f kind s x (i + 1) x₂
    ran_on_to-more {z} e h q = record { lanes = r.lanes; ran = rw (front-step kind s z i e h) (ran_on-then (take i (map kind s)) (kind z ∷ []) r.ran q) }

-- what the three steps cite
pub ruleset ran_on_steps = (ran_on-odds, ran_on-evens, ran_on-scaled)
