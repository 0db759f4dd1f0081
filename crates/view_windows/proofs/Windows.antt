-- Band windows: when one is done, and what it is then.
use mathlib.Core.Bool.{Bool, true, false, cond}
use mathlib.Core.List.{List, [], ◌∷◌}
use mathlib.Core.Path.{◌≡◌, refl, sym, ap, ◌∙◌}
use Prim.Native.Nat.{ℕ, ◌+◌, ◌-◌, ◌*◌, ◌/◌, ◌≤◌, ◌<◌}
use native.Mathlib.Nat.{mul-add, mul-le-mul_left}
use native.Mathlib.Omega.{arith}
use borrow.Author.Tests.{le-ltb, ltb-false, eqb-false, ne_eqb}
use lib.Dec.{eqb}
use lib.ListN.{length, take, drop, get_or, length-take, length-drop}
use lib.Seq.{get_or-take, get_or-drop}
use Rattle.std.specs.Prelude.{Ok}
use Rattle.base_answers.specs.declared.err.Answer.{Answer}
use Rattle.base_answers.specs.Answers.{Outcome, answer_of, done}
use Rattle.base_answers.specs.Checks.{ragged}
use Rattle.base_answers.proofs.Endings.{is-done, not_done}
use Rattle.base_answers.proofs.Passed.{passing, through, whole}
use Rattle.base_lengths.proofs.OneLevel.{whole-passes}
use Rattle.view_windows.specs.Windows.{band_of, stretch_checks, say_window, window_in}

-- a window that fits: both lengths are whole, and it is some samples within the band
pub record Fits (k a d band start count : ℕ) : Type 0 where
  pub approx : a ≡ k * (a / k)
  pub details : d ≡ k * (d / k)
  pub some : 0 < count
  pub inside : start + count ≤ band_of band a d / k

module _ (k a d band start count : ℕ) where
  -- done exactly where it fits
  pub done-fits : done (say_window k a d band start count) ≡ true → Fits k a d band start count
  unfolding say_window
  done-fits h =
      let q = passing (ragged k a ∷ ragged k d ∷ stretch_checks (band_of band a d / k) start count) (Ok (k * start, k * count)) h in
      record {
        approx = whole k a q.0;
        details = whole k d q.1.0;
        some = omega (arith, eqb-false count 0 q.1.1.0);
        inside = ltb-false _ _ q.1.1.1.0;
      }

  -- its answer is the place and the length in bytes
  pub fits-says : Fits k a d band start count → say_window k a d band start count ≡ Ok (k * start, k * count)
  unfolding say_window
  fits-says f =
      through (ragged k a ∷ ragged k d ∷ stretch_checks (band_of band a d / k) start count) (Ok (k * start, k * count))
      (whole-passes k (a / k) a f.approx, (whole-passes k (d / k) d f.details, (ne_eqb count 0 (λ z. omega (arith, f.some)), (le-ltb _ _ f.inside, tt))))

  pub fits-done : Fits k a d band start count → done (say_window k a d band start count) ≡ true
  fits-done f = ap done (fits-says f)

  -- the bytes lie within the band that was asked for
  pub within : Fits k a d band start count → k * start + k * count ≤ band_of band a d
  within f = pick (eqb band 0) f.inside
    where
      pick : (b : Bool) → start + count ≤ cond b a d / k → k * start + k * count ≤ cond b a d
      pick true h = omega (arith, mul-add k start count, mul-le-mul_left k h, f.approx)
      pick false h = omega (arith, mul-add k start count, mul-le-mul_left k h, f.details)

  -- what a done one says: the place and the length in bytes, within the band
  pub done_at : {i m : ℕ} → say_window k a d band start count ≡ Ok (i, m) → (i ≡ k * start) × (m ≡ k * count) × (i + m ≤ band_of band a d)
  done_at {i} {m} e =
      let f = done-fits (ap done e) in
      let v : ℕ × ℕ = (i, m) in
      let w : ℕ × ℕ = (k * start, k * count) in
      let q : v ≡ w = cc (fits-says f) in
      let p : i ≡ k * start = ap (λ (x : ℕ × ℕ). x.0) q in
      let n : m ≡ k * count = ap (λ (x : ℕ × ℕ). x.1) q in
      (p, n, omega (arith, p, n, within f))

-- the band's length is the band of the lengths
band-length : (band : ℕ) (a d : List ℕ) → length (band_of band a d) ≡ band_of band (length a) (length d)
band-length band a d = pick (eqb band 0)
  where
    pick : (b : Bool) → length (cond b a d) ≡ cond b (length a) (length d)
    pick true = refl
    pick false = refl

module _ (k : ℕ) (a d : List ℕ) (band start count : ℕ) where
  abbrev said : Outcome
  said = say_window k (length a) (length d) band start count

  -- a done window is that stretch of the band, and a refused one is empty
  pub window-is : Fits k (length a) (length d) band start count → window_in k a d band start count ≡ take (k * count) (drop (k * start) (band_of band a d))
  unfolding window_in
  window-is f = ap (λ t. cond t (take (k * count) (drop (k * start) (band_of band a d))) []) (fits-done k (length a) (length d) band start count f)

  pub window-none : done said ≡ false → window_in k a d band start count ≡ []
  unfolding window_in
  window-none h = ap (λ t. cond t (take (k * count) (drop (k * start) (band_of band a d))) []) h

  -- it has count samples
  pub window-length : Fits k (length a) (length d) band start count → length (window_in k a d band start count) ≡ k * count
  window-length f =
      let w = within k (length a) (length d) band start count f in
      rw (window-is f, length-take, length-drop) (omega (arith, band-length band a d))

  -- byte i of it is the band's byte that far after the start
  pub window-at : (i : ℕ) → Fits k (length a) (length d) band start count → i < k * count → get_or (window_in k a d band start count) i 0 ≡ get_or (band_of band a d) (k * start + i) 0
  window-at i f h = rw (window-is f, get_or-take, get_or-drop)

  -- s is the band that was asked for: the companion's two numbers tell the part of s that the window is
  pub told : (r : Answer) (s : List ℕ) → r ≡ answer_of said → r.number ≡ 0 → s ≡ band_of band a d
      → (r.first + r.second ≤ length s) × (take (r.first + r.second - r.first) (drop r.first s) ≡ window_in k a d band start count)
  told r s e z b =
      let f = done-fits k (length a) (length d) band start count (is-done said r e z) in
      let q = e ∙ ap answer_of (fits-says k (length a) (length d) band start count f) in
      let at : r.first ≡ k * start = ap (λ (x : Answer). x.first) q in
      let many : r.first + r.second - r.first ≡ k * count = omega (arith, ap (λ (x : Answer). x.second) q) in
      let w = within k (length a) (length d) band start count f in (
        omega (arith, ap (λ (x : Answer). x.second) q, ap length b, band-length band a d),
        ap (λ (i : ℕ). take i (drop r.first s)) many ∙ ap (λ (i : ℕ). take (k * count) (drop i s)) at ∙ ap (λ x. take (k * count) (drop (k * start) x)) b ∙ sym (window-is f),
      )

  pub untold : (r : Answer) → r ≡ answer_of said → (r.number ≡ 0 → ⊥) → [] ≡ window_in k a d band start count
  untold r e z = sym (window-none (not_done said r e z))
