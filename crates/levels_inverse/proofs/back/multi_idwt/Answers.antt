-- `multi_idwt` meets its contract: the checks, then the levels where they pass. Looks into no filter.
use mathlib.Core.List.{List, ◌++◌}
use mathlib.Core.Path.{◌≡◌, ◌∙◌, sym, ap, refl}
use Prim.Native.Nat.{ℕ, ◌+◌, ◌*◌, ◌/◌, ◌<◌, ◌≤◌}
use native.Mathlib.Omega.{arith}
use lib.ListN.{length, take, drop, length-append, length-drop}
use lib.Seq.{length-take-le}
use Rattle.base_answers.specs.Answers.{told, answer_of, done}
use Rattle.base_answers.proofs.Endings.{call-done}
use Rattle.base_samples.specs.Words.{words_of}
use Rattle.levels_filter.specs.declared.filter.Filter.{Filter}
use Rattle.levels_filter.specs.Filters.{width_of}
use Rattle.levels_filter.specs.Pyramids.{samples_of}
use Rattle.levels_filter.specs.Backward.{say_back, Rising}
use Rattle.levels_filter.proofs.Lists.{put_front}
use Rattle.levels_filter.proofs.LevelsBack.{rise-front}
use Rattle.levels_filter.proofs.Backs.{back-ready}
use Rattle.levels_inverse.proofs.back.multi_idwt.Goals as goal

-- the checks pass
module _ (f : Filter) (n d o u v : ℕ) (ls : List ℕ) (e : told 0 0 ≡ say_back f n d ls o u v) where
  -- what they leave
  ready : Rising f (n / width_of f) (words_of 4 ls) d u v o × (0 < length ls / 4) × (n ≡ width_of f * (n / width_of f)) × (o ≡ n + d)
  ready = back-ready f n d ls o u v (sym (ap done e))

  -- the approximations have room
  fits : n ≤ u
  fits = omega (arith, ready.2, rise-front f (n / width_of f) (words_of 4 ls) d u v o ready.0)

-- a copy over the front keeps the length
kept : (x d : List ℕ) → length x ≤ length d → length (x ++ drop (length x) d) ≡ length d
kept x d h = omega (arith, length-append {A = ℕ}, length-drop {A = ℕ})

pub slice_bounds-copy_from_slice-end : goal.slice_bounds-copy_from_slice-end
slice_bounds-copy_from_slice-end c = fits _ _ _ _ _ _ _ c.in_ok-check_back.ensures

-- and the part of the area that they go to has their length
pub slice_bounds-copy_from_slice-end-2 : goal.slice_bounds-copy_from_slice-end-2
slice_bounds-copy_from_slice-end-2 c = sym (length-take-le _ _ (fits _ _ _ _ _ _ _ c.in_ok-check_back.ensures))

pub copy_from_slice-requires : goal.copy_from_slice-requires
copy_from_slice-requires c = length-take-le _ _ (fits _ _ _ _ _ _ _ c.in_ok-check_back.ensures)

pub up-requires : goal.up-requires
up-requires c =
    let a = c.args in
    let r = ready _ _ _ _ _ _ _ c.in_ok-check_back.ensures in
    let h : length a.approx.now ≤ length a.one.now = fits _ _ _ _ _ _ _ c.in_ok-check_back.ensures in
    let s : length (c.copy_from_slice.new.self ++ drop (length a.approx.now) a.one.now) ≡ length a.one.now = rw c.copy_from_slice.ensures.after (kept a.approx.now a.one.now h) in
    record { some = omega (arith, r.1); rising = rw (c.width.ensures.0, s) r.0 }

pub returns : goal.returns
returns c =
    let a = c.args in
    let x = a.approx.now in
    let e = c.in_ok-check_back.ensures in
    let r = ready _ _ _ _ _ _ _ e in
    let front : width_of a.f * (length x / c.width.result) ≡ length x = ap (λ j. width_of a.f * (length x / j)) c.width.ensures.0 ∙ sym r.2 in
    let y = ap (λ (l : List ℕ). l ++ drop (length x) a.one.now) c.copy_from_slice.ensures.after in
    let lent = put_front a.one.now x (length x) (length a.out.now) refl (omega (arith, r.3)) in
    call-done (sym e) (ap answer_of e)
    (c.up.ensures.out_after
    ∙ ap (λ (j : ℕ). samples_of a.f (take j (c.copy_from_slice.new.self ++ drop (length x) a.one.now)) a.details.now (words_of 4 a.lengths.now)) front
    ∙ ap (λ (s : List ℕ). samples_of a.f s a.details.now (words_of 4 a.lengths.now)) (ap (take (length x)) y ∙ lent.0))
    (rw r.3 at (c.up.ensures.from_unchanged ∙ ap (drop (length a.out.now)) y ∙ lent.1))
    (rw r.3 at c.up.ensures.to_unchanged)
