-- `dwt` meets its contract: the checks, then the levels where they pass. Looks into no filter.
use mathlib.Core.Path.{◌∙◌, sym, ap}
use Prim.Native.Nat.{ℕ, ◌*◌, ◌/◌}
use lib.ListN.{length}
use Rattle.base_answers.specs.Answers.{done}
use Rattle.levels_filter.specs.Filters.{width_of}
use Rattle.levels_filter.proofs.LastLevel.{dwt-ready, dwt-done}
use Rattle.levels_last.proofs.last.dwt.Goals as goal

-- what the checks left
pub run_last-requires : goal.run_last-requires
run_last-requires c =
    let a = c.args in
    let ready = dwt-ready _ _ _ _ _ _ _ (sym (ap done c.in_ok-check_dwt.ensures)) in
    record {
      ready = rw (c.at_least_one.ensures, c.width.ensures.0) ready.0;
      bands_of = rw (c.at_least_one.ensures, c.width.ensures.0) ready.1;
    }

pub returns : goal.returns
returns c =
    let a = c.args in
    let x = length a.signal.now in
    let ready = dwt-ready _ _ _ _ _ _ _ (sym (ap done c.in_ok-check_dwt.ensures)) in
    dwt-done a.f a.levels a.signal.now a.approx.now a.details.now a.one.now a.two.now (x / c.width.result) c.in_ok-check_dwt.ensures
    (ap (λ (k : ℕ). width_of a.f * (x / k)) c.width.ensures.0 ∙ sym ready.0.whole)
    (rw c.at_least_one.ensures at c.run_last.ensures.parted) c.run_last.ensures.one_unchanged c.run_last.ensures.two_unchanged
