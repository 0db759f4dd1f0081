-- `multi_dwt` meets its contract: the checks, then the levels where they pass. Looks into no filter.
use mathlib.Core.Path.{◌≡◌, ◌∙◌, sym, ap}
use Prim.Native.Nat.{◌*◌, ◌/◌}
use native.Mathlib.Omega.{arith}
use lib.ListN.{length}
use Rattle.base_answers.specs.Answers.{answer_of, done}
use Rattle.base_answers.proofs.Endings.{call-done}
use Rattle.levels_filter.specs.Filters.{width_of}
use Rattle.levels_filter.specs.Pyramids.{pyramid}
use Rattle.levels_filter.proofs.Multi.{multi-ready}
use Rattle.levels_forward.proofs.Laying.{no-counts}
use Rattle.levels_forward.proofs.levels.multi_dwt.Goals as goal

pub lay_bands-requires : goal.lay_bands-requires
lay_bands-requires c =
    let a = c.args in
    let r = multi-ready _ _ _ _ _ _ (sym (ap done c.in_ok-check_multi.ensures)) in
    record {
      ready = rw (c.at_least_one.ensures, c.width.ensures.0) r.0;
      out_len = rw (c.at_least_one.ensures, c.width.ensures.0) (omega (arith, r.1));
    }

pub returns : goal.returns
returns c =
    let a = c.args in
    let x = length a.signal.now in
    let n = x / c.width.result in
    let r = multi-ready _ _ _ _ _ _ (sym (ap done c.in_ok-check_multi.ensures)) in
    let w : width_of a.f * n ≡ x = ap (λ k. width_of a.f * (x / k)) c.width.ensures.0 ∙ sym r.0.whole in
    call-done (sym c.in_ok-check_multi.ensures) (ap answer_of c.in_ok-check_multi.ensures)
    (c.lay_bands.ensures.out_after ∙ no-counts a.f c.at_least_one.result n a.signal.now ∙ ap (λ l. pyramid a.f l a.signal.now) c.at_least_one.ensures)
    (rw w at c.lay_bands.ensures.one_unchanged) (rw w at c.lay_bands.ensures.two_unchanged)
