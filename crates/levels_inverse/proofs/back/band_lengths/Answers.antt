-- `band_lengths` meets its contract. The invariant: what is left of the lengths decides.
use mathlib.Core.Path.{◌∙◌, sym}
use native.Mathlib.Omega.{arith}
use Rattle.std.proofs.lemmas.Result.{err_from_is_err_and}
use Rattle.levels_inverse.proofs.Lengths.{next_total, bands_next, bands_stop, no_bands}
use Rattle.levels_inverse.proofs.back.band_lengths.Goals as goal

pub returns-in_err-inverse_bands : goal.returns-in_err-inverse_bands
returns-in_err-inverse_bands c =
    let l = c.loop-word in
    let s = c.in-Some.ensures.steps in
    let p = err_from_is_err_and c.from_residual.result c.from_residual.ensures.1 in
    rw (p.1, p.2) (sym (l.invariant.2 ∙ bands_stop _ _ s.1.0 (s.1.1 ∙ l.invariant.0) c.args.w l.n _ c.read_u32-m.ensures (sym c.in_err-inverse_bands.ensures)))

pub loop-word-preserved : goal.loop-word-preserved
loop-word-preserved c =
    let l = c.loop-word in
    let s = c.in-Some.ensures.steps in
    let four = s.1.1 ∙ l.invariant.0 in
    let t = next_total _ _ s.1.0 four in (
      s.0 ∙ l.invariant.0,
      omega (arith, l.invariant, t, c.read_u32-m.ensures),
      l.invariant.2 ∙ bands_next _ _ s.1.0 four c.args.w l.n _ c.read_u32-m.ensures (sym c.in_ok-inverse_bands.ensures),
    )

pub returns : goal.returns
returns c =
    let l = c.loop-word in
    sym (l.invariant.2 ∙ no_bands l.word-iterator.rest.now c.args.w l.n (omega (arith, l.invariant.0, c.in-None.ensures.steps)))
