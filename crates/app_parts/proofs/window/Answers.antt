-- The window lies in the file's own block, where both of its sections do.
use Rattle.std.proofs.Common.{ap, ◌∙◌}
use Rattle.file_open.specs.Opens.{section_at}
use Rattle.app_parts.proofs.Own.{own_block}
use Rattle.app_parts.proofs.window.Goals as goal

pub returns-clause-ref_ptr_value : goal.returns-clause-ref_ptr_value
unfolding section_at
returns-clause-ref_ptr_value c =
    let approx = ap (λ p. p.0) c.section-approx.ensures.ref_ptr_value in
    let details = ap (λ p. p.0) c.section-details.ensures.ref_ptr_value in
    ap (λ p. p.0) c.band_window.ensures.ref_ptr_value ∙ own_block 1 _ _ c.args.band c.args.start c.args.count c.args.s.ref_ptr.0 (cc) (cc)
