-- A file that is opened has section 0, samples of a known width, and as many in the output as are printed.
use Rattle.std.proofs.Common.{arith, ap, sym, ◌∙◌}
use Rattle.app_show.proofs.Shown.{shown}
use Rattle.app_show.proofs.show.Goals as goal

pub head_in-h-requires : goal.head_in-h-requires
head_in-h-requires g c = (shown _ _ _ c.open_own-opened.ensures.call c.if-r-ne0.false).there

pub print_samples-requires : goal.print_samples-requires
print_samples-requires g c =
    (shown _ _ _ c.open_own-opened.ensures.call c.if-r-ne0.false).room _ _ (omega arith) (sym c.in-1.is ∙ ap (λ i. i.width) c.head_in-h.ensures.value)

pub print_samples-requires-in-2 : goal.print_samples-requires-in-2
print_samples-requires-in-2 g c =
    (shown _ _ _ c.open_own-opened.ensures.call c.if-r-ne0.false).room _ _ (omega arith) (sym c.in-2.is ∙ ap (λ i. i.width) c.head_in-h.ensures.value)

pub print_samples-requires-in_default : goal.print_samples-requires-in_default
print_samples-requires-in_default g c =
    let file = shown _ _ _ c.open_own-opened.ensures.call c.if-r-ne0.false in
    let own = ap (λ i. i.width) c.head_in-h.ensures.value in
    file.room _ 4 (omega arith) (omega (arith, own, (file.known _ own).which))
