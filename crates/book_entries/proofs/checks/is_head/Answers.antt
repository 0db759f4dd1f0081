-- `is_head` meets its contract: the count, then the fields for their own width and point.
use mathlib.Core.Path.{ap, ◌∙◌}
use Rattle.std.specs.Result.{is_ok}
use Rattle.base_answers.specs.Answers.{done, told}
use Rattle.base_answers.specs.Checks.{first_refusal}
use Rattle.file_open.specs.declared.head.Head.{Head}
use Rattle.file_open.specs.Opens.{field_checks}
use Rattle.book_entries.proofs.Entries.{count-read}
use Rattle.book_entries.proofs.Passed.{is_ok-done}
use Rattle.book_entries.proofs.checks.is_head.Goals as goal

pub returns-then-not-is_count : goal.returns-then-not-is_count
returns-then-not-is_count c = rw (count-read c.args.b.now c.args.i, ← c.read_u32-count.ensures, ← c.is_count.ensures, c.if-not-is_count.true)

pub returns : goal.returns
returns c =
    let h = c.entry-h.result in
    rw (count-read c.args.b.now c.args.i, ← c.read_u32-count.ensures, ← c.is_count.ensures, c.if-not-is_count.false)
    (c.is_ok.ensures.value ∙ ap is_ok c.check_fields.ensures ∙ is_ok-done (field_checks h h.width h.point) (0, 0) ∙ ap (λ (h : Head). done (first_refusal (field_checks h h.width h.point) (told 0 0))) c.entry-h.ensures.value)
