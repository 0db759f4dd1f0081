-- `sample_at` meets its contract: by `taken`, what the file's checks leave.
use borrow.Author.Rules.{sfits_of}
use mathlib.Core.Path.{sym, ◌∙◌}
use mir.Facts.{to_z-of_z}
use mir.Syntax.{w64}
use Rattle.file_sample.proofs.Peeking.{taken}
use Rattle.file_sample.proofs.sample_at.Goals as goal

pub returns-then-count-place-clause-refused : goal.returns-then-count-place-clause-refused
returns-then-count-place-clause-refused c = (taken c.check_file.ensures c.in_ok-level.was).past _ c.if-count-place.true

pub head_in-h-requires : goal.head_in-h-requires
head_in-h-requires c = (taken c.check_file.ensures c.in_ok-level.was).common

pub overflow_sub-h : goal.overflow_sub-h
overflow_sub-h c = rw c.head_in-h.ensures.value (taken c.check_file.ensures c.in_ok-level.was).some

pub number_of-requires-clause-stands : goal.number_of-requires-clause-stands
number_of-requires-clause-stands c = rw c.head_in-h.ensures.value (taken c.check_file.ensures c.in_ok-level.was).stands

pub returns-clause-sample : goal.returns-clause-sample
returns-clause-sample c = let t = taken c.check_file.ensures c.in_ok-level.was in (
  t.said _ c.if-count-place.false,
  to_z-of_z {w = w64} (sfits_of c.number_of.type_inv) ∙ rw c.head_in-h.ensures.value at c.number_of.ensures ∙ sym (t.sample _ c.if-count-place.false),
)
