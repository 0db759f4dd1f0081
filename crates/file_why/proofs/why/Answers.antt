-- `why` meets its contract: a start that refuses, however its list ends.
use mathlib.Core.Path.{sym, ◌∙◌}
use Rattle.base_answers.proofs.Passed.{stops-so}
use Rattle.file_open.specs.Opens.{start_checks}
use Rattle.file_why.proofs.Says.{reason_early}
use Rattle.file_why.proofs.why.Goals as goal

pub returns-in-Err : goal.returns-in-Err
returns-in-Err c = c.start_reason.ensures ∙ sym (reason_early _ _ _ (stops-so (start_checks c.args.s.now) tt _ (sym c.check_start.ensures ∙ c.in-Err.is)))
