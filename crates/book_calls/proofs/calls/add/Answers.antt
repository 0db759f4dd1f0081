-- `add` meets its contract: the checks, and then the file and its entry.
use mathlib.Core.Path.{sym, ap}
use Rattle.base_answers.specs.Answers.{done}
use Rattle.book_entries.proofs.Passed.{add-passes}
use Rattle.book_calls.proofs.calls.add.Goals as goal

pub enter-requires : goal.enter-requires
enter-requires c = add-passes c.args.b.now c.args.p c.args.s.now (sym (ap done c.in_ok-check_add.ensures))
