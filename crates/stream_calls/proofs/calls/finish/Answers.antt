-- `finish` meets its contract: the checks, and then the end.
use mathlib.Core.Path.{sym, ap}
use Rattle.base_answers.specs.Answers.{done}
use Rattle.stream_calls.proofs.Ready.{finish-ready}
use Rattle.stream_calls.proofs.calls.finish.Goals as goal

pub take_end-requires : goal.take_end-requires
take_end-requires g c =
    let a = c.args in
    finish-ready g.met.S.Sample.width a.state.now a.a.now a.d.now (sym (ap done c.in_ok-check_finish.ensures))
