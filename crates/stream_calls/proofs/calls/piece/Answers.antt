-- `piece` meets its contract: the checks, and then the piece.
use mathlib.Core.Path.{sym, ap}
use Rattle.base_answers.specs.Answers.{done}
use Rattle.stream_calls.proofs.Ready.{piece-ready}
use Rattle.stream_calls.proofs.calls.piece.Goals as goal

pub take_piece-requires : goal.take_piece-requires
take_piece-requires g c =
    let a = c.args in
    piece-ready g.met.S.Sample.width a.state.now a.y.now a.a.now a.d.now (sym (ap done c.in_ok-check_piece.ensures))
