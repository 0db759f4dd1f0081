-- `write` meets its contract: what the checks leave for the file. Looks into no filter.
use mathlib.Core.Path.{◌∙◌, sym, ap}
use lib.ListN.{length}
use Rattle.base_answers.specs.Answers.{plain, done}
use Rattle.file_open.proofs.Writing.{write-ready}
use Rattle.file_write.proofs.write.write.Goals as goal

pub lay_file-requires : goal.lay_file-requires
lay_file-requires c =
    let a = c.args in
    let e = sym c.check_write.ensures ∙ ap plain c.in_ok-check_write.was in
    let r = write-ready a.f a.levels a.rate (length a.signal.now) (length a.file.now) (length a.one.now) (length a.two.now) (ap done e) in
    rw (c.at_least_one-l.ensures, c.width.ensures.0) (record { ready = r.ready; n_in_bounds = r.room; rate_nonzero = r.rate })
