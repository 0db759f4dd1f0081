-- `word_of` meets its contract: what waits, then the piece, then nothing.
use mathlib.Core.Path.{ap, sym, ◌∙◌}
use native.Mathlib.Omega.{arith}
use Rattle.stream_pieces.specs.Steps.{next_word}
use Rattle.stream_pieces.proofs.NextWords.{next-even, next-odd, next-piece, next-none}
use Rattle.stream_pieces.proofs.borders.word_of.Goals as goal

pub returns-then-j-eq0 : goal.returns-then-j-eq0
returns-then-j-eq0 g c =
    let a = c.args in
    let some = c.if-j-w.true in
    c.of_word.ensures ∙ next-even c.requires (omega arith) ∙ ap (next_word g.S.Sample.bytes a.s a.y.now) (sym c.if-j-eq0.true)

pub returns-else-j-eq0 : goal.returns-else-j-eq0
returns-else-j-eq0 g c =
    let a = c.args in
    let some = c.if-j-w.true in
    let more = c.if-j-eq0.false in
    c.of_word-else-j-eq0.ensures ∙ next-odd c.requires (omega arith) ∙ ap (next_word g.S.Sample.bytes a.s a.y.now) (omega arith)

pub returns-then-j-w-2 : goal.returns-then-j-w-2
returns-then-j-w-2 g c = c.get.ensures ∙ rw c.waiting-w.ensures (next-piece c.requires c.args.j (omega (arith, c.if-j-w.false)))

pub returns-else-j-w-2 : goal.returns-else-j-w-2
returns-else-j-w-2 g c =
    c.of_word-else-j-w-2.ensures ∙ next-none c.requires c.args.j (omega (arith, c.if-j-w.false)) (omega (arith, c.if-j-w-2.false))
