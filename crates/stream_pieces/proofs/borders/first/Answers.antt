-- `first` meets its contract: the detail from the three samples that it reads, and the approximation from it and the one before.
use mathlib.Core.Path.{refl, ◌∙◌}
use native.Mathlib.Omega.{arith}
use Rattle.base_samples.proofs.Fronts.{front-none, front-more, front_at}
use Rattle.stream_pieces.proofs.NextWords.{before-is, next-detail, next-approx}
use Rattle.stream_pieces.proofs.borders.first.Goals as goal

pub returns-clause-front : goal.returns-clause-front
returns-clause-front g c =
    let t = c.requires.taking.0 in
    let new = c.detail_of-h.ensures ∙ next-detail t 0 (omega arith) c.word_of-e.ensures c.word_of.ensures c.word_of-2.ensures in
    let kept = before-is t _ (c.to_word.ensures ∙ new) (rw c.to_word.ensures (g.met.S.Sample.fits _)) in
    let left = c.of_word-before.ensures ∙ c.detail_before.ensures ∙ kept.0 in
    front_at _
    (front-more (front-none _ c.requires.holds.0) refl c.requires.taking.1
    (c.approx_of.ensures ∙ next-approx t 0 (omega arith) c.word_of-e.ensures left new)
    c.put-2.ensures)
    refl

pub returns-clause-front_2 : goal.returns-clause-front_2
returns-clause-front_2 g c =
    let new = c.detail_of-h.ensures ∙ next-detail c.requires.taking.0 0 (omega arith) c.word_of-e.ensures c.word_of.ensures c.word_of-2.ensures in
    front_at _ (front-more (front-none _ c.requires.holds.1) refl c.requires.taking.1 new c.put.ensures) refl
