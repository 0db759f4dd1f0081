-- `restore_end` meets its contract: as many details as approximations, and one less.
use Rattle.std.proofs.Common.{◌≡◌, ℕ, ◌+◌, ◌*◌, ◌/◌, ◌<◌, List, length, sym, ap, ◌∙◌, ⊎_elim, arith}
use Rattle.base_order.proofs.Order.{lt-or-le}
use Rattle.base_samples.proofs.Fronts.{front_at}
use Rattle.filter_cdf53i.specs.Bands.{InputBands, even_word}
use Rattle.filter_cdf53i.proofs.WordTurns.{front-pair, front-last, restored-all}
use Rattle.filter_cdf53i.proofs.cdf53i.restore_end.Goals as goal

-- by bytes as by samples
as_many : {k : ℕ} {x a d : List ℕ} → InputBands k x a d → length a ≡ length d → length a / k ≡ length d / k
as_many {k} b e = ap (λ n. n / k) e

-- as many: the last odd sample stands between the last even one and its mirror
pub returns-then-a-d : goal.returns-then-a-d
returns-then-a-d g c =
    let a = c.args in
    let w = g.met.S.Sample.width in
    let e = as_many c.requires.input_bands c.if-a-d.true in
    let long = c.requires.input_bands.input.long in
    let na = c.requires.input_bands.approx.count in
    let nd = c.requires.input_bands.details.count in
    restored-all w a.a.now a.d.now _ _ _
    (front-pair w a.a.now a.d.now a.last a.last c.requires.restoring.front (omega arith) (omega arith) (omega arith) c.requires.restoring.next c.requires.restoring.next
    c.put.ensures c.get.ensures c.odd_of.ensures c.put-then-a-d.ensures)
    (omega arith)
    (omega arith)

one_more : {k : ℕ} {x a d : List ℕ} → InputBands k x a d → (length a ≡ length d → ⊥) → length a / k ≡ length d / k + 1
one_more {k} {x} b ne =
    ⊎_elim
    (λ (h : length x / k / 2 < (length x / k + 1) / 2). omega (arith, b.approx.count, b.details.count))
    (λ h. absurd (ne (b.approx.size ∙ ap (λ n. k * n) (omega arith) ∙ sym b.details.size)))
    (lt-or-le (length x / k / 2) ((length x / k + 1) / 2))

-- one less: a pair, and the last even sample
pub returns-else-a-d : goal.returns-else-a-d
unfolding even_word
returns-else-a-d g c =
    let a = c.args in
    let w = g.met.S.Sample.width in
    let e = one_more c.requires.input_bands c.if-a-d.false in
    let long = c.requires.input_bands.input.long in
    let na = c.requires.input_bands.approx.count in
    let nd = c.requires.input_bands.details.count in
    restored-all w a.a.now a.d.now _ _ _
    (front-last w a.a.now a.d.now (a.last + 1)
    (front_at _
    (front-pair w a.a.now a.d.now a.last (a.last + 1) c.requires.restoring.front (omega arith) (omega arith) (omega arith) c.requires.restoring.next c.even_at-f.ensures
    c.put.ensures c.get-else-a-d.ensures c.odd_of-else-a-d.ensures c.put-else-a-d.ensures)
    (omega arith))
    (omega arith) c.even_at-f.ensures c.put-else-a-d-2.ensures)
    (omega arith)
    (omega arith)
