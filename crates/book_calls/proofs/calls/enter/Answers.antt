-- `enter` meets its contract: the file and the entry, in a book that has room for them.
use borrow.Author.Rules.{rules}
use native.Mathlib.Omega.{arith}
use Rattle.base_samples.specs.Le.{Bytes}
use Rattle.book_entries.proofs.Entries.{total-is}
use Rattle.book_calls.proofs.Changed.{added_is}
use Rattle.book_calls.proofs.calls.enter.Goals as goal

pub returns : goal.returns
returns c =
    let b = c.args.b.now in
    let bytes : Bytes b = record { byte = λ i. search rules } in
    let h = c.held-h in
    let total = total-is b h.result h.ensures c.total_of.ensures.value in
    added_is b bytes c.requires.book c.args.s.now h.ensures total (omega (arith, h.ensures, c.requires.few)) c.requires.head c.put_file.ensures c.lay.ensures
