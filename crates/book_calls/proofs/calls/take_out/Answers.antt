-- `take_out` meets its contract: the slot of the point is one of those that are held; its file is taken out, then its entry.
use borrow.Author.Rules.{rules}
use native.Mathlib.Omega.{arith}
use Rattle.base_samples.specs.Le.{Bytes}
use Rattle.book_entries.specs.Books.{entries_in}
use Rattle.book_entries.proofs.Passed.{held_below}
use Rattle.book_calls.proofs.Changed.{withdrawn-is}
use Rattle.book_calls.proofs.calls.take_out.Goals as goal

pub returns : goal.returns
returns c =
    let b = c.args.b.now in
    let bytes : Bytes b = record { byte = λ i. search rules } in
    let below = held_below c.args.p (entries_in b) c.requires.1 in
    withdrawn-is b bytes c.requires.0 c.args.p (omega arith) (omega arith) c.take_file.ensures c.drop_entry.ensures
