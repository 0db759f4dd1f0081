-- `take_file` meets its contract: where the file stands is read of the directory; then the data behind it, and the count.
use borrow.Author.Rules.{rules}
use Rattle.base_samples.specs.Le.{Bytes}
use Rattle.book_calls.proofs.Changed.{file-at, file-out}
use Rattle.book_calls.proofs.calls.take_file.Goals as goal

pub returns : goal.returns
returns c =
    let b = c.args.b.now in
    let bytes : Bytes b = record { byte = λ i. search rules } in
    let file = file-at c.requires.0 c.requires.1 c.requires.2 c.total_of-place.ensures.value c.size_at-size.ensures.value c.total_of-total.ensures.value in
    file-out b bytes c.requires.0 file c.pack.ensures c.write_u32.ensures
