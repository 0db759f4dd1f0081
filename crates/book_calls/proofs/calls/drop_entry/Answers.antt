-- `drop_entry` meets its contract: the entries moved down, and zeros in the last one's place.
use Rattle.book_calls.proofs.Changed.{dropped-is}
use Rattle.book_calls.proofs.calls.drop_entry.Goals as goal

pub returns : goal.returns
returns c = dropped-is c.args.b.now c.args.i c.requires.0 c.requires.1 c.pack.ensures c.clear.ensures
