-- `lay_fresh` meets its contract: two counts and the zeros between them.
use Rattle.book_calls.proofs.Changed.{fresh-is}
use Rattle.book_calls.proofs.calls.lay_fresh.Goals as goal

pub returns : goal.returns
returns c = fresh-is c.args.b.now c.requires c.write_u32.ensures c.clear.ensures c.write_u32-2.ensures
