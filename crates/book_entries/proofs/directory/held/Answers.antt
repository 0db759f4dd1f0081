-- `held` meets its contract: the first entry that is not used.
use mathlib.Core.Path.{refl, ◌∙◌}
use lib.Dec.{eqb}
use borrow.Author.Rules.{rules}
use borrow.Author.Tests.{tests}
use Rattle.std.proofs.lemmas.Iterator.{YieldsList-from_range}
use Rattle.std.proofs.lemmas.Iterator.Search.{position_from_yields_List}
use Rattle.base_samples.specs.Le.{le_at}
use Rattle.book_entries.specs.Books.{entry_start}
use Rattle.book_entries.proofs.Entries.{held-is}
use Rattle.book_entries.proofs.directory.held.Goals as goal

pub returns : goal.returns
returns c =
    let b = c.args.b.now in
    c.unwrap_or.ensures
    ∙ held-is b
    (position_from_yields_List (λ j. eqb (le_at 4 b (entry_start j)) 0) _ _ c.position.result c.position.ensures.ran (YieldsList-from_range 0 64 64 refl refl) (λ x r q k. search (rules, tests)))
