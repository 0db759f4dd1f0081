-- `are_entries` meets its contract: each entry that is held, in turn.
use mathlib.Core.Path.{refl, ◌∙◌}
use native.Mathlib.Omega.{arith}
use borrow.Author.Rules.{rules}
use borrow.Author.Tests.{tests}
use Prim.Native.Nat.{◌+◌}
use lib.ListN.{drop}
use Rattle.std.proofs.lemmas.Iterator.{YieldsList-from_range}
use Rattle.std.proofs.lemmas.Iterator.Search.{all_from_yields_List}
use Rattle.book_entries.specs.Books.{entry_at, entries_in, is_only}
use Rattle.book_entries.proofs.Entries.{heads-are}
use Rattle.book_entries.proofs.checks.are_entries.Goals as goal

pub returns : goal.returns
returns c =
    let b = c.args.b.now in
    all_from_yields_List (λ j. is_only (entry_at b j) (drop (j + 1) (entries_in b))) _ _ _ c.all.ensures.ran (YieldsList-from_range 0 c.args.h c.args.h refl (omega arith)) (λ x r q k. search (rules, tests))
    ∙ heads-are b c.args.h 0 (omega arith)
