-- `slot_of` meets its contract: the first entry from there on that has the point.
use mathlib.Core.Path.{refl, sym, ap, ◌∙◌}
use Prim.Native.Nat.{◌≤◌, ◌-◌}
use native.Mathlib.Omega.{arith}
use lib.Dec.{eqb}
use borrow.Author.Rules.{rules}
use borrow.Author.Tests.{tests}
use Rattle.std.specs.Option.{unwrap_or}
use Rattle.std.proofs.iter.Serving.{serving}
use Rattle.std.proofs.lemmas.Iterator.{YieldsList-from_range}
use Rattle.std.proofs.lemmas.Iterator.Adapters.{option_map_id}
use Rattle.std.proofs.lemmas.Iterator.Search.{find_from_yields_List}
use Rattle.book_entries.specs.Books.{point_by, entry_at}
use Rattle.book_entries.proofs.Entries.{entries-few, slot-is}
use Rattle.book_entries.proofs.directory.slot_of.Goals as goal

pub find-requires-clause-callable : goal.find-requires-clause-callable
find-requires-clause-callable c = let few : c.args.h ≤ 64 = omega (arith, entries-few c.args.b.now) in grind serving

pub returns : goal.returns
returns c =
    let a = c.args in
    let b = a.b.now in
    let found = find_from_yields_List (λ j. eqb (point_by (entry_at b j)) a.p) _ _ c.find.result c.find.ensures.ran (YieldsList-from_range a.from a.h (a.h - a.from) refl refl) (λ x r q k. search (rules, tests)) in
    c.unwrap_or.ensures ∙ ap (λ o. unwrap_or o a.h) (sym (option_map_id c.find.result) ∙ found) ∙ slot-is b a.p (a.h - a.from) a.from (omega arith) c.requires.1
