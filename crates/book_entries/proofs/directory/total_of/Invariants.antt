-- `total_of` meets its contract. The invariant: the files of the first j entries are counted.
use mathlib.Core.Path.{◌≡◌}
use Prim.Native.Nat.{◌*◌, ◌≤◌}
use Rattle.book_entries.specs.Books.{most_size, entries_in, place_at}
use Rattle.book_entries.proofs.directory.total_of.Given as goal

abbrev pub invariant-loop-j : goal.invariant-loop-j
invariant-loop-j l = (l.total ≡ place_at l.j (entries_in l.b)) × (l.total ≤ most_size * l.j)
