-- Entries that pass the check, with data that is just their files: none, one more, and one less.
use mathlib.Core.Bool.{true, false}
use mathlib.Core.List.{List, [], ◌∷◌, ◌++◌}
use mathlib.Core.Path.{◌≡◌, refl, sym, ap, ap₂, subst, ◌∙◌}
use Prim.Native.Nat.{ℕ, ◌+◌, ◌≤◌, ◌<◌}
use native.Mathlib.Nat.{add-zero}
use native.Mathlib.Omega.{arith}
use lib.ListN.{length, take, drop, length-append, take-append-drop}
use Rattle.base_samples.specs.Le.{Bytes}
use Rattle.filter_cdf53i.proofs.Lengths.{bytes-join}
use Rattle.book_entries.specs.Books.{most, entry_size, size_by, joined, total_by, slot_of, is_held, place_at, size_at, are_entries}
use Rattle.book_entries.proofs.Laid.{AllSized}
use Rattle.book_entries.proofs.Passed.{held_below}
use Rattle.book_calls.specs.Calls.{without}
use Rattle.book_calls.proofs.Changed.{joined-append, sized-append, sized-less}
use Rattle.law_book.proofs.Changed.{heads-more, total-append, heads-less, less-length, total-less, place-within}
use Rattle.law_book.proofs.WholeFile.{Whole}
use Rattle.law_levels.proofs.Undone.{bytes_take, bytes_drop}
use Rattle.law_book.proofs.ByteParts.{bytes-parts}

-- each entry begins a file, for a point of its own, and the files are all of the data
pub record Kept (es : List (List ℕ)) (d : List ℕ) : Type 0 where
  pub sized : AllSized es
  pub heads : are_entries es ≡ true
  pub few : length es ≤ most
  pub all : length d ≡ total_by es
  pub entries : Bytes (joined es)
  pub bytes : Bytes d

-- without some of its elements a list of bytes is one
bytes-less : (i n : ℕ) (s : List ℕ) → Bytes s → Bytes (without i n s)
bytes-less i n s h = bytes-join (take i s) (drop (i + n) s) (bytes_take i s h) (bytes_drop (i + n) s h)

entries-less : (i n : ℕ) (es : List (List ℕ)) → Bytes (joined es) → Bytes (joined (without i n es))
entries-less i n es h =
    let part : (j : ℕ) → Bytes (joined (take j es)) × Bytes (joined (drop j es)) =
    λ j. bytes-parts (joined (take j es)) (joined (drop j es)) (subst Bytes (ap joined (sym (take-append-drop j es)) ∙ joined-append (take j es) (drop j es)) h) in
    subst Bytes (sym (joined-append (take i es) (drop (i + n) es))) (bytes-join (joined (take i es)) (joined (drop (i + n) es)) (part i).0 (part (i + n)).1)

-- no entries
pub kept-none : Kept [] []
unfolding AllSized are_entries total_by joined
kept-none = record { sized = tt; heads = refl; few = omega arith; all = refl; entries = record { byte = λ i. omega arith }; bytes = record { byte = λ i. omega arith } }

-- a whole file of a point that is not held
pub kept_more : (es : List (List ℕ)) (d s : List ℕ) (p : ℕ) → Kept es d → Whole s p → Bytes s → is_held p es ≡ false → length es < most → Kept (es ++ (take entry_size s ∷ [])) (d ++ s)
unfolding AllSized total_by joined
kept_more es d s p k w bs new few =
    let e = take entry_size s in
    record {
      sized = sized-append es (e ∷ []) k.sized (w.entry, tt);
      heads = heads-more es e k.heads w.head (ap (λ (i : ℕ). is_held i es) w.point ∙ new);
      few = omega (arith, length-append es (e ∷ []));
      all = length-append d s ∙ ap₂ (λ x y. x + y) k.all (w.size ∙ sym (add-zero (size_by e))) ∙ sym (total-append es (e ∷ []));
      entries = subst Bytes (sym (joined-append es (e ∷ [])))
          (bytes-join (joined es) (e ++ []) k.entries (bytes-join e [] (bytes_take entry_size s bs) (record { byte = λ i. omega arith })));
      bytes = bytes-join d s k.bytes bs;
    }

-- without the entry of a point that is held, and its file
pub kept_less : (es : List (List ℕ)) (d : List ℕ) (p : ℕ) → Kept es d → is_held p es ≡ true
    → let i = slot_of p es in Kept (without i 1 es) (without (place_at i es) (size_at i es) d)
kept_less es d p k h =
    let i = slot_of p es in
    let within : i < length es = held_below p es h in
    let cut = less-length (place_at i es) (size_at i es) d (omega (arith, place-within i es within, k.all)) in
    record {
      sized = sized-less i 1 es k.sized;
      heads = heads-less i es k.heads;
      few = omega (arith, less-length i 1 es (omega arith), k.few);
      all = omega (arith, cut, total-less i es within, k.all);
      entries = entries-less i 1 es k.entries;
      bytes = bytes-less (place_at i es) (size_at i es) d k.bytes;
    }
