-- Demand 3 for each file taken from the book, whoever wrote it: over any sequence of calls on a fresh book, every front of what finding names opens as demand
-- 3 says, of the recording that the whole of it opens as.
use mathlib.Core.Bool.{true}
use mathlib.Core.List.{List, []}
use mathlib.Core.Path.{◌≡◌}
use Prim.Native.Nat.{ℕ, ◌-◌, ◌≤◌}
use lib.ListN.{length, take, drop}
use Rattle.base_answers.specs.declared.err.Answer.{Answer}
use Rattle.base_answers.specs.Answers.{told, done}
use Rattle.base_samples.specs.Le.{Bytes}
use Rattle.file_open.specs.Opens.{filter_of, head_in, rate_in, samples_in, say_open, rate_opened}
use Rattle.law_cuts.specs.Sees.{Openings}
use Rattle.law_cuts.proofs.Opened.{openings}
use Rattle.book_entries.specs.Books.{data_at}
use Rattle.book_entries.specs.Checks.{most_area, say_find}
use Rattle.book_calls.specs.Calls.{Fresh}
use Rattle.law_book.specs.PlainMap.{BookCall, Ran, AllLent, has, file_for, place_for, map_after}
use Rattle.law_book.proofs.IsMap.{is-map}
use Rattle.law_book.proofs.HeldWhole.{held_whole}
use Rattle.law_book.proofs.WholeWritten.{whole-filed, whole-rate}

-- each point that the map has is found, at the bytes of its file, and every front of them opens as `Openings` says, with the rate that the file stores
pub each_opens : (b : List ℕ) → Bytes b → data_at ≤ length b → length b ≤ most_area → (r : Answer) (b₀ : List ℕ) → Fresh b r b₀
    → (cs : List BookCall) → AllLent cs → (rs : List Answer) (b' : List ℕ) → Ran b₀ cs rs b'
    → let m = map_after (length b - data_at) [] cs in (q : ℕ) → has q m ≡ true
    → let s = file_for q m in
    let h = head_in s in
    (say_find b' q ≡ told (place_for q m) (length s))
    × (take (length s) (drop (place_for q m) b') ≡ s)
    × Openings h.body (filter_of h.width) h.levels h.samples q (samples_in s) s
    × ((c : ℕ) → c ≤ length s → (k p o u v : ℕ) → done (say_open (take c s) k p o u v) ≡ true → rate_opened (take c s) k p o u v ≡ rate_in s)
each_opens b bytes long short r b₀ f cs l rs b' ran q held =
    let n = length b - data_at in
    let named = (is-map b bytes long short r b₀ f cs l rs b' ran).2.present q held in
    let file = held_whole n cs l q held in
    let s = file_for q (map_after n [] cs) in
    (named.0, named.1, openings (whole-filed s q file.0 file.1), whole-rate s q file.0 file.1)
