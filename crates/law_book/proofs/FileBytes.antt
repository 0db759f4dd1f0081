-- A file of any samples is bytes. Each of the integer filters.
use mathlib.Core.List.{List, ◌++◌}
use mathlib.Core.Logic.{⊎_elim}
use Prim.Native.Nat.{ℕ, zero, suc, ◌/◌}
use lib.ListN.{length}
use Rattle.base_lengths.specs.Lengths.{approx_length, details_length}
use Rattle.base_samples.specs.Le.{le_bytes, Bytes}
use Rattle.base_samples.specs.Integers.{encode}
use Rattle.filter_cdf53i.specs.Bands.{high}
use Rattle.filter_cdf53i.proofs.Lengths.{bytes-join, bytes-of, bytes_low}
use Rattle.levels_filter.specs.declared.filter.Filter.{Filter}
use Rattle.levels_filter.specs.Filters.{width_of, low_of, high_of, Integers}
use Rattle.levels_filter.specs.Pyramids.{laid_out}
use Rattle.levels_filter.proofs.Integers.{each_width}
use Rattle.file_open.specs.Files.{section_of, count_by, rate_of, body_of, file_of}
use Rattle.file_open.proofs.Writing.{OldKind, NewKind, either-kind}
use Rattle.law_book.proofs.ByteParts.{bytes-zeros, bytes-number}

-- both bands are
bytes_high : (k : ℕ) (x : List ℕ) → Bytes (high k x)
unfolding high encode
bytes_high k x = bytes-of k _

bands-bytes : (f : Filter) → Integers f → ((x : List ℕ) → Bytes (low_of f x)) × ((x : List ℕ) → Bytes (high_of f x))
bands-bytes = each_width (λ k a d back. ((x : List ℕ) → Bytes (a x)) × ((x : List ℕ) → Bytes (d x))) (λ k w. (bytes_low k, bytes_high k))

-- so are the sections, and section 0
section-bytes : (c : ℕ) (s : List ℕ) → Bytes s → Bytes (section_of c s)
section-bytes c s h = bytes-join (le_bytes 4 c) s (bytes-number 4 c) h

body_bytes : (f : Filter) → Integers f → (l n : ℕ) (x : List ℕ) → Bytes x → Bytes (body_of f l n x)
unfolding laid_out
body_bytes f i zero n x h = section-bytes n x h
body_bytes f i (suc l) n x h =
    bytes-join (body_of f l (approx_length n) (low_of f x)) (section_of (details_length n) (high_of f x))
    (body_bytes f i l (approx_length n) (low_of f x) ((bands-bytes f i).0 x)) (section-bytes (details_length n) (high_of f x) ((bands-bytes f i).1 x))

rate-bytes : (r : ℕ) → Bytes (rate_of r)
rate-bytes r = ⊎_elim (λ (o : OldKind r). rw o.behind (bytes-zeros 0)) (λ (w : NewKind r). rw w.behind (bytes-number 4 r)) (either-kind r)

pub file-bytes : (f : Filter) → Integers f → (l p r : ℕ) (x : List ℕ) → Bytes x → Bytes (file_of f l p r x)
unfolding file_of
file-bytes f i l p r x h =
    let n = length x / width_of f in
    let join : (s t : List ℕ) → Bytes s → Bytes t → Bytes (s ++ t) = bytes-join in
    let common = section-bytes (count_by r) _ (join _ _ (bytes-number 1 (width_of f)) (join _ _ (bytes-number 1 l) (join _ _ (bytes-number 4 n) (bytes-number 4 p)))) in
    join _ _ (join _ _ common (rate-bytes r)) (body_bytes f i l n x h)
