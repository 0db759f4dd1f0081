-- The story of point 14 is as its table says: by the laws of every book, on the plain map.
use mathlib.Core.List.{[], ◌++◌}
use mathlib.Core.Path.{◌≡◌, refl, ap, subst, ◌∙◌}
use Prim.Native.Nat.{ℕ, ◌-◌}
use native.Mathlib.Omega.{arith}
use lib.ListN.{length, take, drop, replicate}
use Rattle.base_lengths.specs.Levels.{depth_within, depth_from, after_levels}
use Rattle.base_samples.specs.Le.{le_at, le_bytes, Bytes}
use Rattle.base_samples.specs.Words.{tabulate, word_at, words_of, bytes_of}
use Rattle.base_samples.specs.Integers.{val, residue, wrap, decode, encode}
use Rattle.filter_cdf53i.specs.Lift.{detail, details, approx, approxs}
use Rattle.filter_cdf53i.proofs.Lengths.{bytes-join}
use Rattle.filter_cdf53i.specs.Bands.{low, high}
use Rattle.levels_filter.specs.declared.filter.Filter.TheVariants.{Cdf53I8}
use Rattle.levels_filter.specs.Pyramids.{laid_out}
use Rattle.law_levels.proofs.Undone.{bytes_take, bytes_drop}
use Rattle.file_open.specs.Files.{file_of}
use Rattle.file_open.specs.Walks.{one_of, walk_of}
use Rattle.file_open.specs.Opens.{own_width}
use Rattle.book_entries.specs.Books.{data_at}
use Rattle.law_book.specs.PlainMap.{AllLent, has, file_for, map_total, bytes_before, removed, map_answers}
use Rattle.law_book.proofs.ByteParts.{bytes-zeros}
use Rattle.law_book.proofs.FileBytes.{file-bytes}
use Rattle.law_book.proofs.IsMap.{is-map}
use Rattle.law_figures.specs.Worked.{five, thirty_five, unrated}
use Rattle.law_figures.specs.Book.{old_at, book_story, asked, answered, BookStory}
use Rattle.law_figures.proofs.Files.{five-bytes, new-bytes}

-- the file with a rate, but for four zeros in its place
no-rate : Bytes unrated
no-rate =
    let all : Bytes thirty_five = subst Bytes new-bytes (file-bytes Cdf53I8 tt 2 14 1000 five (record { byte = five-bytes })) in
    bytes-join (take 14 thirty_five) (replicate 4 0 ++ drop 18 thirty_five) (bytes_take 14 thirty_five all) (bytes-join (replicate 4 0) (drop 18 thirty_five) (bytes-zeros 4) (bytes_drop 18 thirty_five all))

lent : AllLent (asked book_story)
unfolding AllLent asked
lent =
    let at : (p r : ℕ) → Bytes (file_of Cdf53I8 2 p r five) = λ p r. file-bytes Cdf53I8 tt 2 p r five (record { byte = five-bytes }) in
    (at 14 0, (at 15 1000, (tt, (at 15 0, (at 16 0, (tt, (tt, (tt, (tt, (tt, (no-rate, (at 15 1000, (bytes_take 30 (old_at 16) (at 16 0), (at 16 1000, (at 16 0, (tt, tt))))))))))))))))

on-map : map_answers 66 [] (asked book_story) ≡ answered book_story
unfolding asked answered map_answers has file_for map_total bytes_before removed file_of laid_out one_of walk_of own_width after_levels depth_from depth_within le_at le_bytes tabulate word_at words_of bytes_of val residue wrap decode encode detail details approx approxs low high
on-map = refl

pub book-story : BookStory
book-story b b₀ b' r rs h e f ran =
    let n : length b - data_at ≡ 66 = omega (arith, e) in
    (is-map b h (omega (arith, e)) (omega (arith, e)) r b₀ f (asked book_story) lent rs b' ran).1 ∙ ap (λ (m : ℕ). map_answers m [] (asked book_story)) n ∙ on-map
