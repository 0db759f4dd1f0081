-- The story of point 14, from C-14 and the customer's own words: "today point 14 was withdrawn, and every note behind it slid by one". P5's samples are kept
-- for points 14 and 15 in an area that is just long enough for both, the one without a rate and the other with one.
use Rattle.std.specs.Prelude.{List, [], ◌∷◌, ◌≡◌, ℕ, ◌+◌, length, take}
use Rattle.base_answers.specs.declared.err.Answer.{Answer}
use Rattle.base_answers.specs.Answers.{say}
use Rattle.base_samples.specs.Le.{Bytes}
use Rattle.levels_filter.specs.declared.filter.Filter.TheVariants.{Cdf53I8}
use Rattle.file_open.specs.Files.{file_of}
use Rattle.book_entries.specs.Books.{data_at}
use Rattle.book_calls.specs.Calls.{Fresh}
use Rattle.law_book.specs.PlainMap.{BookCall, add, withdraw, find, room, Ran}
use Rattle.law_figures.specs.Worked.{five, unrated}

-- P6's file, for any point, and the same with a rate
abbrev pub old_at : ℕ → List ℕ
old_at p = file_of Cdf53I8 2 p 0 five

abbrev pub new_at : ℕ → List ℕ
new_at p = file_of Cdf53I8 2 p 1000 five

-- each call and its answer. Shut out: a book that refuses everything; that gives 14 before 15; that finds by place in the list (after the withdrawal
-- point 15 stands first, and 14 is not found); that keeps the room of what was withdrawn; that takes a cut file; that knows only old files; that takes both kinds
-- to be of one size, or a file whose rate is 0
abbrev pub book_story : List (BookCall × Answer)
book_story =
    (add 14 (old_at 14), say 0 0 0)
    ∷ (add 15 (new_at 15), say 0 0 0)
    ∷ (find 15, say 0 935 35)
    ∷ (add 15 (old_at 15), say 15 0 0)
    ∷ (add 16 (old_at 16), say 14 0 0)
    ∷ (withdraw 14, say 0 0 0)
    ∷ (find 15, say 0 904 35)
    ∷ (find 14, say 16 0 0)
    ∷ (withdraw 14, say 16 0 0)
    ∷ (room, say 0 31 1)
    ∷ (add 14 unrated, say 18 0 0)
    ∷ (add 16 (new_at 15), say 11 15 16)
    ∷ (add 16 (take 30 (old_at 16)), say 10 30 0)
    ∷ (add 16 (new_at 16), say 14 0 0)
    ∷ (add 16 (old_at 16), say 0 0 0)
    ∷ (room, say 0 0 2)
    ∷ []

unfoldable pub asked : List (BookCall × Answer) → List BookCall
asked [] = []
asked (x ∷ xs) = x.0 ∷ asked xs

unfoldable pub answered : List (BookCall × Answer) → List Answer
answered [] = []
answered (x ∷ xs) = x.1 ∷ answered xs

-- whatever stood in the area, and whatever is behind the data
abbrev pub BookStory : Type 0
BookStory = (b b₀ b' : List ℕ) (r : Answer) (rs : List Answer) → Bytes b → length b ≡ data_at + 66 → Fresh b r b₀ → Ran b₀ (asked book_story) rs b' → rs ≡ answered book_story
