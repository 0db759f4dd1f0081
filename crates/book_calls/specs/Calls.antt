-- The calls of the book, from C-14: what each leaves of the area. What each says, and its checks in order, are in `book_entries`.
use Rattle.std.specs.Prelude.{List, [], ◌∷◌, ◌++◌, ◌≡◌, ℕ, ◌+◌, length, take, drop, replicate}
use Rattle.base_answers.specs.declared.err.Answer.{Answer}
use Rattle.base_answers.specs.Answers.{Outcome, answer_of}
use Rattle.base_answers.specs.Checks.{left, in_front}
use Rattle.base_samples.specs.Le.{stored}
use Rattle.book_entries.specs.Books.{entry_size, entry_start, total_at, data_at, book_of, entries_in, data_in, slot_of, place_at, size_at}
use Rattle.book_entries.specs.Checks.{say_fresh, say_add, say_withdraw}

-- the area b with these entries and this data, and behind them the bytes that were there
abbrev pub holding : List ℕ → List (List ℕ) → List ℕ → List ℕ
holding b es d = in_front (book_of es d) b

-- the answer r of a call that says s, and the area b' that it leaves of the area b: `new` where it is done
pub record Leaves (s : Outcome) (new b : List ℕ) (r : Answer) (b' : List ℕ) : Type 0 where
  pub answer : r ≡ answer_of s
  pub book : b' ≡ left s new b

-- ---- a fresh book

unfoldable pub fresh_in : List ℕ → List ℕ
fresh_in b = holding b [] []

abbrev pub Fresh : List ℕ → Answer → List ℕ → Type 0
Fresh b = Leaves (say_fresh b) (fresh_in b) b

-- ---- adding

-- the first bytes of the file s are the last entry, and the data ends with it
unfoldable pub added_in : List ℕ → List ℕ → List ℕ
added_in b s = holding b (entries_in b ++ (take entry_size s ∷ [])) (data_in b ++ s)

-- on the way: the file s behind t bytes of data, and the new count
abbrev pub file_put : List ℕ → ℕ → List ℕ → List ℕ
file_put b t s = stored 4 (take (data_at + t) b ++ (s ++ drop (data_at + t + length s) b)) total_at (t + length s)

abbrev pub Add : List ℕ → ℕ → List ℕ → Answer → List ℕ → Type 0
Add b p s = Leaves (say_add b p s) (added_in b s) b

-- ---- withdrawing

-- a list without n of its elements, from place i on
abbrev pub without : {A : Type 0} → ℕ → ℕ → List A → List A
without i n l = take i l ++ drop (i + n) l

-- the data without the file of entry i
abbrev pub data_without : List ℕ → ℕ → List ℕ
data_without b i = let es = entries_in b in without (place_at i es) (size_at i es) (data_in b)

-- "withdrawing packs the rest together": the entry is taken out of the directory, and the file out of the data
unfoldable pub withdrawn_in : List ℕ → ℕ → List ℕ
withdrawn_in b p =
    let es = entries_in b in
    let i = slot_of p es in
    holding b (without i 1 es) (data_without b i)

-- on the way: the file of entry i taken out of the data, its entry still there
abbrev pub file_out : List ℕ → ℕ → List ℕ
file_out b i = holding b (entries_in b) (data_without b i)

-- entry i taken out of the directory, and the last one cleared
abbrev pub entry_out : List ℕ → ℕ → List ℕ
entry_out b i = without (entry_start i) entry_size (take total_at b) ++ (replicate entry_size 0 ++ drop total_at b)

abbrev pub Withdraw : List ℕ → ℕ → Answer → List ℕ → Type 0
Withdraw b p = Leaves (say_withdraw b p) (withdrawn_in b p) b
