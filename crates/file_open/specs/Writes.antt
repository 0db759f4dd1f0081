-- Writing a file, from document 01: "writing checks as integer `multi_dwt` without its 3, then 7 (file area; need: the size), 7, 7. Bytes past the size are unchanged. Levels 0
-- is stored as 1"; and from C-17: "the writer takes a rate and writes only the new kind"; "in writing a rate of 0 is 18, first after the byte-length 9".
use Rattle.std.specs.Prelude.{List, ◌∷◌, ◌++◌, ℕ, ◌/◌, eqb, length, drop}
use Rattle.base_answers.specs.declared.err.Answer.{Answer}
use Rattle.base_answers.specs.declared.err.Refusal.TheVariants.{NoRate}
use Rattle.base_answers.specs.Answers.{Outcome, told}
use Rattle.base_answers.specs.Checks.{Check, first_refusal, ragged, tight, two_areas, Call}
use Rattle.base_lengths.specs.Levels.{levels_of}
use Rattle.levels_filter.specs.declared.filter.Filter.{Filter}
use Rattle.levels_filter.specs.Filters.{width_of}
use Rattle.levels_filter.specs.Calls.{depth_checks}
use Rattle.file_open.specs.Files.{new_size, file_size, file_of}

-- by samples: n of the signal, u and v of the work areas; b bytes of the file area
abbrev pub write_checks : Filter → ℕ → ℕ → ℕ → ℕ → ℕ → List Check
write_checks f l n b u v = depth_checks f l n ++ (tight b (file_size new_size (width_of f) (levels_of l) n) ∷ two_areas u v n)

-- by byte lengths: the file area may have any
unfoldable pub say_write : Filter → ℕ → ℕ → ℕ → ℕ → ℕ → ℕ → Outcome
say_write f l r x b u v = first_refusal (ragged (width_of f) x ∷ ragged (width_of f) u ∷ ragged (width_of f) v ∷ (eqb r 0, NoRate) ∷ write_checks f l (x / width_of f) b (u / width_of f) (v / width_of f)) (told 0 0)

-- the answer a, and the file area b' and the work areas that writing the samples x for point p and rate r leaves
abbrev pub Write : Filter → ℕ → ℕ → ℕ → List ℕ → List ℕ → List ℕ → List ℕ → Answer → List ℕ → List ℕ → List ℕ → Type 0
Write f l p r x b u v =
    Call (say_write f l r (length x) (length b) (length u) (length v)) (length x) (file_of f (levels_of l) p r x ++ drop (file_size new_size (width_of f) (levels_of l) (length x / width_of f)) b) b u v
