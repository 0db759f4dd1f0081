-- One sample of a file, from document 02, C-11: "Give the sample at a place straight from the file". Nothing here speaks of neighbours: the sample is the one that
-- opening puts at that place.
use Rattle.std.specs.Prelude.{cond, List, [], ◌∷◌, ◌++◌, ◌≡◌, ℕ, ◌^◌, ℤ, pos}
use Rattle.base_answers.specs.Answers.{Outcome, told, answer_of, done}
use Rattle.base_answers.specs.Checks.{first_refusal, outside}
use Rattle.base_samples.specs.Words.{word_at}
use Rattle.base_samples.specs.Integers.{val}
use Rattle.file_open.specs.Opens.{file_checks, count_in, samples_in}
use Rattle.file_sample.specs.declared.PeekAnswer.{PeekAnswer}

-- "Refusals: opening's, without its 7s, then 13 (place, count)": what opening checks of the file alone, then the place in what it gives back
unfoldable pub say_peek : List ℕ → ℕ → ℕ → ℕ → Outcome
say_peek s w p j = first_refusal (file_checks s w p ++ (outside j (count_in s) ∷ [])) (told 0 0)

-- "It equals what opening would put at that place .. 0 when refused": the number of word j of the samples that opening gives back
unfoldable pub peek_in : List ℕ → ℕ → ℕ → ℕ → ℤ
peek_in s w p j = cond (done (say_peek s w p j)) (val (256 ^ w) (word_at w (samples_in s) j)) (pos 0)

-- the answer r to asking the file s, for width w and point p, for the sample at place j
pub record Peek (s : List ℕ) (w p j : ℕ) (r : PeekAnswer) : Type 0 where
  pub answer : r.answer ≡ answer_of (say_peek s w p j)
  pub sample : r.sample ≡ peek_in s w p j
