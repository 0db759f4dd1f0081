-- What a file of either kind says of itself, "all as stored", the rate 0 where it has none, and the size of a file that is to be written, which is a new one.
use Rattle.std.specs.Prelude.{cond, not, List, ◌∷◌, ◌≡◌, ℕ}
use Rattle.base_answers.specs.declared.err.Refusal.TheVariants.{OtherWidth}
use Rattle.base_answers.specs.Answers.{Outcome, told, answer_of, done}
use Rattle.base_answers.specs.Checks.{first_refusal}
use Rattle.base_lengths.specs.Levels.{levels_of}
use Rattle.base_samples.specs.Integers.{is_width}
use Rattle.levels_filter.specs.Calls.{depth_checks}
use Rattle.file_open.specs.Files.{new_size, file_size}
use Rattle.file_open.specs.Opens.{head_in, rate_in, filter_of, start_checks}
use Rattle.file_head.specs.declared.HeadAnswer.{HeadAnswer}

-- "6, 10 (under 4), 9, 10 (section 0 not whole), never 18": what opening tests before the width
unfoldable pub say_head : List ℕ → Outcome
say_head s = first_refusal (start_checks s) (told 0 0)

-- "when refused the fields are 0"
abbrev pub told_of : List ℕ → ℕ → ℕ
told_of s n = cond (done (say_head s)) n 0

pub record Told (s : List ℕ) (r : HeadAnswer) : Type 0 where
  pub answer : r.answer ≡ answer_of (say_head s)
  pub width : r.width ≡ told_of s (head_in s).width
  pub levels : r.levels ≡ told_of s (head_in s).levels
  pub samples : r.samples ≡ told_of s (head_in s).samples
  pub point : r.point ≡ told_of s (head_in s).point
  pub rate : r.rate ≡ told_of s (rate_in s)

-- an answer t tells k bytes a sample, l levels, n samples, point p and rate r
pub record Tells (t : HeadAnswer) (k l n p r : ℕ) : Type 0 where
  pub width : t.width ≡ k
  pub levels : t.levels ≡ l
  pub samples : t.samples ≡ n
  pub point : t.point ≡ p
  pub rate : t.rate ≡ r

-- "first is the file's size in bytes; refusals as writing's for that n and levels, and 8 (0, width) first where the width is not 1, 2 or 4"
unfoldable pub say_size : ℕ → ℕ → ℕ → Outcome
say_size w n l = first_refusal ((not (is_width w), OtherWidth 0 w) ∷ depth_checks (filter_of w) l n) (told (file_size new_size w (levels_of l) n) 0)
