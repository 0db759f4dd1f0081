-- What the functions on a state and a piece ask and promise, here and in `stream_calls`.
use Rattle.std.specs.Prelude.{List, ◌++◌, ℕ, ◌+◌, ◌-◌, ◌*◌, ◌/◌, ◌≤◌, length}
use Rattle.base_lengths.specs.Lengths.{most_samples}
use Rattle.base_samples.specs.Words.{word_at, Holds}
use Rattle.base_samples.specs.Integers.{Width}
use Rattle.filter_cdf53i.specs.Bands.{detail_word, approx_word}
use Rattle.stream_pieces.specs.declared.recorder.Recorder.{Recorder}
use Rattle.stream_pieces.specs.States.{fixed, Possible, stand_in}

-- sample j from the first one that waits on, of the state s and the piece y
abbrev pub next_word : ℕ → Recorder → List ℕ → ℕ → ℕ
next_word k s y j = word_at k (stand_in k s ++ y) (2 * fixed s.total + j)

-- the words of their details, and of their approximations, from the first that is not written on
abbrev pub next_detail : ℕ → Recorder → List ℕ → ℕ → ℕ
next_detail k s y j = detail_word k (stand_in k s ++ y) (fixed s.total + j)

abbrev pub next_approx : ℕ → Recorder → List ℕ → ℕ → ℕ
next_approx k s y j = approx_word k (stand_in k s ++ y) (fixed s.total + j)

-- how many of each band the piece y fixes
abbrev pub newly : ℕ → Recorder → List ℕ → ℕ
newly k s y = fixed (s.total + length y / k) - fixed s.total

-- a possible state, and a piece of whole samples that keeps the limit
pub record Taking (k : ℕ) (s : Recorder) (y : List ℕ) : Type 0 where
  pub width : Width k
  pub state : Possible k s
  pub piece : Holds k (length y / k) y
  pub few : s.total + length y / k ≤ most_samples
