-- What the first b bytes of a file let see, from document 01: "a cut in section 1 is 10; later it ends the file there, and the broken section is ignored". Over
-- z bytes of section 0, k bytes a sample, l levels and n samples.
use Rattle.std.specs.Prelude.{cond, List, [], ◌∷◌, ◌++◌, ◌≡◌, ℕ, zero, suc, ◌+◌, ◌-◌, ◌*◌, ◌%◌, ◌^◌, ◌≤◌, ◌<◌, leb, pos, length, take, drop}
use Rattle.base_answers.specs.declared.err.Answer.{Answer}
use Rattle.base_answers.specs.Answers.{told, say}
use Rattle.base_lengths.specs.Lengths.{approx_length}
use Rattle.base_lengths.specs.Levels.{count_at}
use Rattle.base_samples.specs.Words.{word_at}
use Rattle.base_samples.specs.Integers.{val}
use Rattle.levels_filter.specs.declared.filter.Filter.{Filter}
use Rattle.levels_filter.specs.Filters.{width_of}
use Rattle.levels_filter.specs.Pyramids.{approx_at, lengths_of}
use Rattle.file_open.specs.declared.walk.Way.{Way}
use Rattle.file_open.specs.declared.walk.Way.TheVariants.{Went, Short, Wrong}
use Rattle.file_open.specs.Files.{body_size, file_size}
use Rattle.file_open.specs.Opens.{say_open, samples_in, Open}
use Rattle.file_sample.specs.declared.PeekAnswer.{PeekAnswer}
use Rattle.file_sample.specs.Peeks.{Peek}

-- ---- how much is whole

-- of sections of the counts cs, one after the other, each 4 bytes for its count and then its samples: how many are whole in b bytes
unfoldable pub first_whole : ℕ → List ℕ → ℕ → ℕ
first_whole k [] b = 0
first_whole k (c ∷ cs) b = cond (leb (4 + k * c) b) (suc (first_whole k cs (b - (4 + k * c)))) 0

-- the bytes of sections 0 and 1: the header and the deepest approximations
abbrev pub needed : ℕ → ℕ → ℕ → ℕ → ℕ
needed z k l n = z + body_size k 0 (count_at l n)

-- and of sections 0 to q, q from 1 on: those above are the case of 1
abbrev pub size_through : ℕ → ℕ → ℕ → ℕ → ℕ → ℕ
size_through z k l n q = z + body_size k (q - 1) (count_at (l + 1 - q) n)

-- how many sections of details, deepest first, are whole in the first b bytes of a file
abbrev pub whole_of : ℕ → ℕ → ℕ → ℕ → ℕ → ℕ
whole_of z k l n b = first_whole k (lengths_of l n) (b - needed z k l n)

-- ---- the same, as a walk finds it

-- how many sections of details are whole in the first b bytes after section 0: all where these sections are, and else as many as of one level less, whose
-- sections stand before
unfoldable pub whole_in : ℕ → ℕ → ℕ → ℕ → ℕ
whole_in k zero n b = 0
whole_in k (suc l) n b = cond (leb (body_size k (suc l) n) b) (suc l) (whole_in k l (approx_length n) b)

-- the section in which a walk over a cut body stops: the one where it stopped before, or section j
abbrev pub stopped : Way → ℕ → Way
stopped (Went p) j = Short j
stopped (Short i) j = Short i
stopped (Wrong i found) j = Wrong i found

-- how far a walk over these sections, which stand at p, gets in their first b bytes
unfoldable pub way_within : ℕ → ℕ → ℕ → ℕ → ℕ → Way
way_within k zero n p b = cond (leb (body_size k 0 n) b) (Went (p + body_size k 0 n)) (Short 1)
way_within k (suc l) n p b = cond (leb (body_size k (suc l) n) b) (Went (p + body_size k (suc l) n)) (stopped (way_within k l (approx_length n) p b) (suc l + 1))

-- ---- opening

-- the output and the work areas, of o, u and v bytes, are whole samples of k bytes
pub record Sampled (k o u v : ℕ) : Type 0 where
  pub output : o % k ≡ 0
  pub first : u % k ≡ 0
  pub second : v % k ≡ 0

-- each of them has room for c samples
pub record Roomy (k c o u v : ℕ) : Type 0 where
  pub output : k * c ≤ o
  pub first : k * c ≤ u
  pub second : k * c ≤ v

-- what opening s is to give: the level, that many samples, and which
pub record OpensTo (s : List ℕ) (k p o u v level count : ℕ) (x : List ℕ) : Type 0 where
  pub says : say_open s k p o u v ≡ told level count
  pub samples : samples_in s ≡ x

-- ---- demand 3

-- the level that the first c bytes give, of a file of l levels of n samples of k bytes: l less the detail sections that are whole
abbrev pub level_left : ℕ → ℕ → ℕ → ℕ → ℕ → ℕ
level_left z k l n c = l - whole_of z k l n c

-- the answer r, and the output o', that opening the first c bytes of the file of x, of l levels and n samples, leaves in the output o
pub record Opened (z : ℕ) (f : Filter) (l n c : ℕ) (x o : List ℕ) (r : Answer) (o' : List ℕ) : Type 0 where
  -- below the end of the coarsest section it is 10 (c, 0), the output is as it was, and nowhere else is it 10
  pub cut : c < needed z (width_of f) l n → (r ≡ say 10 c 0) × (o' ≡ o)
  pub only-cut : r.number ≡ 10 → c < needed z (width_of f) l n
  -- from there on it is done, with the level, its count, and exactly its approximations
  pub level : needed z (width_of f) l n ≤ c
      → (r ≡ say 0 (level_left z (width_of f) l n c) (count_at (level_left z (width_of f) l n c) n))
      × (o' ≡ approx_at f (level_left z (width_of f) l n c) x ++ drop (width_of f * count_at (level_left z (width_of f) l n c) n) o)
  -- and in an output of just that many samples nothing else
  pub just : needed z (width_of f) l n ≤ c → length o ≡ width_of f * count_at (level_left z (width_of f) l n c) n → o' ≡ approx_at f (level_left z (width_of f) l n c) x
  -- the whole file gives level 0, which is the samples, and nothing less gives it
  pub all : c ≡ file_size z (width_of f) l n → (r ≡ say 0 0 n) × (o' ≡ x ++ drop (length x) o)
  pub only-all : r.number ≡ 0 → r.first ≡ 0 → c ≡ file_size z (width_of f) l n
  -- so many detail sections are whole: they end within c bytes, and the next one does not
  pub within : needed z (width_of f) l n ≤ c → z + body_size (width_of f) (whole_of z (width_of f) l n c) (count_at (level_left z (width_of f) l n c) n) ≤ c
  pub next : needed z (width_of f) l n ≤ c → whole_of z (width_of f) l n c < l
      → c < z + body_size (width_of f) (suc (whole_of z (width_of f) l n c)) (count_at (l - suc (whole_of z (width_of f) l n c)) n)

-- every opening, for the same width and point, of the first c bytes of s, with an output and work areas of whole samples that have room for the count given back
abbrev pub Openings : ℕ → Filter → ℕ → ℕ → ℕ → List ℕ → List ℕ → Type 0
Openings z f l n p x s =
    (c : ℕ) → c ≤ file_size z (width_of f) l n → (o g h : List ℕ) → Sampled (width_of f) (length o) (length g) (length h)
    → (needed z (width_of f) l n ≤ c → Roomy (width_of f) (count_at (level_left z (width_of f) l n c) n) (length o) (length g) (length h))
    → (r : Answer) (o' g' h' : List ℕ) → Open (take c s) (width_of f) p o g h r o' g' h' → Opened z f l n c x o r o'

-- ---- one sample

-- the answer q to asking the first c bytes of the file of x, of l levels and n samples, for the sample at place j
pub record Peeked (z : ℕ) (f : Filter) (l n c : ℕ) (x : List ℕ) (j : ℕ) (q : PeekAnswer) : Type 0 where
  -- below the end of the coarsest section it is 10 (c, 0), and nowhere else is it 10
  pub cut : c < needed z (width_of f) l n → (q.answer ≡ say 10 c 0) × (q.sample ≡ pos 0)
  pub only-cut : q.answer.number ≡ 10 → c < needed z (width_of f) l n
  -- from there on it is done at each place of the level that is left, with the number of its approximation there
  pub level : needed z (width_of f) l n ≤ c → j < count_at (level_left z (width_of f) l n c) n
      → (q.answer ≡ say 0 0 0) × (q.sample ≡ val (256 ^ width_of f) (word_at (width_of f) (approx_at f (level_left z (width_of f) l n c) x) j))
  -- and 13 at every other
  pub past : needed z (width_of f) l n ≤ c → count_at (level_left z (width_of f) l n c) n ≤ j → (q.answer ≡ say 13 j (count_at (level_left z (width_of f) l n c) n)) × (q.sample ≡ pos 0)
  -- the whole file gives the recording's own sample
  pub all : c ≡ file_size z (width_of f) l n → j < n → (q.answer ≡ say 0 0 0) × (q.sample ≡ val (256 ^ width_of f) (word_at (width_of f) x j))

-- every asking, for the same width and point, of the first c bytes of s
abbrev pub Peekings : ℕ → Filter → ℕ → ℕ → ℕ → List ℕ → List ℕ → Type 0
Peekings z f l n p x s = (c : ℕ) → c ≤ file_size z (width_of f) l n → (j : ℕ) (q : PeekAnswer) → Peek (take c s) (width_of f) p j q → Peeked z f l n c x j q
