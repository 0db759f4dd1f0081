-- Levels of the float 5/3 filter and of the integer steps, and what the exact case of document 01 promises of them: "every level-l coefficient times 8^l is a
-- whole number given by the integer steps without floor and without the added 2, and the inverse gives the inputs back numerically". Over the format.
use Rattle.std.specs.Prelude.{true, List, map, ◌≡◌, ℕ, zero, suc, ◌-◌, ◌*◌, ◌/◌, ◌^◌, ◌≤◌, ◌<◌, T, Float, ℤ, pos, ◌*ℤ◌, length, get_or, take, drop}
use Rattle.std.specs.Float.{nan, Format, binary32, binary64}
use Rattle.std.specs.Float.Ieee.{prec, eq}
use Rattle.base_answers.specs.declared.err.Answer.{Answer}
use Rattle.base_answers.specs.Answers.{told, answer_of, done}
use Rattle.base_lengths.specs.declared.Wavelet.TheVariants.{Cdf53}
use Rattle.base_lengths.specs.Lengths.{details_length}
use Rattle.base_lengths.specs.Levels.{after_levels, there_and_back, count_at, levels_of}
use Rattle.base_samples.specs.Words.{tabulate}
use Rattle.base_samples.specs.Floats.{decode_floats}
use Rattle.filter_floats.specs.Bands.{approxs, details, restored}
use Rattle.levels_filter.specs.declared.filter.Filter.{Filter}
use Rattle.levels_filter.specs.declared.filter.Filter.TheVariants.{Cdf53F32, Cdf53F64}
use Rattle.levels_filter.specs.Filters.{width_of}
use Rattle.levels_filter.specs.Calls.{OneInverse, say_dwt, Dwt}
use Rattle.law_exact.specs.Exact.{Are, number, details2, approximations8}

-- the 5/3 filter of the format
abbrev pub filter53 : Format → Filter
filter53 binary32 = Cdf53F32
filter53 binary64 = Cdf53F64

-- "of size at most 2^(24-4L)" for f32, "2^(53-4L)" for f64
abbrev pub most : Format → ℕ → ℕ
most f levels = 2 ^ (prec f - 4 * levels)

-- ---- of floats

-- the approximations after l levels: "the next level's input is this level's approximations"
abbrev pub floats_at : Format → ℕ → List Float → List Float
floats_at f = after_levels (approxs f Cdf53)

-- l levels forward, and back again
abbrev pub floats_back : Format → ℕ → List Float → List Float
floats_back f = there_and_back (approxs f Cdf53) (details f Cdf53) (restored f Cdf53)

-- ---- of whole numbers

-- 8 ^ l times the approximations after l levels
abbrev pub numbers_at : ℕ → List ℤ → List ℤ
numbers_at = after_levels approximations8

-- c times each
unfoldable pub times : ℕ → List ℤ → List ℤ
times c z = tabulate (length z) (λ i. get_or z i (pos 0) *ℤ pos c)

-- ---- the exact case: floats x that are the whole numbers z

pub record Exact (f : Format) (levels : ℕ) (x : List Float) (z : List ℤ) : Type 0 where
  -- each approximation of level l + 1, times 8 ^ (l + 1), is the whole number that the integer steps give
  pub approximations-are : (l : ℕ) → l < levels → Are (3 * suc l) (2 ^ prec f) (floats_at f (suc l) x) (numbers_at (suc l) z)
  -- and so is each detail, as four times what is twice the detail of inputs that are times 8 ^ l
  pub details-are : (l : ℕ) → l < levels → Are (3 * suc l) (2 ^ prec f) (details f Cdf53 (floats_at f l x)) (times 4 (details2 (numbers_at l z)))
  -- the inverse gives the inputs back, numerically
  pub inputs-back : (i : ℕ) → i < length z → T (eq (get_or (floats_back f levels x) i nan) (get_or x i nan))
  pub lengths-back : length (floats_back f levels x) ≡ length x

-- ---- the same about the bytes of the calls, of samples x

-- how many samples s holds
abbrev pub sample_count : Format → List ℕ → ℕ
sample_count f s = length s / width_of (filter53 f)

-- which whole numbers they are
abbrev pub numbers_in : Format → List ℕ → List ℤ
numbers_in f s = map number (decode_floats f s)

-- the deepest approximations in what `multi_dwt` gave, y, which come first, all details, and those of level i + 1
abbrev pub deepest : Format → ℕ → List ℕ → List ℕ → List ℕ
deepest f levels x y = take (width_of (filter53 f) * count_at levels (sample_count f x)) y

abbrev pub all_details : Format → ℕ → List ℕ → List ℕ → List ℕ
all_details f levels x y = drop (width_of (filter53 f) * count_at levels (sample_count f x)) y

abbrev pub details_of : Format → ℕ → List ℕ → List ℕ → List ℕ
details_of f i x y = take (width_of (filter53 f) * details_length (count_at i (sample_count f x))) (drop (width_of (filter53 f) * count_at (suc i) (sample_count f x)) y)

-- a and d are the approximations and the details of level l of the samples x, l being 1 or more: each, times 8 ^ l, is the whole number that the integer steps
-- give, a detail as four times what is twice the detail of inputs that are times 8 ^ (l - 1)
pub record ExactLevel (f : Format) (l : ℕ) (x a d : List ℕ) : Type 0 where
  pub approximations-are : Are (3 * l) (2 ^ prec f) (decode_floats f a) (numbers_at l (numbers_in f x))
  pub details-are : Are (3 * l) (2 ^ prec f) (decode_floats f d) (times 4 (details2 (numbers_at (l - 1) (numbers_in f x))))

-- p are the samples x, numerically
pub record SameNumbers (f : Format) (x p : List ℕ) : Type 0 where
  pub inputs-back : (i : ℕ) → i < sample_count f x → T (eq (get_or (decode_floats f p) i nan) (get_or (decode_floats f x) i nan))
  pub lengths-back : length p ≡ length x

-- one level: a and d are what the forward call gave of x
pub record ExactOne (f : Format) (x a d : List ℕ) : Type 0 where
  pub bands-are : ExactLevel f 1 x a d
  -- the inverse on them, into an output as long as x, is done and gives the inputs back
  pub back : {o : List ℕ} {q : Answer} {o' : List ℕ} → length o ≡ length x → OneInverse (filter53 f) a d o q o' → (q ≡ answer_of (told 0 0)) × SameNumbers f x o'

-- many levels: y is what `multi_dwt` gave of x, and p what `multi_idwt` gave of y
pub record ExactBytes (f : Format) (levels : ℕ) (x y p : List ℕ) : Type 0 where
  -- of each level `dwt` gives both bands; 0 levels are one
  pub levels-are : (j : ℕ) → levels_of j ≤ levels → {a d u v : List ℕ} {r : Answer} {a' d' u' v' : List ℕ} → Dwt (filter53 f) j x a d u v r a' d' u' v'
      → done (say_dwt (filter53 f) j (length x) (length a) (length d) (length u) (length v)) ≡ true → ExactLevel f (levels_of j) x a' d'
  -- the approximations of the last level stand in y
  pub deepest-are : Are (3 * levels) (2 ^ prec f) (decode_floats f (deepest f levels x y)) (numbers_at levels (numbers_in f x))
  -- and the details of each
  pub details-are : (i : ℕ) → i < levels → Are (3 * suc i) (2 ^ prec f) (decode_floats f (details_of f i x y)) (times 4 (details2 (numbers_at i (numbers_in f x))))
  -- the inverse gives the inputs back
  pub back : SameNumbers f x p
