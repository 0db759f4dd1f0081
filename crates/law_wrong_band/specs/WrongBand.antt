-- Document 02, C-16: "Say which band is wrong." Of forward, inverse, `dwt` and `multi_idwt`: what is looked at before the bands, and of which band an answer then is.
use Rattle.std.specs.Prelude.{List, ◌∷◌, ◌++◌, ◌≡◌, ℕ, ◌+◌, ◌*◌, ◌/◌, ◌≤◌, ◌<◌, length}
use Rattle.base_answers.specs.declared.err.Answer.{Answer}
use Rattle.base_answers.specs.Answers.{say}
use Rattle.base_lengths.specs.declared.Wavelet.{Wavelet}
use Rattle.base_lengths.specs.Lengths.{most_samples, smallest_of, least_details, expected_approx, expected_details}
use Rattle.base_lengths.specs.Levels.{depth_of, levels_of}
use Rattle.base_samples.specs.Words.{words_of}
use Rattle.levels_filter.specs.declared.filter.Filter.{Filter}
use Rattle.levels_filter.specs.Filters.{width_of, wavelet_of}
use Rattle.levels_filter.specs.Backward.{most_levels, total, Fits}

-- ---- what is looked at before the bands, and is right: document 01's earlier checks, by byte lengths

-- b bytes are whole words of k bytes
abbrev pub InWords : ℕ → ℕ → Type 0
InWords k b = b ≡ k * (b / k)

pub record ForwardBefore (w : Wavelet) (k x a d : ℕ) : Type 0 where
  pub samples : InWords k x
  pub approx : InWords k a
  pub details : InWords k d
  pub short : x / k ≤ most_samples
  pub long : smallest_of w ≤ x / k

-- too short an input has depth 0, and at least one level is asked for
pub record DwtBefore (f : Filter) (l x a d u v : ℕ) : Type 0 where
  pub samples : InWords (width_of f) x
  pub approx : InWords (width_of f) a
  pub details : InWords (width_of f) d
  pub first : InWords (width_of f) u
  pub second : InWords (width_of f) v
  pub short : x / width_of f ≤ most_samples
  pub deep : levels_of l ≤ depth_of (wavelet_of f) (x / width_of f)

pub record InverseBefore (k a d o : ℕ) : Type 0 where
  pub approx : InWords k a
  pub details : InWords k d
  pub output : InWords k o
  pub approx-short : a / k ≤ most_samples
  pub details-short : d / k ≤ most_samples
  pub output-short : o / k ≤ most_samples
  pub sum : o / k ≡ a / k + d / k

-- ls is the slice of lengths
pub record BackBefore (k a d : ℕ) (ls : List ℕ) (o u v : ℕ) : Type 0 where
  pub approx : InWords k a
  pub details : InWords k d
  pub lengths : InWords 4 (length ls)
  pub output : InWords k o
  pub first : InWords k u
  pub second : InWords k v
  pub output-short : o / k ≤ most_samples
  pub approx-short : a / k ≤ most_samples
  pub details-short : d / k ≤ most_samples
  pub lengths-most : length (words_of 4 ls) ≤ most_levels
  pub lengths_some : 0 < length (words_of 4 ls)
  pub approx-some : 0 < a / k
  pub sum : total (words_of 4 ls) ≡ d / k

-- ---- of which band an answer is; from here on lengths are in samples

-- a level has a approximations and d details where `right_a` and `right_d` are right; p and q are the values of the 2 and of the 17. Wrong approximations come first, wrong details or not
pub record Named (Before : Type 0) (a right_a d right_d : ℕ) (p q : ℕ × ℕ) (r : Answer) : Type 0 where
  pub approx-wrong : Before → (a ≡ right_a → ⊥) → r ≡ say 2 p.0 p.1
  pub details-wrong : Before → a ≡ right_a → (d ≡ right_d → ⊥) → r ≡ say 17 q.0 q.1

-- and the numbers 2 and 17 are said there alone
pub record Names (Before : Type 0) (a right_a d right_d : ℕ) (p q : ℕ × ℕ) (r : Answer) : Type 0 where
  pub wrong : Named Before a right_a d right_d p q r
  pub says_two : r.number ≡ 2 → Before × (a ≡ right_a → ⊥)
  pub says-seventeen : r.number ≡ 17 → Before × (a ≡ right_a) × (d ≡ right_d → ⊥)

-- ---- level by level

-- a level of `multi_idwt`, of a approximations and the details' lengths ms: the deeper ones fit and restore the approximations that it has. Of the levels with a wrong
-- band only the first is such a level
pub record LevelAt (w : Wavelet) (a : ℕ) (ms : List ℕ) : Type 0 where
  pub deeper : List ℕ
  pub details : ℕ
  pub finer : List ℕ
  pub lengths : ms ≡ deeper ++ (details ∷ finer)
  pub fits : Fits w a deeper
  pub approx : ℕ
  pub restored : approx ≡ a + total deeper

-- what an inverse of a and d samples finds wrong first: the approximations; or the details alone
abbrev pub WrongApprox : ℕ → ℕ → Type 0
WrongApprox a d = a ≡ expected_approx (a + d) → ⊥

abbrev pub WrongDetails : Wavelet → ℕ → ℕ → Type 0
WrongDetails w a d = (a ≡ expected_approx (a + d)) × (d ≡ expected_details w (a + d) → ⊥)

pub record WrongAt (w : Wavelet) (Wrong : ℕ → ℕ → Type 0) (a : ℕ) (ms : List ℕ) : Type 0 where
  pub level : LevelAt w a ms
  pub wrong : Wrong level.approx level.details

-- as `Names`, of the first level that has a wrong band, with that level's values
pub record NamesLevel (Before : Type 0) (w : Wavelet) (a : ℕ) (ms : List ℕ) (r : Answer) : Type 0 where
  pub wrong :
      (t : LevelAt w a ms)
      → let n = t.approx + t.details in Named Before t.approx (expected_approx n) t.details (expected_details w n) (expected_approx n, t.approx) (expected_details w n, t.details) r
  pub says_two : r.number ≡ 2 → Before × WrongAt w WrongApprox a ms
  pub says-seventeen : r.number ≡ 17 → Before × WrongAt w (WrongDetails w) a ms

-- ---- the 17 of an inverse

-- 2 approximations with fewer details than the least, and the answer that says it
pub record Few (w : Wavelet) (a d : ℕ) (r : Answer) : Type 0 where
  pub approx : a ≡ 2
  pub details : d < least_details w
  pub answer : r ≡ say 17 (least_details w) d

-- the same at the deepest of the levels ms
pub record FewDeepest (w : Wavelet) (a : ℕ) (ms : List ℕ) (r : Answer) : Type 0 where
  pub deepest : ℕ
  pub finer : List ℕ
  pub lengths : ms ≡ deepest ∷ finer
  pub few : Few w a deepest r
