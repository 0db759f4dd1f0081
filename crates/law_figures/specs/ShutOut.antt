-- Document 01, "Programs to be shut out": for each an input on which what the statement allows is not what that program would give. Samples are 8 bits wide, so
-- a byte is a sample, and the inputs are those of P1, P3 and P5, unless another filter is named.
use Rattle.std.specs.Prelude.{Err, List, [], ◌∷◌, ◌++◌, ◌≡◌, ℕ, zero, suc, ◌*◌, ◌^◌, ◌<◌, Float, pos, ◌+ℤ◌, length, take}
use Rattle.std.specs.Float.{nan, inf, fin, binary32}
use Rattle.std.specs.Float.Ieee.{unlike, add, mul}
use Rattle.base_answers.specs.declared.err.Answer.{Answer}
use Rattle.base_answers.specs.declared.err.Refusal.TheVariants.{MinFilterSize, BufferWasTooSmallForLevel}
use Rattle.base_answers.specs.Answers.{told, say}
use Rattle.base_lengths.specs.declared.Wavelet.{Wavelet}
use Rattle.base_lengths.specs.declared.Wavelet.TheVariants.{Cdf97}
use Rattle.base_lengths.specs.Levels.{say_depth}
use Rattle.view_spans.specs.declared.Band.TheVariants.{Approx, Details}
use Rattle.view_notes.specs.Notes.{say_column, say_span}
use Rattle.view_windows.specs.Windows.{say_window}
use Rattle.base_samples.specs.Halves.{even_of, odd_of}
use Rattle.base_samples.specs.Le.{Bytes}
use Rattle.base_samples.specs.Floats.{decode_floats, encode_floats}
use Rattle.filter_floats.specs.Steps.{Step, oddly, evenly, scaling, odds, evens, scaled}
use Rattle.filter_floats.specs.Filters.{steps_of}
use Rattle.levels_filter.specs.declared.filter.Filter.{Filter}
use Rattle.levels_filter.specs.declared.filter.Filter.TheVariants.{Cdf53I8, Cdf53F32, Cdf97F32}
use Rattle.levels_filter.specs.Filters.{width_of, low_of, high_of, Integers}
use Rattle.levels_filter.specs.Pyramids.{approx_at}
use Rattle.levels_filter.specs.Calls.{OneForward, OneInverse, Dwt, say_multi, Multi}
use Rattle.levels_filter.specs.Backward.{MultiBack}
use Rattle.file_open.specs.Files.{new_size, file_size, file_of}
use Rattle.file_open.specs.Writes.{Write}
use Rattle.file_open.specs.Opens.{Open, say_section, section_in}
use Rattle.law_figures.specs.Worked.{neg, five, thirty_one, thirty_five}
use Rattle.file_head.specs.declared.HeadAnswer.{HeadAnswer}
use Rattle.file_head.specs.Heads.{say_head, Told, Tells, say_size}
use Rattle.file_sample.specs.declared.PeekAnswer.{PeekAnswer}
use Rattle.file_sample.specs.Peeks.{say_peek, Peek}

-- ---- what the wrong programs would give

-- the samples only split, evens before odds, at each of l levels
unfoldable pub split_only : ℕ → List ℕ → List ℕ
split_only zero x = x
split_only (suc l) x = split_only l (even_of 0 x) ++ odd_of 0 x

-- level 1 transformed, and l levels below it only split
unfoldable pub rest_split : ℕ → List ℕ → List ℕ
rest_split l x = split_only l (low_of Cdf53I8 x) ++ high_of Cdf53I8 x

-- the details of l levels, finest first
unfoldable pub details_up : ℕ → List ℕ → List ℕ
details_up zero x = []
details_up (suc l) x = high_of Cdf53I8 x ++ details_up l (low_of Cdf53I8 x)

-- the product of two floats, of any number of digits: a fused step does not round it
unfoldable pub product : Float → Float → Float
product nan y = nan
product (inf s) y = mul binary32 (inf s) y
product (fin s m e) nan = nan
product (fin s m e) (inf t) = mul binary32 (fin s m e) (inf t)
product (fin s m e) (fin t n d) = fin (unlike s t) (m * n) (e +ℤ d)

-- (l + r) * c + x as a fused step: the sum l + r is rounded, the product is not, and the sum with x is
unfoldable pub fused_lift : Float → Float → Float → Float → Float
fused_lift c l r x = add binary32 (product (add binary32 l r) c) x

-- the two lists after a schedule of such steps
unfoldable pub fused_a : List Step → List Float → List Float → List Float
fused_a [] a d = a
fused_a (oddly c ∷ ss) a d = fused_a ss a (odds (fused_lift c) nan a d)
fused_a (evenly c ∷ ss) a d = fused_a ss (evens (fused_lift c) nan a d) d
fused_a (scaling p q ∷ ss) a d = fused_a ss (scaled binary32 p a) (scaled binary32 q d)

unfoldable pub fused_d : List Step → List Float → List Float → List Float
fused_d [] a d = d
fused_d (oddly c ∷ ss) a d = fused_d ss a (odds (fused_lift c) nan a d)
fused_d (evenly c ∷ ss) a d = fused_d ss (evens (fused_lift c) nan a d) d
fused_d (scaling p q ∷ ss) a d = fused_d ss (scaled binary32 p a) (scaled binary32 q d)

-- one level of 9/7 in f32 by them, on bytes
unfoldable pub fused_low : List ℕ → List ℕ
fused_low x = encode_floats binary32 (fused_a (steps_of binary32 Cdf97) (even_of nan (decode_floats binary32 x)) (odd_of nan (decode_floats binary32 x)))

unfoldable pub fused_high : List ℕ → List ℕ
fused_high x = encode_floats binary32 (fused_d (steps_of binary32 Cdf97) (even_of nan (decode_floats binary32 x)) (odd_of nan (decode_floats binary32 x)))

-- ---- the inputs

-- P1's samples
abbrev pub three : List ℕ
three = 1 ∷ 5 ∷ 2 ∷ []

-- lent slices
abbrev pub one0 : List ℕ
one0 = 0 ∷ []

abbrev pub two0 : List ℕ
two0 = 0 ∷ 0 ∷ []

abbrev pub three0 : List ℕ
three0 = 0 ∷ 0 ∷ 0 ∷ []

abbrev pub five0 : List ℕ
five0 = 0 ∷ 0 ∷ 0 ∷ 0 ∷ 0 ∷ []

-- five samples with a peak in the middle
abbrev pub peak : List ℕ
peak = 0 ∷ 0 ∷ 8 ∷ 0 ∷ 0 ∷ []

-- P5's lengths of details, 1 and 2, as u32 numbers
abbrev pub lengths : List ℕ
lengths = 1 ∷ 0 ∷ 0 ∷ 0 ∷ 2 ∷ 0 ∷ 0 ∷ 0 ∷ []

-- 0, 1, 0, 1 in f32, and two lent bands of two samples
abbrev pub four_floats : List ℕ
four_floats = 0 ∷ 0 ∷ 0 ∷ 0 ∷ 0 ∷ 0 ∷ 0x80 ∷ 0x3F ∷ 0 ∷ 0 ∷ 0 ∷ 0 ∷ 0 ∷ 0 ∷ 0x80 ∷ 0x3F ∷ []

abbrev pub eight0 : List ℕ
eight0 = 0 ∷ 0 ∷ 0 ∷ 0 ∷ 0 ∷ 0 ∷ 0 ∷ 0 ∷ []

-- ---- "one that refuses everything"

-- s is as long as n samples of f
abbrev pub Long : Filter → ℕ → List ℕ → Type 0
Long f n s = length s ≡ width_of f * n

-- the lengths of details of two levels of eight samples, 2 and 4, as u32 numbers
abbrev pub two_four : List ℕ
two_four = 2 ∷ 0 ∷ 0 ∷ 0 ∷ 4 ∷ 0 ∷ 0 ∷ 0 ∷ []

-- one level and two levels of any eight samples, in lent slices that are just as long as they have to be: each call of the filter is done
pub record EachDone (f : Filter) : Type 0 where
  pub forward : {x a d : List ℕ} {r : Answer} {a' d' : List ℕ} → Long f 8 x → Long f 4 a → Long f 4 d → OneForward f x a d r a' d' → r.number ≡ 0
  pub inverse : {a d o : List ℕ} {r : Answer} {o' : List ℕ} → Long f 4 a → Long f 4 d → Long f 8 o → OneInverse f a d o r o' → r.number ≡ 0
  pub last : {x a d u v : List ℕ} {r : Answer} {a' d' u' v' : List ℕ} → Long f 8 x → Long f 2 a → Long f 2 d → Long f 8 u → Long f 8 v → Dwt f 2 x a d u v r a' d' u' v' → r.number ≡ 0
  pub down : (x o u v : List ℕ) {r : Answer} {o' u' v' : List ℕ} → Long f 8 x → Long f 8 o → Long f 8 u → Long f 8 v → Multi f 2 x o u v r o' u' v' → r.number ≡ 0
  pub back : (a d o u v : List ℕ) {r : Answer} {o' u' v' : List ℕ} → Long f 2 a → Long f 6 d → Long f 8 o → Long f 8 u → Long f 8 v → MultiBack f a d two_four o u v r o' u' v' → r.number ≡ 0
  pub writes : Integers f → (x b u v : List ℕ) {r : Answer} {b' u' v' : List ℕ} → Long f 8 x → length b ≡ file_size new_size (width_of f) 2 8 → Long f 8 u → Long f 8 v → Write f 2 14 1000 x b u v r b' u' v'
      → r.number ≡ 0
  pub opens : Integers f → (rate : ℕ) → rate < 2 ^ 32 → (x o u v : List ℕ) {r : Answer} {o' u' v' : List ℕ} → Bytes x → Long f 8 x → Long f 8 o → Long f 8 u → Long f 8 v → Open (file_of f 2 14 rate x) (width_of f) 14 o u v r o' u' v'
      → r.number ≡ 0

pub record NotAllRefused : Type 0 where
  pub calls : (f : Filter) → EachDone f
  pub depth : (w : Wavelet) → say_depth w 8 ≡ told 2 0
  pub section : say_section thirty_one 1 14 2 ≡ told 24 1
  pub head : say_head thirty_one ≡ told 0 0
  pub size : say_size 1 5 2 ≡ told 35 0
  pub sample : say_peek thirty_one 1 14 2 ≡ told 0 0
  pub column : say_column 5 1 3 ≡ told 1 0
  pub span : say_span Approx 5 1 1 ≡ told 0 4
  pub detail-span : say_span Details 5 1 1 ≡ told 2 4
  pub window : say_window 1 2 1 0 1 1 ≡ told 1 1

-- ---- the others, by what the statements allow

pub record ShutOut : Type 0 where
  pub not-all-refused : NotAllRefused
  -- "one that restores the same samples always": two bands, and two pyramids, whose samples differ
  pub same-samples : {r s : Answer} {o p : List ℕ} → OneInverse Cdf53I8 (3 ∷ 4 ∷ []) (4 ∷ []) three0 r o → OneInverse Cdf53I8 two0 one0 three0 s p → o ≡ p → ⊥
  pub same-samples-back : {r s : Answer} {o u v p t w : List ℕ} → MultiBack Cdf53I8 (255 ∷ 3 ∷ []) (248 ∷ 5 ∷ 0 ∷ []) lengths five0 five0 five0 r o u v
      → MultiBack Cdf53I8 two0 three0 lengths five0 five0 five0 s p t w → o ≡ p → ⊥
  -- "one that copies samples and calls them coefficients": neither band is the samples it would be copied from
  pub copied : {r : Answer} {a d : List ℕ} → OneForward Cdf53I8 three two0 one0 r a d → (a ≡ even_of 0 three → ⊥) × (d ≡ odd_of 0 three → ⊥)
  -- "one that transforms level 1 and only splits the rest"; and one that leaves the rest as it is
  pub rest-split : {r : Answer} {o u v : List ℕ} → Multi Cdf53I8 2 five five0 five0 five0 r o u v → o ≡ rest_split 1 five → ⊥
  pub rest-left : {r : Answer} {o u v : List ℕ} → Multi Cdf53I8 2 five five0 five0 five0 r o u v → o ≡ rest_split 0 five → ⊥
  -- the same of `dwt`, whose last level would only be split
  pub last-split : {r : Answer} {a d u v : List ℕ} → Dwt Cdf53I8 2 five two0 one0 five0 five0 r a d u v → a ≡ even_of 0 (low_of Cdf53I8 five) → ⊥
  -- details joined finest first
  pub finest-first : {r : Answer} {o u v : List ℕ} → Multi Cdf53I8 2 five five0 five0 five0 r o u v → o ≡ approx_at Cdf53I8 2 five ++ details_up 2 five → ⊥
  -- "an opener that always stops at the coarsest level": the whole file opens at level 0
  pub coarsest : {r : Answer} {o u v : List ℕ} → Open thirty_one 1 14 five0 five0 five0 r o u v → (r.first ≡ 0) × (take 2 o ≡ 255 ∷ 3 ∷ [] → ⊥)
  -- "or invents level or count": 27 bytes are level 1 and these three samples
  pub invented : {r : Answer} {o u v : List ℕ} → Open (take 27 thirty_one) 1 14 five0 five0 five0 r o u v → (r.first ≡ 1) × (r.second ≡ 3) × (take 3 o ≡ 3 ∷ 253 ∷ 7 ∷ [])
  -- a lookup that looks further than its section, or hands back the count too: 25 bytes have section 2 whole, and it is -8 alone
  pub no-further : say_section (take 25 thirty_one) 1 14 2 ≡ told 24 1
  pub section-is : section_in thirty_one 1 14 2 ≡ 248 ∷ []
  -- a lookup, a head or one sample of old files alone: section 2 of a file with a rate stands 4 bytes later, its head tells the rate, and place 2 is -4 too
  pub new-section : (say_section thirty_five 1 14 2 ≡ told 28 1) × (section_in thirty_five 1 14 2 ≡ 248 ∷ [])
  pub new-head : (t : HeadAnswer) → Told thirty_five t → (t.answer ≡ say 0 0 0) × Tells t 1 2 5 14 1000
  pub new-sample : {q : PeekAnswer} → Peek thirty_five 1 14 2 q → (q.answer ≡ say 0 0 0) × (q.sample ≡ neg 4)
  -- one sample that is a byte of the file at its place, 0, or a deepest approximation: the whole file has -4 at place 2
  pub one-sample : {q : PeekAnswer} → Peek thirty_one 1 14 2 q → (q.answer ≡ say 0 0 0) × (q.sample ≡ neg 4)
  -- or the recording's own, 3, of a file that was cut: its first 27 bytes have level 1, -3 at place 1, and no place 3
  pub one-of-cut : {q : PeekAnswer} → Peek (take 27 thirty_one) 1 14 1 q → (q.answer ≡ say 0 0 0) × (q.sample ≡ neg 3)
  pub none-past-cut : {q : PeekAnswer} → Peek (take 27 thirty_one) 1 14 3 q → (q.answer ≡ say 13 3 3) × (q.sample ≡ pos 0)
  -- a span that is the block of samples which show at a column: that of approximation 0 is samples 0 and 1, and the peak, beside it, changes the approximation
  pub block : {r s : Answer} {o u v p t w : List ℕ} → Multi Cdf53I8 1 five0 five0 five0 five0 r o u v → Multi Cdf53I8 1 peak five0 five0 five0 s p t w
      → (take 2 five0 ≡ take 2 peak) × (take 1 o ≡ take 1 p → ⊥)
  -- "dividing toward zero where floor is meant: P5's level 2 comes out wrong", as 0, 4
  pub toward_zero : {r : Answer} {o u v : List ℕ} → Multi Cdf53I8 2 five five0 five0 five0 r o u v → take 2 o ≡ 0 ∷ 4 ∷ [] → ⊥
  -- "updating evens from details before they wrapped": P3's -255 would leave 127 - 127, 0
  pub before-the-wrap : {r : Answer} {a d : List ℕ} → OneForward Cdf53I8 (127 ∷ 128 ∷ 127 ∷ []) two0 one0 r a d → a ≡ two0 → ⊥
  -- a fused step, one rounding where document 01 has two: both bands differ
  pub fused : {r : Answer} {a d : List ℕ} → OneForward Cdf97F32 four_floats eight0 eight0 r a d → (a ≡ fused_low four_floats → ⊥) × (d ≡ fused_high four_floats → ⊥)
  -- 4 where one level of a short integer input is 1, or 1 where it is 4 in the float filters
  pub short-integer : say_multi Cdf53I8 1 2 2 2 2 ≡ Err (MinFilterSize 2 3)
  pub short-float : say_multi Cdf53F32 1 8 8 8 8 ≡ Err BufferWasTooSmallForLevel
