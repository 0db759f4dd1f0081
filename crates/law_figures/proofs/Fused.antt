-- A fused step, on samples that one level of 9/7 in f32 takes: what the statement allows, and what the fused steps would leave. By computing.
use mathlib.Core.List.{List, [], ◌∷◌}
use mathlib.Core.Path.{◌≡◌, refl, sym, ap, ◌∙◌}
use Prim.Native.Nat.{ℕ}
use native.Mathlib.Omega.{arith}
use lib.ListN.{get_or}
use lib.Ieee.{add, mul, round, of_bits, to_bits}
use Rattle.base_answers.specs.declared.err.Answer.{Answer}
use Rattle.base_answers.specs.Answers.{told}
use Rattle.base_answers.specs.Checks.{left}
use Rattle.base_lengths.specs.declared.Wavelet.TheVariants.{Cdf97}
use Rattle.base_lengths.specs.Calls.{say_forward}
use Rattle.base_samples.specs.Le.{le_at, le_bytes}
use Rattle.base_samples.specs.Words.{tabulate, word_at, words_of, bytes_of}
use Rattle.base_samples.specs.Halves.{even_of, odd_of}
use Rattle.base_samples.specs.Floats.{decode_floats, encode_floats}
use Rattle.filter_floats.specs.Steps.{odd_at, even_at, odds, evens, lift, scaled}
use Rattle.filter_floats.specs.Filters.{decimal, rounded, factors32, factors64, steps97}
use Rattle.filter_floats.specs.Bands.{approxs, details, low, high}
use Rattle.levels_filter.specs.declared.filter.Filter.TheVariants.{Cdf97F32}
use Rattle.levels_filter.specs.Filters.{low_of, high_of}
use Rattle.levels_filter.specs.Calls.{OneForward}
use Rattle.law_figures.specs.ShutOut.{product, fused_lift, fused_a, fused_d, fused_low, fused_high, four_floats, eight0}

-- each float of both bands, 0.70710677, and 0.7071068 where steps are fused
abbrev stored : List ℕ
stored = 0xF3 ∷ 0x04 ∷ 0x35 ∷ 0x3F ∷ 0xF3 ∷ 0x04 ∷ 0x35 ∷ 0x3F ∷ []

abbrev otherwise : List ℕ
otherwise = 0xF4 ∷ 0x04 ∷ 0x35 ∷ 0x3F ∷ 0xF4 ∷ 0x04 ∷ 0x35 ∷ 0x3F ∷ []

says-floats : say_forward Cdf97 4 16 8 8 ≡ told 0 0
unfolding say_forward
says-floats = refl

plain : (low_of Cdf97F32 four_floats ≡ stored) × (high_of Cdf97F32 four_floats ≡ stored)
unfolding le_at le_bytes tabulate word_at words_of bytes_of even_of odd_of decode_floats encode_floats odd_at even_at odds evens lift scaled decimal rounded factors32 factors64 steps97 approxs details low high add mul round of_bits to_bits
plain = (refl, refl)

fused : (fused_low four_floats ≡ otherwise) × (fused_high four_floats ≡ otherwise)
unfolding le_at le_bytes tabulate word_at words_of bytes_of even_of odd_of decode_floats encode_floats odd_at even_at odds evens product fused_lift scaled decimal rounded factors32 factors64 steps97 fused_a fused_d fused_low fused_high add mul round of_bits to_bits
fused = (refl, refl)

-- the bands that the call leaves are not those
pub fused-differs : {r : Answer} {a d : List ℕ} → OneForward Cdf97F32 four_floats eight0 eight0 r a d → (a ≡ fused_low four_floats → ⊥) × (d ≡ fused_high four_floats → ⊥)
fused-differs m = (
  λ e. unlike (sym (m.approx ∙ ap (λ s. left s (low_of Cdf97F32 four_floats) eight0) says-floats ∙ plain.0) ∙ e ∙ fused.0),
  λ e. unlike (sym (m.details ∙ ap (λ s. left s (high_of Cdf97F32 four_floats) eight0) says-floats ∙ plain.1) ∙ e ∙ fused.1),
)
  where
    unlike : stored ≡ otherwise → ⊥
    unlike e = omega (arith, ap (λ (l : List ℕ). get_or l 0 0) e)
