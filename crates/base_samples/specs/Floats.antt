-- f32 and f64 samples by their bits, over the format. A NaN's pattern, whatever its payload, reads as the one nan; nan is written as one fixed pattern,
-- 0x7FC0_0000 or 0x7FF8_0000_0000_0000, which is what `to_bits` gives.
use Rattle.std.specs.Prelude.{List, map, ◌≡◌, ℕ, ◌≤◌, ◌<◌, Float}
use Rattle.std.specs.Float.{Format, binary32, binary64}
use Rattle.std.specs.Float.Ieee.{of_bits, to_bits}
use Rattle.std.specs.Mem.{type_size}
use prog.Memory.{align}
use denote.RattleType.{RattleType}
use denote.Param.{layout}
use Rattle.base_samples.specs.Words.{word_at, put_at, words_of, bytes_of}

-- how many bytes a float of the format has
abbrev pub width : Format → ℕ
width binary32 = 4
width binary64 = 8

-- float i of s, and s with the float x there
unfoldable pub float_at : Format → List ℕ → ℕ → Float
float_at f s i = of_bits f (word_at (width f) s i)

unfoldable pub put_float : Format → List ℕ → ℕ → Float → List ℕ
put_float f s i x = put_at (width f) s i (to_bits f x)

-- the floats in s, and the bytes of the floats xs
unfoldable pub decode_floats : Format → List ℕ → List Float
decode_floats f s = map (of_bits f) (words_of (width f) s)

unfoldable pub encode_floats : Format → List Float → List ℕ
encode_floats f xs = bytes_of (width f) (map (to_bits f) xs)

-- a pattern as it is written again after it was read: itself, unless it is a NaN's
unfoldable pub canonical : Format → ℕ → ℕ
canonical f n = to_bits f (of_bits f n)

-- float i of s stands by the pattern that it is written by
abbrev pub Plain : Format → List ℕ → ℕ → Type 0
Plain f s i = canonical f (word_at (width f) s i) ≡ word_at (width f) s i

-- a value of the type takes at most 8 bytes at a multiple of at most 8: so a few of them, or a few hundred, fit in memory
pub record Compact (R : RattleType) : Type 0 where
  pub some : 0 < align (layout R)
  pub few : align (layout R) ≤ 8
  pub size : type_size R ≤ 8
