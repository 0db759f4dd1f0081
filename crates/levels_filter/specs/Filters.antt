-- The seven filters: bytes of a sample, wavelet, and what one level makes of bytes.
use Rattle.std.specs.Prelude.{List, ℕ}
use Rattle.std.specs.Float.{binary32, binary64}
use Rattle.base_lengths.specs.declared.Wavelet.{Wavelet}
use Rattle.base_lengths.specs.declared.Wavelet.TheVariants.{Cdf53, Cdf97}
use Rattle.filter_cdf53i.specs.Bands as integer
use Rattle.filter_floats.specs.Bands as float
use Rattle.levels_filter.specs.declared.filter.Filter.{Filter}
use Rattle.levels_filter.specs.declared.filter.Filter.TheVariants.{Cdf53I8, Cdf53I16, Cdf53I32, Cdf53F32, Cdf53F64, Cdf97F32, Cdf97F64}

-- bytes of a sample
abbrev pub width_of : Filter → ℕ
width_of Cdf53I8 = 1
width_of Cdf53I16 = 2
width_of Cdf53I32 = 4
width_of Cdf53F32 = 4
width_of Cdf53F64 = 8
width_of Cdf97F32 = 4
width_of Cdf97F64 = 8

-- its length rules
abbrev pub wavelet_of : Filter → Wavelet
wavelet_of Cdf53I8 = Cdf53
wavelet_of Cdf53I16 = Cdf53
wavelet_of Cdf53I32 = Cdf53
wavelet_of Cdf53F32 = Cdf53
wavelet_of Cdf53F64 = Cdf53
wavelet_of Cdf97F32 = Cdf97
wavelet_of Cdf97F64 = Cdf97

-- the approximations and the details of one level, and the samples of two bands
abbrev pub low_of : Filter → List ℕ → List ℕ
low_of Cdf53I8 = integer.low 1
low_of Cdf53I16 = integer.low 2
low_of Cdf53I32 = integer.low 4
low_of Cdf53F32 = float.low binary32 Cdf53
low_of Cdf53F64 = float.low binary64 Cdf53
low_of Cdf97F32 = float.low binary32 Cdf97
low_of Cdf97F64 = float.low binary64 Cdf97

abbrev pub high_of : Filter → List ℕ → List ℕ
high_of Cdf53I8 = integer.high 1
high_of Cdf53I16 = integer.high 2
high_of Cdf53I32 = integer.high 4
high_of Cdf53F32 = float.high binary32 Cdf53
high_of Cdf53F64 = float.high binary64 Cdf53
high_of Cdf97F32 = float.high binary32 Cdf97
high_of Cdf97F64 = float.high binary64 Cdf97

abbrev pub back_of : Filter → List ℕ → List ℕ → List ℕ
back_of Cdf53I8 = integer.back 1
back_of Cdf53I16 = integer.back 2
back_of Cdf53I32 = integer.back 4
back_of Cdf53F32 = float.back binary32 Cdf53
back_of Cdf53F64 = float.back binary64 Cdf53
back_of Cdf97F32 = float.back binary32 Cdf97
back_of Cdf97F64 = float.back binary64 Cdf97

-- f is a filter of integers
abbrev pub Integers : Filter → Type 0
Integers Cdf53I8 = Unit {0}
Integers Cdf53I16 = Unit {0}
Integers Cdf53I32 = Unit {0}
Integers Cdf53F32 = ⊥
Integers Cdf53F64 = ⊥
Integers Cdf97F32 = ⊥
Integers Cdf97F64 = ⊥
