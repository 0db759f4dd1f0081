-- The pyramid file, from document 01: "sections in a fixed order, each after its count. Counts are u32, little-endian." Over the filter, which is an integer one, and
-- from C-17 over the sampling rate: there are two kinds of file, and a rate of 0 stands for the old one, which has none.
use Rattle.std.specs.Prelude.{Bool, cond, ◌||◌, List, [], ◌++◌, ℕ, ◌+◌, ◌/◌, eqb, length}
use Rattle.base_samples.specs.Le.{le_bytes}
use Rattle.levels_filter.specs.declared.filter.Filter.{Filter}
use Rattle.levels_filter.specs.Filters.{width_of}
use Rattle.levels_filter.specs.Pyramids.{laid_out, laid_size}

-- "at most 67,108,974"; "size, the file limit .. grow by 4"
abbrev pub most_bytes : ℕ
most_bytes = 67108978

-- a section: its count, then its bytes
abbrev pub section_of : ℕ → List ℕ → List ℕ
section_of c b = le_bytes 4 c ++ b

-- "Section 0: count 10, then width in bytes (1, 2 or 4), levels (one byte), n (u32), point number (u32)"; "section 0 grows by a u32, the rate in millihertz, after the
-- point number; its count is then 14"
abbrev pub old_count : ℕ
old_count = 10

abbrev pub new_count : ℕ
new_count = 14

abbrev pub is_count : ℕ → Bool
is_count c = eqb c old_count || eqb c new_count

abbrev pub count_by : ℕ → ℕ
count_by r = cond (eqb r 0) old_count new_count

-- what both kinds begin with, from a count through the point; and the rate behind it
abbrev pub common_of : ℕ → ℕ → ℕ → ℕ → ℕ → List ℕ
common_of c k l n p = section_of c (le_bytes 1 k ++ (le_bytes 1 l ++ (le_bytes 4 n ++ le_bytes 4 p)))

abbrev pub rate_of : ℕ → List ℕ
rate_of r = cond (eqb r 0) [] (le_bytes 4 r)

abbrev pub head_of : ℕ → ℕ → ℕ → ℕ → ℕ → List ℕ
head_of k l n p r = common_of (count_by r) k l n p ++ rate_of r

-- how many bytes section 0 has, of either kind and of the new one, and how many both kinds begin with
abbrev pub head_size : ℕ → ℕ
head_size r = 4 + count_by r

abbrev pub new_size : ℕ
new_size = 4 + new_count

abbrev pub common_size : ℕ
common_size = 4 + old_count

-- "Section 1: number of deepest approximations, then those. Section 2 to L+1: number of details of level L down to 1, then those": the bands of l levels of the n samples in x, each after its count
abbrev pub body_of : Filter → ℕ → ℕ → List ℕ → List ℕ
body_of f l n x = laid_out f 4 l n x

-- how many bytes these sections are, at k bytes a sample
abbrev pub body_size : ℕ → ℕ → ℕ → ℕ
body_size k l n = laid_size 4 k l n

-- "Size: 14 + 4(L+1) + width·n", behind a section 0 of z bytes: 14 are those of the old kind
abbrev pub file_size : ℕ → ℕ → ℕ → ℕ → ℕ
file_size z k l n = z + body_size k l n

-- the file of the samples in x, for a point and a rate: of the old kind where that is 0
unfoldable pub file_of : Filter → ℕ → ℕ → ℕ → List ℕ → List ℕ
file_of f l p r x =
    let n = length x / width_of f in
    head_of (width_of f) l n p r ++ body_of f l n x
