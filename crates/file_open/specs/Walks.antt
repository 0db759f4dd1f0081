-- A walk over the sections of a file, from document 01: "section by section: fewer than 4 bytes left is a cut; a wrong count is 9; fewer bytes than the count needs is a cut".
use Rattle.std.specs.Prelude.{cond, not, List, ℕ, zero, suc, ◌+◌, ◌-◌, ◌*◌, ltb, eqb, length, take, drop}
use Rattle.base_samples.specs.Le.{le_at}
use Rattle.base_lengths.specs.Lengths.{approx_length, details_length}
use Rattle.filter_cdf53i.specs.Bands.{back}
use Rattle.file_open.specs.declared.walk.Way.{Way}
use Rattle.file_open.specs.declared.walk.Way.TheVariants.{Went, Short, Wrong}
use Rattle.file_open.specs.Files.{body_size}

-- section number j, of c samples of k bytes, at place p
unfoldable pub one_of : List ℕ → ℕ → ℕ → ℕ → ℕ → Way
one_of s k c j p =
    cond (ltb (length s - p) 4) (Short j)
    (cond (not (eqb (le_at 4 s p) c)) (Wrong j (le_at 4 s p))
    (cond (ltb (length s - p - 4) (k * c)) (Short j)
    (Went (p + 4 + k * c))))

-- go on from where a walk went
abbrev pub go_on : Way → (ℕ → Way) → Way
go_on (Went p) g = g p
go_on (Short j) g = Short j
go_on (Wrong j found) g = Wrong j found

-- the sections of l levels of n samples, deepest first: number 1 has the approximations, number l + 1 the details of the first level
unfoldable pub walk_of : List ℕ → ℕ → ℕ → ℕ → ℕ → Way
walk_of s k zero n p = one_of s k n 1 p
walk_of s k (suc l) n p = go_on (walk_of s k l (approx_length n) p) (λ q. one_of s k (details_length n) (suc l + 1) q)

-- how many samples the last of these sections has
abbrev pub last_count : ℕ → ℕ → ℕ
last_count l n = cond (eqb l 0) n (details_length n)

-- the bytes of a section of c samples that stands at p
abbrev pub bytes_at : ℕ → List ℕ → ℕ → ℕ → List ℕ
bytes_at k s c p = take (k * c) (drop (p + 4) s)

-- the n samples of k bytes that l levels of sections from p on restore
unfoldable pub restored_at : ℕ → List ℕ → ℕ → ℕ → ℕ → List ℕ
restored_at k s zero n p = bytes_at k s n p
restored_at k s (suc l) n p = back k (restored_at k s l (approx_length n) p) (bytes_at k s (details_length n) (p + body_size k l (approx_length n)))
