-- One sample of those that sections restore, from its neighbours: what the inner functions ask and promise. k bytes a sample, l levels, n samples, sections from p on.
use Rattle.std.specs.Prelude.{cond, List, ◌≡◌, ℕ, ◌+◌, ◌-◌, ◌*◌, ◌%◌, ◌^◌, ◌≤◌, min, ltb, eqb, pos, ◌+ℤ◌, ◌-ℤ◌}
use Rattle.std.specs.Int.Signed.{shr_z}
use Rattle.base_lengths.specs.Lengths.{most_samples, approx_length}
use Rattle.base_lengths.specs.declared.Wavelet.TheVariants.{Cdf53}
use Rattle.base_lengths.specs.Levels.{depth_of}
use Rattle.base_samples.specs.Words.{word_at}
use Rattle.base_samples.specs.Integers.{Width, val, residue}
use Rattle.file_open.specs.Files.{body_size}
use Rattle.file_open.specs.Walks.{bytes_at, restored_at}

-- the word of sample j of them
abbrev pub word_in : ℕ → List ℕ → ℕ → ℕ → ℕ → ℕ → ℕ
word_in k s l n p j = word_at k (restored_at k s l n p) j

-- an even sample by its approximation x and two of the c details in the section at `place`
abbrev pub even_by : ℕ → List ℕ → ℕ → ℕ → ℕ → ℕ → ℕ
even_by k s c place x i =
    let d = word_at k (bytes_at k s c place) in
    residue (256 ^ k) (val (256 ^ k) x -ℤ shr_z (val (256 ^ k) (d (i - 1)) +ℤ val (256 ^ k) (d (min i (c - 1))) +ℤ pos 2) 4)

-- the sections stand in b bytes, and no level is one too many
pub record Stands (k l n p b : ℕ) : Type 0 where
  pub width : Width k
  pub deep : l ≤ depth_of Cdf53 n
  pub short : n ≤ most_samples
  pub held : p + body_size k l n ≤ b

-- a is the word of even sample r, and b that of the even one after it, or of the last
pub record EvensOf (k : ℕ) (s : List ℕ) (l n p r a b : ℕ) : Type 0 where
  pub here : a ≡ word_in k s l n p (2 * r)
  pub after : b ≡ word_in k s l n p (2 * min (r + 1) (approx_length n - 1))

-- and o is that of the odd one between them, or of the last sample
pub record AroundOf (k : ℕ) (s : List ℕ) (l n p r a o b : ℕ) : Type 0 where
  pub evens : EvensOf k s l n p r a b
  pub between : o ≡ word_in k s l n p (min (2 * r + 1) (n - 1))

-- of three samples in a row, a, o and b, of which a is sample 2 (r / 2): sample r, and the one after it, or r again where `next` is not after it
pub record Chosen (a o b r next x y : ℕ) : Type 0 where
  pub here : x ≡ cond (eqb (r % 2) 0) a o
  pub after : y ≡ cond (eqb (r % 2) 0) o (cond (ltb r next) b o)
