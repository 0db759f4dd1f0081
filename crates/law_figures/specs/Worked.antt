-- Document 01, "Figures worked by hand": those marked P, one table under one statement; and those of C-17, of the file with a rate. Samples are 8 bits wide.
use Rattle.std.specs.Prelude.{Err, List, [], ◌∷◌, ◌++◌, ◌≡◌, ℕ, ◌≤◌, ℤ, pos, neg_ℤ, take, drop}
use Rattle.base_answers.specs.declared.err.Refusal.TheVariants.{BadCount, CutShort, OtherPoint, NoRate}
use Rattle.base_answers.specs.Answers.{told, say}
use Rattle.base_samples.specs.Integers.{encode}
use Rattle.filter_cdf53i.specs.Bands.{low, high, back}
use Rattle.filter_cdf53i.specs.T800 as t800
use Rattle.levels_filter.specs.declared.filter.Filter.TheVariants.{Cdf53I8, Cdf53I16}
use Rattle.levels_filter.specs.Pyramids.{approx_at, pyramid, samples_of}
use Rattle.law_cuts.specs.Sees.{OpensTo}
use Rattle.file_open.specs.Files.{file_of}
use Rattle.file_open.specs.Opens.{say_open, rate_opened, say_section}
use Rattle.file_open.specs.Writes.{say_write}
use Rattle.file_head.specs.declared.HeadAnswer.{HeadAnswer}
use Rattle.file_head.specs.Heads.{Told}

-- the number -n
abbrev pub neg : ℕ → ℤ
neg n = neg_ℤ (pos n)

-- samples x have approximations a and details d, as bytes; and back
pub record OneLevel (x a d : List ℤ) : Type 0 where
  pub low : low 1 (encode 1 x) ≡ encode 1 a
  pub high : high 1 (encode 1 x) ≡ encode 1 d
  pub back : back 1 (encode 1 a) (encode 1 d) ≡ encode 1 x

-- the pyramid of two levels of samples x: deepest approximations a, then the details d, of which each level has as many as the lengths say; and back
pub record TwoLevels (x a d : List ℤ) (lengths : List ℕ) : Type 0 where
  pub down : pyramid Cdf53I8 2 (encode 1 x) ≡ encode 1 a ++ encode 1 d
  pub back : samples_of Cdf53I8 (encode 1 a) (encode 1 d) lengths ≡ encode 1 x

-- P5's samples, 0, 3, -4, 1, 7
abbrev pub five : List ℕ
five = 0 ∷ 3 ∷ 252 ∷ 1 ∷ 7 ∷ []

-- "0A 00 00 00 01 02 05 00 00 00 0E 00 00 00 02 00 00 00 FF 03 01 00 00 00 F8 02 00 00 00 05 00"
abbrev pub thirty_one : List ℕ
thirty_one =
    0x0A ∷ 0 ∷ 0 ∷ 0 ∷ 0x01 ∷ 0x02 ∷ 0x05 ∷ 0 ∷ 0 ∷ 0 ∷ 0x0E ∷ 0 ∷ 0 ∷ 0 ∷ 0x02 ∷ 0 ∷ 0 ∷ 0 ∷ 0xFF ∷ 0x03 ∷ 0x01 ∷ 0 ∷ 0 ∷ 0 ∷ 0xF8 ∷ 0x02 ∷ 0 ∷ 0 ∷ 0 ∷ 0x05 ∷ 0 ∷ []

-- the same with a rate of 1,000 millihertz: 4 bytes more behind the point
abbrev pub thirty_five : List ℕ
thirty_five =
    0x0E ∷ 0 ∷ 0 ∷ 0 ∷ 0x01 ∷ 0x02 ∷ 0x05 ∷ 0 ∷ 0 ∷ 0 ∷ 0x0E ∷ 0 ∷ 0 ∷ 0 ∷ 0xE8 ∷ 0x03 ∷ 0 ∷ 0 ∷ 0x02 ∷ 0 ∷ 0 ∷ 0 ∷ 0xFF ∷ 0x03 ∷ 0x01 ∷ 0 ∷ 0 ∷ 0 ∷ 0xF8 ∷ 0x02 ∷ 0 ∷ 0 ∷ 0 ∷ 0x05 ∷ 0 ∷ []

-- and with a stored rate of 0, which nothing writes
abbrev pub unrated : List ℕ
unrated = take 14 thirty_five ++ (0 ∷ 0 ∷ 0 ∷ 0 ∷ drop 18 thirty_five)

-- P5 as a file without a rate, opened for 8 bits and point 14, with output and work areas of five samples
pub record File : Type 0 where
  -- "P5 as a file for point 14, 31 bytes"
  pub p6 : file_of Cdf53I8 2 14 0 five ≡ thirty_one
  -- "its first 0 to 19 bytes: 10"
  pub p7 : (b : ℕ) → b ≤ 19 → say_open (take b thirty_one) 1 14 5 5 5 ≡ Err (CutShort b)
  -- "20 to 24: level 2, -1, 3"
  pub p8 : (b : ℕ) → 20 ≤ b → b ≤ 24 → OpensTo (take b thirty_one) 1 14 5 5 5 2 2 (255 ∷ 3 ∷ [])
  -- "25 to 30: level 1, 3, -3, 7"
  pub p9 : (b : ℕ) → 25 ≤ b → b ≤ 30 → OpensTo (take b thirty_one) 1 14 5 5 5 1 3 (3 ∷ 253 ∷ 7 ∷ [])
  -- "31: the samples"
  pub p10 : OpensTo thirty_one 1 14 5 5 5 0 5 five
  -- no rate
  pub rate : (b : ℕ) → b ≤ 31 → rate_opened (take b thirty_one) 1 14 5 5 5 ≡ 0

-- the same as a file with a rate
pub record NewFile : Type 0 where
  pub bytes : file_of Cdf53I8 2 14 1000 five ≡ thirty_five
  pub cut : (b : ℕ) → b ≤ 23 → say_open (take b thirty_five) 1 14 5 5 5 ≡ Err (CutShort b)
  pub level2 : (b : ℕ) → 24 ≤ b → b ≤ 28 → OpensTo (take b thirty_five) 1 14 5 5 5 2 2 (255 ∷ 3 ∷ [])
  pub level1 : (b : ℕ) → 29 ≤ b → b ≤ 34 → OpensTo (take b thirty_five) 1 14 5 5 5 1 3 (3 ∷ 253 ∷ 7 ∷ [])
  pub whole : OpensTo thirty_five 1 14 5 5 5 0 5 five
  pub rate : (b : ℕ) → 24 ≤ b → b ≤ 35 → rate_opened (take b thirty_five) 1 14 5 5 5 ≡ 1000
  pub refused-rate : (b : ℕ) → b ≤ 23 → rate_opened (take b thirty_five) 1 14 5 5 5 ≡ 0

-- the places of the new refusals among the others
pub record NewChecks : Type 0 where
  -- "under 4 bytes or fewer than section 0 needs is 10, with 9 tested between them"
  pub three : say_open (11 ∷ 0 ∷ 0 ∷ []) 1 14 5 5 5 ≡ Err (CutShort 3)
  pub four : say_open (11 ∷ 0 ∷ 0 ∷ 0 ∷ []) 1 14 5 5 5 ≡ Err (BadCount 0 11)
  -- "18 for a stored rate of 0 in a new file, right after 11"; in the section lookup before 13
  pub no-rate : say_open unrated 1 14 5 5 5 ≡ Err NoRate
  pub before-sections : say_open (take 20 unrated) 1 14 5 5 5 ≡ Err NoRate
  pub other-point : say_open unrated 1 15 5 5 5 ≡ Err (OtherPoint 14 15)
  pub before-number : say_section unrated 1 14 9 ≡ Err NoRate
  -- the head of a file never says it
  pub head : (t : HeadAnswer) → Told unrated t → (t.answer ≡ say 0 0 0) × (t.rate ≡ 0)
  -- "in writing a rate of 0 is 18, first after the byte-length 9": before 6, 4 and 7, and before 1; behind the 9 of the last area
  pub long : say_write Cdf53I8 24 0 16777217 0 0 0 ≡ Err NoRate
  pub few : say_write Cdf53I8 1 0 2 0 0 0 ≡ Err NoRate
  pub ragged : say_write Cdf53I16 9 0 4 0 4 3 ≡ Err (BadCount 0 3)
  -- a rate of 1 is one
  pub least : say_write Cdf53I8 2 1 5 35 5 5 ≡ told 0 0

pub record Worked : Type 0 where
  pub p1 : OneLevel (pos 1 ∷ pos 5 ∷ pos 2 ∷ []) (pos 3 ∷ pos 4 ∷ []) (pos 4 ∷ [])
  pub p2 : OneLevel (pos 1 ∷ pos 5 ∷ pos 2 ∷ pos 8 ∷ []) (pos 3 ∷ pos 5 ∷ []) (pos 4 ∷ pos 6 ∷ [])
  pub p3 : OneLevel (pos 127 ∷ neg 128 ∷ pos 127 ∷ []) (neg 128 ∷ neg 128 ∷ []) (pos 1 ∷ [])
  -- "(T.800: -255)"
  pub p3-t800 : t800.high (pos 127 ∷ neg 128 ∷ pos 127 ∷ []) (pos 0) ≡ neg 255
  pub p4 : OneLevel (neg 128 ∷ neg 128 ∷ neg 128 ∷ []) (neg 128 ∷ neg 128 ∷ []) (pos 0 ∷ [])
  pub p5 : TwoLevels (pos 0 ∷ pos 3 ∷ neg 4 ∷ pos 1 ∷ pos 7 ∷ []) (neg 1 ∷ pos 3 ∷ []) (neg 8 ∷ pos 5 ∷ pos 0 ∷ []) (1 ∷ 2 ∷ [])
  -- P9's approximations of level 1
  pub p5-level1 : approx_at Cdf53I8 1 (encode 1 (pos 0 ∷ pos 3 ∷ neg 4 ∷ pos 1 ∷ pos 7 ∷ [])) ≡ encode 1 (pos 3 ∷ neg 3 ∷ pos 7 ∷ [])
  -- P6 to P10
  pub p6-to-p10 : File
  -- and C-17's
  pub new-file : NewFile
  pub new-checks : NewChecks
