-- C-18's figures, every case of its table: P6's file of 31 bytes and the same with a rate, asked for with width 1 and point 14 where nothing else stands; and a file of 16 bits
-- and three levels. Number, section, place, wanted, found.
use Rattle.std.specs.Prelude.{List, [], ◌∷◌, ◌++◌, ◌≡◌, ℕ, ◌+◌, ◌<◌, length, take, drop, replicate}
use Rattle.levels_filter.specs.declared.filter.Filter.TheVariants.{Cdf53I16}
use Rattle.file_open.specs.Files.{file_of}
use Rattle.file_why.specs.Reasons.{because, reason_of}
use Rattle.law_figures.specs.Worked.{thirty_one, thirty_five, unrated}

-- one byte changed
abbrev pub changed : ℕ → ℕ → List ℕ → List ℕ
changed i b s = take i s ++ (b ∷ drop (i + 1) s)

-- nine samples of 16 bits, all 0, three levels, point 7, 1,000 millihertz: sections of 2, 1, 2 and 4 samples, at 18, 26, 32 and 40
abbrev pub fifty_two : List ℕ
fifty_two =
    0x0E ∷ 0 ∷ 0 ∷ 0 ∷ 0x02 ∷ 0x03 ∷ 0x09 ∷ 0 ∷ 0 ∷ 0 ∷ 0x07 ∷ 0 ∷ 0 ∷ 0 ∷ 0xE8 ∷ 0x03 ∷ 0 ∷ 0 ∷ 0x02 ∷ 0 ∷ 0 ∷ 0 ∷ 0 ∷ 0 ∷ 0 ∷ 0 ∷ 0x01 ∷ 0 ∷ 0 ∷ 0 ∷ 0 ∷ 0
    ∷ 0x02 ∷ 0 ∷ 0 ∷ 0 ∷ 0 ∷ 0 ∷ 0 ∷ 0 ∷ 0x04 ∷ 0 ∷ 0 ∷ 0 ∷ 0 ∷ 0 ∷ 0 ∷ 0 ∷ 0 ∷ 0 ∷ 0 ∷ 0 ∷ []

-- such a file, asked for with width 2 and point 7
pub record Deeper : Type 0 where
  pub bytes : file_of Cdf53I16 3 7 1000 (replicate 18 0) ≡ fifty_two
  pub whole : reason_of fifty_two 2 7 ≡ because 0 0 0 0 0
  pub width : reason_of fifty_two 4 7 ≡ because 8 0 4 4 2
  pub first : reason_of (take 20 fifty_two) 2 7 ≡ because 10 1 20 2 0
  pub count : reason_of (take 41 fifty_two) 2 7 ≡ because 0 4 41 3 0
  pub section : reason_of (take 45 fifty_two) 2 7 ≡ because 0 4 45 7 0
  pub wrong : reason_of (changed 32 5 fifty_two) 2 7 ≡ because 9 3 32 2 5
  pub more : reason_of (fifty_two ++ (0 ∷ [])) 2 7 ≡ because 12 4 52 52 53

pub record Why : Type 0 where
  -- "a whole file is all zeros"
  pub whole : reason_of thirty_one 1 14 ≡ because 0 0 0 0 0
  pub whole-new : reason_of thirty_five 1 14 ≡ because 0 0 0 0 0
  -- "for a cut the place is the file's length, found is 0 and wanted is the bytes that would complete the part being read": section 0's count, section 0, of either kind
  pub cut-none : reason_of [] 1 14 ≡ because 10 0 0 4 0
  pub cut-3 : reason_of (take 3 thirty_one) 1 14 ≡ because 10 0 3 1 0
  pub cut-13 : reason_of (take 13 thirty_one) 1 14 ≡ because 10 0 13 1 0
  pub cut-10-new : reason_of (take 10 thirty_five) 1 14 ≡ because 10 0 10 8 0
  -- section 1, between its count and its samples
  pub cut-14 : reason_of (take 14 thirty_one) 1 14 ≡ because 10 1 14 4 0
  pub cut-18 : reason_of (take 18 thirty_one) 1 14 ≡ because 10 1 18 2 0
  -- "an accepted cut has number 0 and its section": between two sections, in a count, in a section
  pub cut-20 : reason_of (take 20 thirty_one) 1 14 ≡ because 0 2 20 4 0
  pub cut-24 : reason_of (take 24 thirty_one) 1 14 ≡ because 0 2 24 1 0
  pub cut-27 : reason_of (take 27 thirty_one) 1 14 ≡ because 0 3 27 2 0
  pub cut-30 : reason_of (take 30 thirty_one) 1 14 ≡ because 0 3 30 1 0
  -- "12 proper length, length, at the proper length", section L + 1
  pub more : reason_of (thirty_one ++ (0 ∷ 0 ∷ [])) 1 14 ≡ because 12 3 31 31 33
  -- a wrong count: "section 0's wanted count is 14", also of a file that may have been an old one
  pub count-0 : reason_of (changed 0 11 thirty_one) 1 14 ≡ because 9 0 0 14 11
  pub count-1 : reason_of (changed 14 7 thirty_one) 1 14 ≡ because 9 1 14 2 7
  pub count-2 : reason_of (changed 20 9 thirty_one) 1 14 ≡ because 9 2 20 1 9
  -- "putting the wanted count at that place removes refusal 9 for that section": here one of a later section is left
  pub count-both : reason_of (changed 25 0 (changed 20 9 thirty_one)) 1 14 ≡ because 9 2 20 1 9
  pub mended : reason_of (changed 25 0 thirty_one) 1 14 ≡ because 9 3 25 2 0
  -- the fields of section 0: "8 and 11 asked, file's", 8 "also when the width asked isn't 1, 2 or 4"
  pub width : reason_of thirty_one 2 14 ≡ because 8 0 4 2 1
  pub no-width : reason_of (changed 4 3 thirty_one) 3 14 ≡ because 8 0 4 3 3
  pub point : reason_of thirty_one 1 15 ≡ because 11 0 10 15 14
  -- "1 the smallest, n; 6 the limit, n; 4 the depth, levels", levels 0 too; "18 1, 0"
  pub few : reason_of (changed 6 2 thirty_one) 1 14 ≡ because 1 0 6 3 2
  pub many : reason_of (changed 6 1 (changed 9 1 (changed 5 24 thirty_one))) 1 14 ≡ because 6 0 6 16777216 16777217
  pub deep : reason_of (changed 5 3 thirty_one) 1 14 ≡ because 4 0 5 2 3
  pub flat : reason_of (changed 5 0 thirty_one) 1 14 ≡ because 4 0 5 2 0
  pub rate : reason_of unrated 1 14 ≡ because 18 0 14 1 0
  -- "6 for the whole file the limit, length, at 0", whatever the file says
  pub long : (s : List ℕ) (w p : ℕ) → 67108978 < length s → reason_of s w p ≡ because 6 0 0 67108978 (length s)
  -- the first check: other width and other point, a bad rate and a wrong count, a wrong count before a cut
  pub first_width : reason_of thirty_one 2 15 ≡ because 8 0 4 2 1
  pub first-rate : reason_of (changed 18 7 unrated) 1 14 ≡ because 18 0 14 1 0
  pub first_count : reason_of (take 28 (changed 20 9 thirty_one)) 1 14 ≡ because 9 2 20 1 9
  pub deeper : Deeper
