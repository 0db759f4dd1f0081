-- Why a file does not open, from C-18: "name the first check that stopped the opener: refusal number, section, byte place, number wanted, number found". What the
-- opener says of the file tells the case; the table here has the other four numbers of each.
use Rattle.std.specs.Prelude.{Bool, true, cond, List, ◌≡◌, ℕ, Ok, Err, zero, suc, ◌+◌, ◌-◌, ◌≤◌, ltb, eqb, length}
use Rattle.base_answers.specs.declared.err.Refusal.TheVariants.{MinFilterSize, ApproxSizeNotMatches, OutputSizeIsNotValid, BufferWasTooSmallForLevel, ZeroedBaseSize, TooLong, NoRoom, OtherWidth, BadCount, CutShort, OtherPoint, Trailing, NoSuchPlace, BookFull, AlreadyHeld, NotHeld, DetailsSizeNotMatches, NoRate}
use Rattle.base_answers.specs.Answers.{Outcome, told, answer_of, says, done}
use Rattle.base_answers.specs.Checks.{first_refusal}
use Rattle.base_lengths.specs.declared.Wavelet.TheVariants.{Cdf53}
use Rattle.base_lengths.specs.Lengths.{most_samples}
use Rattle.base_lengths.specs.Levels.{depth_of}
use Rattle.file_open.specs.declared.head.Head.{Head}
use Rattle.file_open.specs.Files.{most_bytes, new_count}
use Rattle.file_open.specs.Opens.{head_in, start_checks, say_file, count_of, length_of}
use Rattle.file_why.specs.declared.Reason.{Reason}

abbrev pub because : ℕ → ℕ → ℕ → ℕ → ℕ → Reason
because n j p w f = record { number = n; section = j; place = p; wanted = w; found = f }

-- "a whole file is all zeros"
abbrev pub nothing : Reason
nothing = because 0 0 0 0 0

-- where section j ends, where its count stands, and what is wanted there. Section 0 is of either kind: "section 0's wanted count is 14"; each other one has its count, then
-- its samples, and stands where the one before it ends
abbrev pub end_of : Head → ℕ → ℕ
end_of h zero = h.body
end_of h (suc j) = end_of h j + (4 + length_of h (suc j))

abbrev pub place_of : Head → ℕ → ℕ
place_of h zero = 0
place_of h (suc j) = end_of h j

abbrev pub wanted_of : Head → ℕ → ℕ
wanted_of h zero = new_count
wanted_of h (suc j) = count_of h (suc j)

-- "the bytes that would complete the part being read: the count if it is broken, else the section", of a section from p to e in b bytes
abbrev pub missing : ℕ → ℕ → ℕ → ℕ
missing b p e = cond (ltb b (p + 4)) (p + 4 - b) (e - b)

-- "for a cut the place is the file's length, found is 0": b bytes, cut in section j, with a number
abbrev pub cut_in : Head → ℕ → ℕ → ℕ → Reason
cut_in h b number j = because number j b (missing b (place_of h j) (end_of h j)) 0

-- what `say_file` says, of a file of b bytes: `there` tells whether the first checks pass, so that section 0 is there, and h is what that says. A file that opens at a level
-- above 0 is cut in section L + 2 - level. `say_file` never says the last nine cases
abbrev pub reason_by : Bool → Head → ℕ → Outcome → Reason
reason_by there h b (Ok v) = cond (eqb v.0 0) nothing (cut_in h b 0 (h.levels + 2 - v.0))
reason_by there h b (Err (MinFilterSize n least)) = because 1 0 6 least n
reason_by there h b (Err BufferWasTooSmallForLevel) = because 4 0 5 (depth_of Cdf53 h.samples) h.levels
reason_by there h b (Err TooLong) = cond there (because 6 0 6 most_samples h.samples) (because 6 0 0 most_bytes b)
reason_by there h b (Err (OtherWidth file asked)) = because 8 0 4 asked file
reason_by there h b (Err (BadCount j found)) = because 9 j (place_of h j) (wanted_of h j) found
reason_by there h b (Err (CutShort c)) = cut_in h b 10 (cond there 1 0)
reason_by there h b (Err (OtherPoint file asked)) = because 11 0 10 asked file
reason_by there h b (Err (Trailing more)) = because 12 (h.levels + 1) (end_of h (h.levels + 1)) (end_of h (h.levels + 1)) b
reason_by there h b (Err NoRate) = because 18 0 14 1 0
reason_by there h b (Err (ApproxSizeNotMatches a c)) = because 2 0 0 0 0
reason_by there h b (Err (OutputSizeIsNotValid a c)) = because 3 0 0 0 0
reason_by there h b (Err ZeroedBaseSize) = because 5 0 0 0 0
reason_by there h b (Err (NoRoom a c)) = because 7 0 0 0 0
reason_by there h b (Err (NoSuchPlace a c)) = because 13 0 0 0 0
reason_by there h b (Err BookFull) = because 14 0 0 0 0
reason_by there h b (Err AlreadyHeld) = because 15 0 0 0 0
reason_by there h b (Err NotHeld) = because 16 0 0 0 0
reason_by there h b (Err (DetailsSizeNotMatches a c)) = because 17 0 0 0 0

-- the first checks of the opener: the file is not too long, and section 0 is there
abbrev pub say_start : List ℕ → Outcome
say_start s = first_refusal (start_checks s) (told 0 0)

-- the reason is that of what the opener says of the file alone
unfoldable pub reason_of : List ℕ → ℕ → ℕ → Reason
reason_of s w p = reason_by (done (say_start s)) (head_in s) (length s) (say_file s w p)

-- what the opener can say of a file of b bytes whose section 0 says h: the sections are those that h tells of, and a cut is not behind the end of its section
pub record Said (h : Head) (b : ℕ) (r : Outcome) : Type 0 where
  pub level : done r ≡ true → ((answer_of r).first ≡ 0 → ⊥) → ((answer_of r).first ≤ h.levels) × (b ≤ end_of h (h.levels + 2 - (answer_of r).first))
  pub wrong : says 9 r ≡ true → (1 ≤ (answer_of r).first) × ((answer_of r).first ≤ h.levels + 1)
  pub cut : says 10 r ≡ true → b ≤ end_of h 1
