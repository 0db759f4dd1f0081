-- Document 01, "Numbers of refusal", and from 14 on document 02: the number and the two values that each case gives to the desk. A reader holds this against the table.
use Rattle.std.specs.Prelude.{Bool, true, false, List, [], ◌∷◌, ℕ, Result, Ok, Err, eqb, get_or}
use Rattle.base_answers.specs.declared.err.Refusal.{Refusal}
use Rattle.base_answers.specs.declared.err.Refusal.TheVariants.{MinFilterSize, ApproxSizeNotMatches, OutputSizeIsNotValid, BufferWasTooSmallForLevel, ZeroedBaseSize, TooLong, NoRoom, OtherWidth, BadCount, CutShort, OtherPoint, Trailing, NoSuchPlace, BookFull, AlreadyHeld, NotHeld, DetailsSizeNotMatches, NoRate}
use Rattle.base_answers.specs.declared.err.Answer.{Answer}

abbrev pub say : ℕ → ℕ → ℕ → Answer
say n a b = record { number = n; first = a; second = b }

-- what a call says: the two values of a done one, or the first check that refused
abbrev pub Outcome : Type 0
Outcome = Result (ℕ × ℕ) Refusal

-- it is done, with these two values
abbrev pub told : ℕ → ℕ → Outcome
told a b = Ok (a, b)

-- the same of checks alone, or of a call that has nothing to tell: 0 and 0
abbrev pub plain : Result (Unit {0}) Refusal → Outcome
plain (Ok _) = told 0 0
plain (Err e) = Err e

-- the table: 0, 0 where it names no value
abbrev pub answer_of : Outcome → Answer
answer_of (Ok v) = say 0 v.0 v.1
answer_of (Err (MinFilterSize a b)) = say 1 a b
answer_of (Err (ApproxSizeNotMatches a b)) = say 2 a b
answer_of (Err (OutputSizeIsNotValid a b)) = say 3 a b
answer_of (Err BufferWasTooSmallForLevel) = say 4 0 0
answer_of (Err ZeroedBaseSize) = say 5 0 0
answer_of (Err TooLong) = say 6 0 0
answer_of (Err (NoRoom a b)) = say 7 a b
answer_of (Err (OtherWidth a b)) = say 8 a b
answer_of (Err (BadCount a b)) = say 9 a b
answer_of (Err (CutShort a)) = say 10 a 0
answer_of (Err (OtherPoint a b)) = say 11 a b
answer_of (Err (Trailing a)) = say 12 a 0
answer_of (Err (NoSuchPlace a b)) = say 13 a b
answer_of (Err BookFull) = say 14 0 0
answer_of (Err AlreadyHeld) = say 15 0 0
answer_of (Err NotHeld) = say 16 0 0
answer_of (Err (DetailsSizeNotMatches a b)) = say 17 a b
answer_of (Err NoRate) = say 18 0 0

-- the cases in the order of their numbers, with the values a and b where a case carries them
abbrev pub cases : ℕ → ℕ → List Outcome
cases a b =
    told a b ∷ Err (MinFilterSize a b) ∷ Err (ApproxSizeNotMatches a b) ∷ Err (OutputSizeIsNotValid a b) ∷ Err BufferWasTooSmallForLevel ∷ Err ZeroedBaseSize ∷ Err TooLong
    ∷ Err (NoRoom a b) ∷ Err (OtherWidth a b) ∷ Err (BadCount a b) ∷ Err (CutShort a) ∷ Err (OtherPoint a b) ∷ Err (Trailing a) ∷ Err (NoSuchPlace a b)
    ∷ Err BookFull ∷ Err AlreadyHeld ∷ Err NotHeld ∷ Err (DetailsSizeNotMatches a b) ∷ Err NoRate ∷ []

-- the case that three numbers tell
abbrev pub refusal_of : Answer → Outcome
refusal_of r = get_or (cases r.first r.second) r.number (Err TooLong)

-- whether this has the number n
abbrev pub says : ℕ → Outcome → Bool
says n s = eqb (answer_of s).number n

-- whether a call that says this is done
abbrev pub done : {A : Type 0} → Result A Refusal → Bool
done (Ok _) = true
done (Err _) = false
