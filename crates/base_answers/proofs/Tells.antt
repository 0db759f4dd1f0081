-- The three numbers tell what a call says: done or which check refused, and the values.
use mathlib.Core.Path.{◌≡◌, refl, sym, ap, ◌∙◌}
use Prim.Native.Nat.{ℕ}
use Rattle.std.specs.Prelude.{Ok, Err}
use Rattle.base_answers.specs.declared.err.Refusal.TheVariants.{MinFilterSize, ApproxSizeNotMatches, OutputSizeIsNotValid, BufferWasTooSmallForLevel, ZeroedBaseSize, TooLong, NoRoom, OtherWidth, BadCount, CutShort, OtherPoint, Trailing, NoSuchPlace, BookFull, AlreadyHeld, NotHeld, DetailsSizeNotMatches, NoRate}
use Rattle.base_answers.specs.Answers.{Outcome, told, say, answer_of, refusal_of, says, done}

-- what a call says is read back from its numbers
pub tells : (r : Outcome) → refusal_of (answer_of r) ≡ r
tells (Ok v) = refl
tells (Err (MinFilterSize a b)) = refl
tells (Err (ApproxSizeNotMatches a b)) = refl
tells (Err (OutputSizeIsNotValid a b)) = refl
tells (Err BufferWasTooSmallForLevel) = refl
tells (Err ZeroedBaseSize) = refl
tells (Err TooLong) = refl
tells (Err (NoRoom a b)) = refl
tells (Err (OtherWidth a b)) = refl
tells (Err (BadCount a b)) = refl
tells (Err (CutShort a)) = refl
tells (Err (OtherPoint a b)) = refl
tells (Err (Trailing a)) = refl
tells (Err (NoSuchPlace a b)) = refl
tells (Err BookFull) = refl
tells (Err AlreadyHeld) = refl
tells (Err NotHeld) = refl
tells (Err (DetailsSizeNotMatches a b)) = refl
tells (Err NoRate) = refl

-- two calls with the same numbers say the same
pub injective : (r s : Outcome) → answer_of r ≡ answer_of s → r ≡ s
injective r s e = sym (tells r) ∙ ap refusal_of e ∙ tells s

-- the number alone says which check it was: r is the case of s, with the values of r
pub number-says : (r s : Outcome) → (answer_of r).number ≡ (answer_of s).number → r ≡ refusal_of (say (answer_of s).number (answer_of r).first (answer_of r).second)
number-says r s e = sym (tells r) ∙ ap (λ n. refusal_of (say n (answer_of r).first (answer_of r).second)) e

-- two values that are told are those that are told
pub same_told : {a b x y : ℕ} → told a b ≡ told x y → (a ≡ x) × (b ≡ y)
same_told {a} {b} {x} {y} e = let p : ◌≡◌ {A = ℕ × ℕ} (a, b) (x, y) = cc in (ap (λ (v : ℕ × ℕ). v.0) p, ap (λ (v : ℕ × ℕ). v.1) p)

-- a call is done where its number is 0, and nowhere else
pub done-number : (s : Outcome) → says 0 s ≡ done s
done-number (Ok v) = refl
done-number (Err (MinFilterSize a b)) = refl
done-number (Err (ApproxSizeNotMatches a b)) = refl
done-number (Err (OutputSizeIsNotValid a b)) = refl
done-number (Err BufferWasTooSmallForLevel) = refl
done-number (Err ZeroedBaseSize) = refl
done-number (Err TooLong) = refl
done-number (Err (NoRoom a b)) = refl
done-number (Err (OtherWidth a b)) = refl
done-number (Err (BadCount a b)) = refl
done-number (Err (CutShort a)) = refl
done-number (Err (OtherPoint a b)) = refl
done-number (Err (Trailing a)) = refl
done-number (Err (NoSuchPlace a b)) = refl
done-number (Err BookFull) = refl
done-number (Err AlreadyHeld) = refl
done-number (Err NotHeld) = refl
done-number (Err (DetailsSizeNotMatches a b)) = refl
done-number (Err NoRate) = refl

-- where a promise is an equation, two results that it allows are equal
pub one-result : {A : Type 0} {r s x : A} → r ≡ x → s ≡ x → r ≡ s
one-result p q = p ∙ sym q
