-- What one level of a filter promises, of the filter that it is.
use mathlib.Core.Path.{◌≡◌, sym, ap}
use Prim.Native.Nat.{ℕ}
use Rattle.base_answers.specs.Answers.{told, done}
use Rattle.base_lengths.specs.declared.Wavelet.{Wavelet}
use Rattle.base_lengths.specs.Calls.{say_forward, say_inverse}
use Rattle.base_lengths.proofs.OneLevel.{forward-ready, inverse-ready}
use Rattle.levels_filter.specs.declared.filter.Filter.{Filter}
use Rattle.levels_filter.specs.Filters.{width_of, wavelet_of}
use Rattle.levels_filter.specs.Calls.{LevelOf, LowOf}

-- a level of f, of g where f is g
pub lent_of : (f g : Filter) {x a d : ℕ} → f ≡ g → LevelOf f x a d → LevelOf g x a d
lent_of f g e l = rw e at l

pub low-lent : (f g : Filter) {x a : ℕ} → f ≡ g → LowOf f x a → LowOf g x a
low-lent f g e l = rw e at l

-- where the checks of a level pass, the lengths are those of a level
pub forward_lent : (f : Filter) {w : Wavelet} {k x a d : ℕ} → told 0 0 ≡ say_forward w k x a d → w ≡ wavelet_of f → k ≡ width_of f → LevelOf f x a d
forward_lent f {x = x} {a = a} {d = d} e p q = forward-ready (wavelet_of f) (width_of f) x a d (rw (p, q) at (sym (ap done e)))

pub inverse_lent : (f : Filter) {w : Wavelet} {k a d o : ℕ} → told 0 0 ≡ say_inverse w k a d o → w ≡ wavelet_of f → k ≡ width_of f → LevelOf f o a d
inverse_lent f {a = a} {d = d} {o = o} e p q = inverse-ready (wavelet_of f) (width_of f) a d o (rw (p, q) at (sym (ap done e)))
