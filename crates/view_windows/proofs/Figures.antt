-- Figures of windows, computed.
use mathlib.Core.List.{[], ◌∷◌}
use mathlib.Core.Path.{◌≡◌, refl}
use Rattle.std.specs.Prelude.{Err}
use Rattle.base_answers.specs.Answers.{told}
use Rattle.base_answers.specs.declared.err.Refusal.TheVariants.{BadCount, NoSuchPlace}
use Rattle.view_windows.specs.Windows.{say_window, window_in}

-- of 5 approximations and 3 details, two bytes each
pub record Windows : Type 0 where
  pub low : say_window 2 10 6 0 1 2 ≡ told 2 4
  pub high : say_window 2 10 6 1 1 2 ≡ told 2 4
  pub any-other : say_window 2 10 6 7 0 3 ≡ told 0 6
  pub none : say_window 2 10 6 0 1 0 ≡ Err (NoSuchPlace 1 5)
  pub past_end : say_window 2 10 6 1 1 3 ≡ Err (NoSuchPlace 1 3)
  pub far : say_window 2 10 6 0 18446744073709551615 18446744073709551615 ≡ Err (NoSuchPlace 18446744073709551615 5)
  pub approx-first : say_window 2 11 7 1 0 0 ≡ Err (BadCount 0 11)
  pub then-details : say_window 2 10 7 0 0 1 ≡ Err (BadCount 0 7)
  pub part : window_in 2 (1 ∷ 2 ∷ []) (3 ∷ 4 ∷ 5 ∷ 6 ∷ []) 1 1 1 ≡ 5 ∷ 6 ∷ []
  pub empty : window_in 2 (1 ∷ 2 ∷ []) (3 ∷ 4 ∷ 5 ∷ 6 ∷ []) 0 1 1 ≡ []

pub windows : Windows
unfolding say_window window_in
windows =
    record {
      low = refl;
      high = refl;
      any-other = refl;
      none = refl;
      past_end = refl;
      far = refl;
      approx-first = refl;
      then-details = refl;
      part = refl;
      empty = refl;
    }
