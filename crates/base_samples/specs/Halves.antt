-- The entries of a list at even places and at odd places, and two lists joined again, an entry of each in turn. Over the kind of entry; z is never read.
use Rattle.std.specs.Prelude.{cond, List, ◌+◌, ◌*◌, ◌/◌, ◌%◌, eqb, length, get_or}
use Rattle.base_samples.specs.Words.{tabulate}

module _ {A : Type 0} (z : A) where
  -- x[0], x[2], ..
  unfoldable pub even_of : List A → List A
  even_of x = tabulate ((length x + 1) / 2) (λ i. get_or x (2 * i) z)

  -- x[1], x[3], ..
  unfoldable pub odd_of : List A → List A
  odd_of x = tabulate (length x / 2) (λ i. get_or x (2 * i + 1) z)

  -- a[0], d[0], a[1], d[1], ..
  unfoldable pub joined : List A → List A → List A
  joined a d = tabulate (length a + length d) (λ j. cond (eqb (j % 2) 0) (get_or a (j / 2) z) (get_or d (j / 2) z))
