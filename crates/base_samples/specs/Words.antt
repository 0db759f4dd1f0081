-- A list of bytes as words of k bytes each, one after the other: what integers and floats share. Word i stands at place k * i.
use Rattle.std.specs.Prelude.{List, [], ◌∷◌, ◌++◌, ◌≡◌, ℕ, zero, suc, ◌*◌, ◌/◌, ◌≤◌, length, take}
use Rattle.base_samples.specs.Le.{le_at, le_bytes, stored}

-- the list g 0, g 1, .., g (n - 1)
unfoldable pub tabulate {ℓ} : {A : Type ℓ} → ℕ → (ℕ → A) → List A
tabulate zero g = []
tabulate (suc n) g = tabulate n g ++ (g n ∷ [])

-- word i of s, and s with the word u there
unfoldable pub word_at : ℕ → List ℕ → ℕ → ℕ
word_at k s i = le_at k s (k * i)

unfoldable pub put_at : ℕ → List ℕ → ℕ → ℕ → List ℕ
put_at k s i u = stored k s (k * i) u

-- all the words of s, and the bytes of the words ws
unfoldable pub words_of : ℕ → List ℕ → List ℕ
words_of k s = tabulate (length s / k) (word_at k s)

unfoldable pub bytes_of : ℕ → List ℕ → List ℕ
bytes_of k [] = []
bytes_of k (u ∷ us) = le_bytes k u ++ bytes_of k us

-- s is n words of k bytes
pub record Holds (k n : ℕ) (s : List ℕ) : Type 0 where
  pub size : length s ≡ k * n
  pub count : length s / k ≡ n
  pub most : n ≤ length s

-- s is n words, of which the first i are g 0, .., g (i - 1): what a loop that writes from the front keeps true
pub record Front (k n i : ℕ) (g : ℕ → ℕ) (s : List ℕ) : Type 0 where
  pub holds : Holds k n s
  pub front : take (k * i) s ≡ bytes_of k (tabulate i g)
