-- Areas of words: one that is not empty, and one that holds a part of a band. Over the width.
use mathlib.Core.List.{List}
use mathlib.Core.Logic.{⊎_elim}
use mathlib.Core.Path.{◌≡◌, refl, sym, ap, ◌∙◌}
use Prim.Native.Nat.{ℕ, ◌+◌, ◌-◌, ◌/◌, ◌≤◌, ◌<◌}
use native.Mathlib.Nat.{mul-zero}
use native.Mathlib.Omega.{arith}
use lib.ListN.{length, take, drop, length-drop}
use lib.Seq.{ext_get_or, get_or-drop, get_or-take, length-take-le}
use Rattle.base_order.proofs.Order.{lt-or-le}
use Rattle.base_lengths.specs.Lengths.{approx_length, details_length}
use Rattle.base_samples.specs.Words.{tabulate, bytes_of, Holds, Front}
use Rattle.base_samples.specs.Integers.{wrap, decode}
use Rattle.base_samples.proofs.Words.{length-tabulate, get_or-tabulate, bytes_take, bytes_drop}
use Rattle.base_samples.proofs.Fronts.{front-all}
use Rattle.base_samples.proofs.IntegerLaws.{length-decode, encode-tabulate}
use Rattle.filter_cdf53i.specs.Lift.{detail, details, approx, approxs}
use Rattle.filter_cdf53i.specs.Bands.{low, high, detail_word, approx_word}
use Rattle.stream_pieces.specs.States.{between}

-- an area that is not empty holds a word
pub some_words : {k n : ℕ} {s : List ℕ} → Holds k n s → (length s ≡ 0 → ⊥) → 0 < n
some_words {k} {n} h ne = ⊎_elim (λ l. l) (λ l. let e : n ≡ 0 = omega arith in absurd (ne (h.size ∙ rw e (mul-zero k)))) (lt-or-le 0 n)

part : (i j n : ℕ) (g : ℕ → ℕ) → i ≤ j → j ≤ n → drop i (take j (tabulate n g)) ≡ tabulate (j - i) (λ p. g (i + p))
part i j n g h l =
    let all = length-tabulate n g in
    let front : length (take j (tabulate n g)) ≡ j = length-take-le j (tabulate n g) (omega arith) in
    let len : length (drop i (take j (tabulate n g))) ≡ j - i = length-drop i (take j (tabulate n g)) ∙ ap (λ (p : ℕ). p - i) front in
    ext_get_or 0 (drop i (take j (tabulate n g))) (tabulate (j - i) (λ p. g (i + p))) (len ∙ sym (length-tabulate (j - i) (λ p. g (i + p))))
    (λ p q.
    get_or-drop i (take j (tabulate n g)) p 0
    ∙ get_or-take j (tabulate n g) (i + p) 0 (omega (arith, len))
    ∙ get_or-tabulate n g (i + p) 0 (omega (arith, len))
    ∙ sym (get_or-tabulate (j - i) (λ p. g (i + p)) p 0 (omega (arith, len))))

module _ (k : ℕ) where
  between-table : (i j n : ℕ) (g : ℕ → ℕ) → i ≤ j → j ≤ n → between k i j (bytes_of k (tabulate n g)) ≡ bytes_of k (tabulate (j - i) (λ p. g (i + p)))
  between-table i j n g h l = rw (bytes_take k (tabulate n g) j, bytes_drop k (take j (tabulate n g)) i, part i j n g h l)

  -- coefficients i to j of each band, by their words
  pub between-low : (x : List ℕ) (i j : ℕ) → i ≤ j → j ≤ approx_length (length x / k) → between k i j (low k x) ≡ bytes_of k (tabulate (j - i) (λ p. approx_word k x (i + p)))
  unfolding low approxs approx_word
  between-low x i j h l =
      rw (length-decode k x, encode-tabulate k (approx_length (length x / k)) (approx (wrap k) (decode k x) (details (wrap k) (decode k x))))
      (between-table i j (approx_length (length x / k)) (approx_word k x) h l)

  pub between-high : (x : List ℕ) (i j : ℕ) → i ≤ j → j ≤ details_length (length x / k) → between k i j (high k x) ≡ bytes_of k (tabulate (j - i) (λ p. detail_word k x (i + p)))
  unfolding high details detail_word
  between-high x i j h l =
      rw (length-decode k x, encode-tabulate k (details_length (length x / k)) (detail (wrap k) (decode k x)))
      (between-table i j (details_length (length x / k)) (detail_word k x) h l)

  -- an area that holds these words is that part of the band
  pub lows-are : (x : List ℕ) (i j : ℕ) {a : List ℕ} → i ≤ j → j ≤ approx_length (length x / k) → Front k (j - i) (j - i) (λ p. approx_word k x (i + p)) a → a ≡ between k i j (low k x)
  lows-are x i j h l f = front-all _ f refl refl ∙ sym (between-low x i j h l)

  pub highs-are : (x : List ℕ) (i j : ℕ) {d : List ℕ} → i ≤ j → j ≤ details_length (length x / k) → Front k (j - i) (j - i) (λ p. detail_word k x (i + p)) d → d ≡ between k i j (high k x)
  highs-are x i j h l f = front-all _ f refl refl ∙ sym (between-high x i j h l)
