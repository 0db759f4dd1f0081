-- The lengths of `multi_idwt`, each a word of four bytes, one at a time from the deepest: their sum and their checks.
use mathlib.Core.Path.{◌≡◌, refl, sym, ap, ◌∙◌}
use mathlib.Core.List.{List, [], ◌∷◌, ◌++◌}
use Prim.Native.Nat.{ℕ, zero, suc, ◌+◌, ◌*◌, ◌/◌, ◌≤◌, ◌<◌}
use native.Mathlib.Omega.{arith}
use lib.ListN.{length, drop, length-drop, length-append}
use lib.Seq.{take_at, drop_at}
use Rattle.std.specs.Prelude.{Ok, Err}
use Rattle.base_answers.specs.declared.err.Refusal.{Refusal}
use Rattle.base_answers.specs.Checks.{passes}
use Rattle.base_answers.proofs.Passed.{goes, stops}
use Rattle.base_samples.specs.Le.{le_at}
use Rattle.base_samples.specs.Words.{tabulate, word_at, words_of}
use Rattle.base_samples.proofs.LeLaws.{le_at-take, le_at-drop}
use Rattle.base_samples.proofs.Words.{tabulate-same}
use Rattle.base_lengths.specs.declared.Wavelet.{Wavelet}
use Rattle.base_lengths.specs.Calls.{inverse_bands}
use Rattle.levels_filter.specs.Backward.{total, band_checks}

-- a table, its first entry apart
tabulate-first : (n : ℕ) (g : ℕ → ℕ) → tabulate (suc n) g ≡ g 0 ∷ tabulate n (λ i. g (suc i))
unfolding tabulate
tabulate-first zero g = refl
tabulate-first (suc n) g = ap (λ (l : List ℕ). l ++ (g (suc n) ∷ [])) (tabulate-first n g)

-- the first length, and those after it
pub first_length : (s : List ℕ) → 4 ≤ length s → words_of 4 s ≡ le_at 4 s 0 ∷ words_of 4 (drop 4 s)
unfolding words_of word_at
first_length s h =
    let n = length (drop 4 s) / 4 in
    let m : length s / 4 ≡ suc n = omega (arith, length-drop {A = ℕ}) in
    let next : (i : ℕ) → 4 * suc i ≡ 4 + 4 * i = λ i. omega arith in
    rw m (tabulate-first n (word_at 4 s)
    ∙ ap (λ (l : List ℕ). le_at 4 s 0 ∷ l) (tabulate-same n (λ i. word_at 4 s (suc i)) (word_at 4 (drop 4 s)) (λ i l. ap (le_at 4 s) (next i) ∙ sym (le_at-drop 4 4 s (4 * i)))))

-- no length is left
pub no_length : (s : List ℕ) → length s < 4 → words_of 4 s ≡ []
unfolding words_of tabulate
no_length s h = let e : length s / 4 ≡ 0 = omega arith in rw e refl

-- a loop comes to the word x of the bytes s, and r are those after it
module _ {s : List ℕ} (x r : List ℕ) (e : s ≡ x ++ r) (h : length x ≡ 4) where
  next_length : words_of 4 s ≡ le_at 4 x 0 ∷ words_of 4 r
  next_length =
      let long : 4 ≤ length (x ++ r) = omega (arith, length-append {A = ℕ}) in
      let word : le_at 4 (x ++ r) 0 ≡ le_at 4 x 0 = sym (le_at-take 4 4 (x ++ r) 0 (omega arith)) ∙ ap (λ (l : List ℕ). le_at 4 l 0) (take_at x r 4 h) in
      ap (words_of 4) e ∙ first_length (x ++ r) long ∙ ap (λ (i : ℕ). i ∷ words_of 4 (drop 4 (x ++ r))) word ∙ ap (λ (l : List ℕ). le_at 4 x 0 ∷ words_of 4 l) (drop_at x r 4 h)

  pub next_total : total (words_of 4 s) ≡ le_at 4 x 0 + total (words_of 4 r)
  unfolding total
  next_total = ap total next_length

  -- of n approximations its checks pass: those of the lengths after it decide
  pub bands_next : (w : Wavelet) (n m : ℕ) → m ≡ le_at 4 x 0 → passes (inverse_bands w (n + m) n m) ≡ Ok tt → passes (band_checks w n (words_of 4 s)) ≡ passes (band_checks w (n + m) (words_of 4 r))
  unfolding band_checks
  bands_next w n m d q =
      ap (λ (l : List ℕ). passes (band_checks w n l)) (next_length ∙ ap (λ (i : ℕ). i ∷ words_of 4 r) (sym d)) ∙ goes (inverse_bands w (n + m) n m) (band_checks w (n + m) (words_of 4 r)) tt (Ok tt) q

  -- they refuse: so do all
  pub bands_stop : (w : Wavelet) (n m : ℕ) {no : Refusal} → m ≡ le_at 4 x 0 → passes (inverse_bands w (n + m) n m) ≡ Err no → passes (band_checks w n (words_of 4 s)) ≡ Err no
  unfolding band_checks
  bands_stop w n m d q =
      ap (λ (l : List ℕ). passes (band_checks w n l)) (next_length ∙ ap (λ (i : ℕ). i ∷ words_of 4 r) (sym d)) ∙ stops (inverse_bands w (n + m) n m) (band_checks w (n + m) (words_of 4 r)) tt (Ok tt) q

-- and at the end
pub no_total : (s : List ℕ) → length s < 4 → total (words_of 4 s) ≡ 0
unfolding total
no_total s h = ap total (no_length s h)

pub no_bands : (s : List ℕ) (w : Wavelet) (n : ℕ) → length s < 4 → passes (band_checks w n (words_of 4 s)) ≡ Ok tt
unfolding band_checks
no_bands s w n h = ap (λ (l : List ℕ). passes (band_checks w n l)) (no_length s h)
