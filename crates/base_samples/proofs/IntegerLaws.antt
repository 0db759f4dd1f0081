-- Laws of samples in bytes, once over the width: words and the numbers that they stand for, samples to bytes and back, and lengths.
use mathlib.Core.Bool.{Bool, true, false, ◌||◌}
use mathlib.Core.Path.{◌≡◌, refl, sym, ap, subst, ◌∙◌}
use mathlib.Core.List.{List, map}
use mathlib.Core.Logic.{⊎_elim}
use Prim.Native.Nat.{ℕ, ◌+◌, ◌-◌, ◌*◌, ◌/◌, ◌%◌, ◌^◌, ◌<◌}
use native.Mathlib.Nat.{mod-lt, mod-eq_of_lt, mod-eq-sub-mod, mod-mod}
use native.Mathlib.Omega.{arith}
use borrow.Author.Tests.{lt-ltb, le-ltb, eqb-true}
use lib.Dec.{T, eqb}
use lib.IntN.{ℤ, pos, negsuc, sub_ℕ}
use lib.ListN.{length, get_or, length-map}
use Rattle.base_order.proofs.Order.{lt-or-le}
use Rattle.base_samples.specs.Le.{Bytes}
use Rattle.base_samples.specs.Words.{tabulate, word_at, words_of, bytes_of, Holds}
pub use Rattle.base_samples.specs.Integers.{width-1, width-2, width-4}
use Rattle.base_samples.specs.Integers.{val, residue, wrap, decode, encode, quarter, is_width, Width}
use Rattle.base_samples.proofs.LeLaws.{top_pos}
use Rattle.base_samples.proofs.Words.{get_or-tabulate, tabulate-same, map-tabulate, word_lt, length-words, length-bytes, words-bytes, bytes-words}
use Rattle.base_samples.proofs.Diff.{sub-ge, sub-lt, residue-sub}

-- ---- the widths

-- a number that the test takes for a width is one
pub width-of : (k : ℕ) → is_width k ≡ true → Width k
width-of k h = first (eqb k 1) (eqb k 2) (eqb k 4) refl refl refl h
  where
    first : (a b c : Bool) → eqb k 1 ≡ a → eqb k 2 ≡ b → eqb k 4 ≡ c → a || (b || c) ≡ true → Width k
    first true b c ea eb ec h = rw (eqb-true k 1 ea) width-1
    first false true c ea eb ec h = rw (eqb-true k 2 eb) width-2
    first false false true ea eb ec h = rw (eqb-true k 4 ec) width-4
    first false false false ea eb ec h = absurd (subst T (sym h) tt)

-- ---- words and numbers

pub residue-lt : (M : ℕ) (z : ℤ) → 0 < M → residue M z < M
unfolding residue
residue-lt M (pos n) h = mod-lt n h
residue-lt M (negsuc n) h = omega arith

-- (u + 2 Q) modulo 4 Q, of a word u of the 4 Q words: 2 Q more than the number that u stands for
abbrev pub bias : ℕ → ℕ → ℕ
bias Q u = (u + 2 * Q) % (4 * Q)

-- a word stands for its bias less half of the words
pub val-sub : (Q u : ℕ) → u < 4 * Q → val (4 * Q) u ≡ sub_ℕ (bias Q u) (2 * Q)
unfolding val
val-sub Q u h =
    ⊎_elim
    (λ k.
    rw (lt-ltb u (4 * Q / 2) k, mod-eq_of_lt {n = u + 2 * Q} {m = 4 * Q} (omega arith))
    (ap pos (omega arith) ∙ sym (sub-ge (u + 2 * Q) (2 * Q) (omega arith))))
    (λ k.
    rw (le-ltb u (4 * Q / 2) k, mod-eq-sub-mod {n = u + 2 * Q} {m = 4 * Q} (omega arith), mod-eq_of_lt {n = u + 2 * Q - 4 * Q} {m = 4 * Q} (omega arith))
    (ap negsuc (omega arith) ∙ sym (sub-lt (u + 2 * Q - 4 * Q) (2 * Q) (omega arith))))
    (lt-or-le u (4 * Q / 2))

pub residue-val : (Q u : ℕ) → u < 4 * Q → residue (4 * Q) (val (4 * Q) u) ≡ u
residue-val Q u h = rw (val-sub Q u h) (residue-sub (4 * Q) (bias Q u) (2 * Q) u h (sym (mod-mod (u + 2 * Q) (4 * Q))))

module _ {k : ℕ} (w : Width k) where
  -- the word of the number of a word
  pub word-val : (u : ℕ) → u < 256 ^ k → residue (256 ^ k) (val (256 ^ k) u) ≡ u
  word-val u h = rw w.words (residue-val (quarter k) u (rw w.words at h))

  -- what is kept of a number has the number's word, and is kept as it is
  pub word-wrap : (z : ℤ) → residue (256 ^ k) (wrap k z) ≡ residue (256 ^ k) z
  unfolding wrap
  word-wrap z = word-val (residue (256 ^ k) z) (residue-lt (256 ^ k) z (top_pos k))

  pub wrap-wrap : (z : ℤ) → wrap k (wrap k z) ≡ wrap k z
  unfolding wrap
  wrap-wrap z = ap (val (256 ^ k)) (word-wrap z)

-- ---- samples in bytes

module _ (k : ℕ) where
  pub length-decode : (s : List ℕ) → length (decode k s) ≡ length s / k
  unfolding decode
  length-decode s = length-map (words_of k s) (val (256 ^ k)) ∙ length-words k s

  pub length-encode : (zs : List ℤ) → length (encode k zs) ≡ k * length zs
  unfolding encode
  length-encode zs = length-bytes k (map (residue (256 ^ k)) zs) ∙ rw (length-map zs (residue (256 ^ k)))

  -- a table of samples is stored as the table of their words
  pub encode-tabulate : (n : ℕ) (g : ℕ → ℤ) → encode k (tabulate n g) ≡ bytes_of k (tabulate n (λ i. residue (256 ^ k) (g i)))
  unfolding encode
  encode-tabulate n g = ap (bytes_of k) (map-tabulate (residue (256 ^ k)) n g)

  decode_is : (s : List ℕ) → decode k s ≡ tabulate (length s / k) (λ i. val (256 ^ k) (word_at k s i))
  unfolding decode words_of
  decode_is s = map-tabulate (val (256 ^ k)) (length s / k) (word_at k s)

  pub at-decode : (s : List ℕ) (i : ℕ) → i < length s / k → get_or (decode k s) i (pos 0) ≡ val (256 ^ k) (word_at k s i)
  at-decode s i h = rw (decode_is s) (get_or-tabulate (length s / k) (λ i. val (256 ^ k) (word_at k s i)) i (pos 0) h)

module _ {k : ℕ} (w : Width k) where
  -- samples to bytes and back: what is kept of each
  pub decode-encode : (n : ℕ) (g : ℕ → ℤ) → decode k (encode k (tabulate n g)) ≡ tabulate n (λ i. wrap k (g i))
  unfolding decode wrap
  decode-encode n g =
      rw (encode-tabulate k n g, words-bytes k w.some n (λ i. residue (256 ^ k) (g i)), map-tabulate)
      (tabulate-same n (λ i. val (256 ^ k) (residue (256 ^ k) (g i) % 256 ^ k)) (λ i. val (256 ^ k) (residue (256 ^ k) (g i)))
      (λ i h. ap (val (256 ^ k)) (mod-eq_of_lt (residue-lt (256 ^ k) (g i) (top_pos k)))))

  -- bytes to samples and back: the bytes
  pub encode-decode : (s : List ℕ) → Bytes s → (n : ℕ) → Holds k n s → encode k (decode k s) ≡ s
  unfolding encode words_of
  encode-decode s b n h =
      rw (decode_is k s, map-tabulate)
      (ap (bytes_of k) (tabulate-same (length s / k) (λ i. residue (256 ^ k) (val (256 ^ k) (word_at k s i))) (word_at k s) (λ i l. word-val w (word_at k s i) (word_lt k s b i)))
      ∙ bytes-words k s b n h)
