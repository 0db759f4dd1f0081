-- Laws of words in bytes, once over the width: lengths, what was put is read, other words stay, and words to bytes and back.
use mathlib.Core.Path.{◌≡◌, refl, sym, ap, ◌∙◌}
use mathlib.Core.List.{List, [], ◌∷◌, ◌++◌, map, map-append, append_assoc, append-nil}
use mathlib.Core.Logic.{⊎_elim}
use Prim.Native.Nat.{ℕ, zero, suc, ◌+◌, ◌*◌, ◌/◌, ◌%◌, ◌^◌, ◌≤◌, ◌<◌}
use native.Mathlib.Nat.{mul-suc, mul-add, mul-zero, mul_comm, suc-mul, mul-div_right, div-le_self, div-mul-le_self, mul-le-mul_right, mul-le-mul_left, le_trans, le_of_suc-le-suc, not-suc-le-zero, mod-eq_of_lt}
use native.Mathlib.Decide.{ℕ_discrete}
use native.Mathlib.Omega.{arith}
use lib.ListN.{length, get_or, take, drop, set, length-append, length-set, get_or-append}
use lib.Seq.{ext_get_or, get_or_at, get_or-set_same, get_or-set_other, set_split, take-nil, drop-nil, take-add, take_all, take-append-add, drop-append-add}
use Rattle.base_order.proofs.Order.{lt-or-le}
use Rattle.base_samples.specs.Le.{le_at, le_bytes, Bytes}
use Rattle.base_samples.specs.Words.{tabulate, word_at, put_at, words_of, bytes_of, Holds}
use Rattle.base_samples.proofs.LeLaws.{le_at-skip, le_at-drop, le_at-take, le_at-bytes, le_at-lt, length-le_bytes, le_bytes-at, length-stored, stored_is, stored-read, stored-before, stored-after}

-- ---- tables

module _ {ℓ} {A : Type ℓ} where
  pub length-tabulate : (n : ℕ) (g : ℕ → A) → length (tabulate n g) ≡ n
  unfolding tabulate
  length-tabulate zero g = refl
  length-tabulate (suc n) g = length-append (tabulate n g) (g n ∷ []) ∙ rw (length-tabulate n g) (omega arith)

  pub get_or-tabulate : (n : ℕ) (g : ℕ → A) (i : ℕ) (d : A) → i < n → get_or (tabulate n g) i d ≡ g i
  unfolding tabulate
  get_or-tabulate zero g i d h = absurd (not-suc-le-zero h)
  get_or-tabulate (suc n) g i d h =
      ⊎_elim
      (λ k. get_or-append (tabulate n g) (g n ∷ []) d i (rw (length-tabulate n g) k) ∙ get_or-tabulate n g i d k)
      (λ k. let e : i ≡ n = omega arith in rw e (get_or_at (tabulate n g) (g n) [] d n (length-tabulate n g)))
      (lt-or-le i n)

  pub tabulate-same : (n : ℕ) (g h : ℕ → A) → ((i : ℕ) → i < n → g i ≡ h i) → tabulate n g ≡ tabulate n h
  unfolding tabulate
  tabulate-same zero g h e = refl
  tabulate-same (suc n) g h e = rw (tabulate-same n g h (λ i k. e i (omega arith)), e n (omega arith))

  -- a list is the table of its elements
  pub tabulate-get_or : (l : List A) (d : A) → tabulate (length l) (λ i. get_or l i d) ≡ l
  tabulate-get_or l d = ext_get_or d (tabulate (length l) (λ i. get_or l i d)) l (length-tabulate _ _) (λ i h. get_or-tabulate (length l) (λ i. get_or l i d) i d (rw (length-tabulate (length l) (λ i. get_or l i d)) at h))

  -- a table with one entry changed
  pub set-tabulate : (n : ℕ) (g h : ℕ → A) (i : ℕ) (v : A) → i < n → h i ≡ v → ((j : ℕ) → j < n → (j ≡ i → ⊥) → h j ≡ g j) → set (tabulate n g) i v ≡ tabulate n h
  set-tabulate n g h i v hi e same =
      let len : length (set (tabulate n g) i v) ≡ n = length-set (tabulate n g) i v ∙ length-tabulate n g in
      ext_get_or v (set (tabulate n g) i v) (tabulate n h) (len ∙ sym (length-tabulate n h))
      (λ j l.
      let hj : j < n = rw len at l in
      sym (get_or-tabulate n h j v hj
      ∙ elim (ℕ_discrete j i) [
        | yes q ↦ rw q (e ∙ sym (get_or-set_same (tabulate n g) i v v (rw (length-tabulate n g) hi)))
        | no q ↦ same j hj q ∙ sym (get_or-set_other (tabulate n g) i j v v q ∙ get_or-tabulate n g j v hj)
      ]))

pub map-tabulate {ℓ} : {A B : Type ℓ} (f : A → B) (n : ℕ) (g : ℕ → A) → map f (tabulate n g) ≡ tabulate n (λ i. f (g i))
unfolding tabulate
map-tabulate f zero g = refl
map-tabulate f (suc n) g = map-append f (tabulate n g) (g n ∷ []) ∙ rw (map-tabulate f n g)

-- ---- words of k bytes

-- a word's bytes lie within the list
pub room : (k : ℕ) (s : List ℕ) (i : ℕ) → i < length s / k → k * i + k ≤ length s
room k s i h = le_trans (rw (mul_comm k i, ← suc-mul i k) (mul-le-mul_right k h)) (div-mul-le_self (length s) k)

-- the same where the width is known to be j
pub room_at : {k : ℕ} (j : ℕ) → k ≡ j → (s : List ℕ) (i : ℕ) → i < length s / k → j * i + j ≤ length s
room_at {k} j e s i h = rw e at (room k s i h)

pub holds : {k : ℕ} → 0 < k → (s : List ℕ) (n : ℕ) → length s ≡ k * n → Holds k n s
holds {k} p s n e =
    let c : length s / k ≡ n = rw e (mul-div_right n p) in
    record { size = e; count = c; most = omega (arith, div-le_self (length s) k) }

-- a list of the same length holds as many
pub holds_on : {k n : ℕ} {s : List ℕ} (t : List ℕ) → Holds k n s → length t ≡ length s → Holds k n t
holds_on {k} t h e = record { size = e ∙ h.size; count = ap (λ m. m / k) e ∙ h.count; most = omega (arith, h.most) }

module _ (k : ℕ) where
  pub length-put : (s : List ℕ) (i u : ℕ) → length (put_at k s i u) ≡ length s
  unfolding put_at
  length-put s i u = length-stored k s (k * i) u

  -- the word that was put is read
  pub put_same : (s : List ℕ) (i u : ℕ) → i < length s / k → u < 256 ^ k → word_at k (put_at k s i u) i ≡ u
  unfolding word_at put_at
  put_same s i u h b = stored-read k s (k * i) u (room k s i h) ∙ mod-eq_of_lt b

  -- other words stay
  pub put_other : (s : List ℕ) (i j u : ℕ) → (i ≡ j → ⊥) → word_at k (put_at k s i u) j ≡ word_at k s j
  unfolding word_at put_at
  put_other s i j u ne =
      ⊎_elim
      (λ l. stored-after k k s (k * i) u (k * j) (rw (← mul-suc k i) (mul-le-mul_left k l)))
      (λ l. stored-before k k s (k * i) u (k * j) (rw (← mul-suc k j) (mul-le-mul_left k (below j i l ne))))
      (lt-or-le i j)
    where
      below : (j i : ℕ) → j ≤ i → (i ≡ j → ⊥) → suc j ≤ i
      below j i l ne = ⊎_elim (λ h. h) (λ h. absurd (ne (omega arith))) (lt-or-le j i)

  -- word j of the first n words, and of what comes after them
  pub word-take : (s : List ℕ) (n j : ℕ) → j < n → word_at k (take (k * n) s) j ≡ word_at k s j
  unfolding word_at
  word-take s n j h = le_at-take k (k * n) s (k * j) (rw (← mul-suc k j) (mul-le-mul_left k h))

  pub word-drop : (s : List ℕ) (n j : ℕ) → word_at k (drop (k * n) s) j ≡ word_at k s (n + j)
  unfolding word_at
  word-drop s n j = le_at-drop k (k * n) s (k * j) ∙ ap (le_at k s) (sym (mul-add k n j))

  pub length-words : (s : List ℕ) → length (words_of k s) ≡ length s / k
  unfolding words_of
  length-words s = length-tabulate (length s / k) (word_at k s)

  pub get_or-words : (s : List ℕ) (i : ℕ) → i < length s / k → get_or (words_of k s) i 0 ≡ word_at k s i
  unfolding words_of
  get_or-words s i h = get_or-tabulate (length s / k) (word_at k s) i 0 h

  pub bytes-append : (us vs : List ℕ) → bytes_of k (us ++ vs) ≡ bytes_of k us ++ bytes_of k vs
  unfolding bytes_of
  bytes-append [] vs = refl
  bytes-append (u ∷ us) vs = rw (bytes-append us vs) (sym (append_assoc (le_bytes k u) (bytes_of k us) (bytes_of k vs)))

  pub length-bytes : (us : List ℕ) → length (bytes_of k us) ≡ k * length us
  unfolding bytes_of
  length-bytes [] = sym (mul-zero k)
  length-bytes (u ∷ us) = length-append (le_bytes k u) (bytes_of k us) ∙ rw (length-le_bytes, length-bytes us) (omega (arith, mul-suc k (length us)))

  -- a part of the bytes is the bytes of a part
  pub bytes_take : (us : List ℕ) (i : ℕ) → take (k * i) (bytes_of k us) ≡ bytes_of k (take i us)
  unfolding bytes_of
  bytes_take [] i = rw (take-nil i) (take-nil (k * i))
  bytes_take (u ∷ us) zero = rw (mul-zero k)
  bytes_take (u ∷ us) (suc i) =
      let e : k * suc i ≡ length (le_bytes k u) + k * i = rw (length-le_bytes, mul-suc) (omega arith) in
      rw (e, take-append-add, bytes_take us i)

  pub bytes_drop : (us : List ℕ) (i : ℕ) → drop (k * i) (bytes_of k us) ≡ bytes_of k (drop i us)
  unfolding bytes_of
  bytes_drop [] i = rw (drop-nil i) (drop-nil (k * i))
  bytes_drop (u ∷ us) zero = rw (mul-zero k)
  bytes_drop (u ∷ us) (suc i) =
      let e : k * suc i ≡ length (le_bytes k u) + k * i = rw (length-le_bytes, mul-suc) (omega arith) in
      rw (e, drop-append-add, bytes_drop us i)

  -- a word put into the bytes of words
  pub put-bytes : (us : List ℕ) (i u : ℕ) → i < length us → put_at k (bytes_of k us) i u ≡ bytes_of k (set us i u)
  unfolding put_at bytes_of
  put-bytes us i u h =
      let m : k * suc i ≡ k * i + k = mul-suc k i in
      stored_is k (bytes_of k us) (k * i) u (rw (length-bytes us, ← m) (mul-le-mul_left k h))
      ∙ rw (← m, bytes_take us i, bytes_drop us (suc i), set_split us i u h, bytes-append)

  -- word i of the bytes of words
  pub word_bytes : (us : List ℕ) (i : ℕ) → i < length us → word_at k (bytes_of k us) i ≡ get_or us i 0 % 256 ^ k
  unfolding word_at bytes_of
  word_bytes [] i h = absurd (not-suc-le-zero h)
  word_bytes (u ∷ us) zero h = rw (mul-zero k) (le_at-bytes k u (bytes_of k us))
  word_bytes (u ∷ us) (suc i) h =
      let e : k * suc i ≡ length (le_bytes k u) + k * i = rw (length-le_bytes, mul-suc) (omega arith) in
      rw (e, le_at-skip) (word_bytes us i (le_of_suc-le-suc h))

  -- word i of the bytes of a table
  pub word-table : (n : ℕ) (g : ℕ → ℕ) (i : ℕ) → i < n → g i < 256 ^ k → word_at k (bytes_of k (tabulate n g)) i ≡ g i
  word-table n g i h l = word_bytes (tabulate n g) i (rw (length-tabulate n g) h) ∙ rw (get_or-tabulate n g i 0 h) (mod-eq_of_lt l)

  -- words to bytes and back: each is kept modulo 256 ^ k
  pub words-bytes : 0 < k → (n : ℕ) (g : ℕ → ℕ) → words_of k (bytes_of k (tabulate n g)) ≡ tabulate n (λ i. g i % 256 ^ k)
  unfolding words_of
  words-bytes p n g =
      let len : length (bytes_of k (tabulate n g)) / k ≡ n = rw (length-bytes, length-tabulate) (mul-div_right n p) in
      rw len
      (tabulate-same n (word_at k (bytes_of k (tabulate n g))) (λ i. g i % 256 ^ k)
      (λ i h. word_bytes (tabulate n g) i (rw (length-tabulate n g) h) ∙ ap (λ u. u % 256 ^ k) (get_or-tabulate n g i 0 h)))

  -- bytes to words and back: the front of n words, and all of it
  module _ (s : List ℕ) (b : Bytes s) where
    pub word_lt : (i : ℕ) → word_at k s i < 256 ^ k
    unfolding word_at
    word_lt i = le_at-lt s b k (k * i)

    word-at : (i : ℕ) → k * i + k ≤ length s → le_bytes k (word_at k s i) ≡ take k (drop (k * i) s)
    unfolding word_at
    word-at i h = le_bytes-at s b k (k * i) h

    bytes-front : (n : ℕ) → k * n ≤ length s → bytes_of k (tabulate n (word_at k s)) ≡ take (k * n) s
    unfolding tabulate bytes_of
    bytes-front zero h = rw (mul-zero k)
    bytes-front (suc n) h =
        let m : k * suc n ≡ k * n + k = mul-suc k n in
        rw (bytes-append, bytes-front n (omega arith), m, take-add (k * n) k s)
        (ap (λ r. take (k * n) s ++ r) (append-nil _ ∙ word-at n (omega arith)))

    pub bytes-words : (n : ℕ) → Holds k n s → bytes_of k (words_of k s) ≡ s
    unfolding words_of
    bytes-words n h = rw h.count (bytes-front n (omega (arith, h.size)) ∙ take_all (k * n) s (omega (arith, h.size)))
