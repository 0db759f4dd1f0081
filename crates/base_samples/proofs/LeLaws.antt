-- Laws of little-endian numbers, once over the number of bytes: halves, what was stored is read, other places stay, and numbers in joined and cut lists.
use mathlib.Core.Path.{◌≡◌, refl, sym, ap, ap₂, ◌∙◌}
use mathlib.Core.List.{List, [], ◌∷◌, ◌++◌, append_assoc}
use Prim.Native.Nat.{ℕ, zero, suc, ◌+◌, ◌-◌, ◌*◌, ◌/◌, ◌%◌, ◌^◌, ◌≤◌, ◌<◌}
use native.Mathlib.Nat.{add_assoc, add-zero, zero-add, suc-add, mul_assoc, pow-suc, pow-succ', mod-one, div-div-eq-div-mul}
use native.Mathlib.Numerals.{add-one}
use native.Mathlib.Omega.{arith}
use lib.Arith.{mod-mul}
use lib.ListN.{length, get_or, take, drop, set}
use lib.Seq.{sets, sets-eq, length-sets, get_or-append-add, get_or-drop, get_or-take, get_or-set_other, drop-cons, length-take-le}
use borrow.Rule.Slice.PartMut.{put_mid, Post-is}
use Rattle.std.specs.Int.{bytes_low_first, byte_at}
use Rattle.base_samples.specs.Le.{le_at, le_bytes, stored, Bytes}

pub top_pos : (k : ℕ) → 0 < 256 ^ k
top_pos zero = omega arith
top_pos (suc k) = rw (pow-suc 256 k) (omega (arith, top_pos k))

-- ---- numbers that are read

-- a number is its lower j bytes and its upper k
pub le_at-add : (j k : ℕ) (s : List ℕ) (p : ℕ) → le_at (j + k) s p ≡ le_at j s p + 256 ^ j * le_at k s (p + j)
unfolding le_at
le_at-add zero k s p = rw (zero-add, add-zero) (omega arith)
le_at-add (suc j) k s p =
    rw (suc-add j k, pow-succ' 256 j)
    (let e : p + suc j ≡ p + 1 + j = omega arith in
    rw (e, mul_assoc) (omega (arith, le_at-add j k s (p + 1))))

-- only the k bytes from p on matter
pub le_at-same : (k : ℕ) (s t : List ℕ) (p q : ℕ) → ((i : ℕ) → i < k → get_or s (p + i) 0 ≡ get_or t (q + i) 0) → le_at k s p ≡ le_at k t q
unfolding le_at
le_at-same zero s t p q h = refl
le_at-same (suc k) s t p q h =
    ap₂ (λ a b. a + 256 * b) (rw (add-zero, add-zero) at (h 0 (omega arith)))
    (le_at-same k s t (p + 1) (q + 1) (λ i l. let e : p + suc i ≡ p + 1 + i = omega arith in let e' : q + suc i ≡ q + 1 + i = omega arith in rw (e, e') at (h (suc i) (omega arith))))

pub le_at-skip : (k : ℕ) (xs ys : List ℕ) (p : ℕ) → le_at k (xs ++ ys) (length xs + p) ≡ le_at k ys p
le_at-skip k xs ys p = le_at-same k (xs ++ ys) ys (length xs + p) p (λ i l. rw add_assoc (get_or-append-add xs ys (p + i) 0))

pub le_at-drop : (k : ℕ) (q : ℕ) (s : List ℕ) (p : ℕ) → le_at k (drop q s) p ≡ le_at k s (q + p)
le_at-drop k q s p = le_at-same k (drop q s) s p (q + p) (λ i l. rw add_assoc (get_or-drop q s (p + i) 0))

pub le_at-take : (k : ℕ) (n : ℕ) (s : List ℕ) (p : ℕ) → p + k ≤ n → le_at k (take n s) p ≡ le_at k s p
le_at-take k n s p h = le_at-same k (take n s) s p p (λ i l. get_or-take n s (p + i) 0 (omega arith))

-- ---- bytes of a number

pub length-le_bytes : (k n : ℕ) → length (le_bytes k n) ≡ k
unfolding le_bytes
length-le_bytes zero n = refl
length-le_bytes (suc k) n = ap suc (length-le_bytes k (n / 256))

pub bytes-le_bytes : (k n i : ℕ) → get_or (le_bytes k n) i 0 < 256
unfolding le_bytes
bytes-le_bytes zero n i = omega arith
bytes-le_bytes (suc k) n zero = omega arith
bytes-le_bytes (suc k) n (suc i) = bytes-le_bytes k (n / 256) i

-- the lower j bytes, then the upper k
pub le_bytes-add : (j k n : ℕ) → le_bytes (j + k) n ≡ le_bytes j n ++ le_bytes k (n / 256 ^ j)
unfolding le_bytes
le_bytes-add zero k n = rw zero-add (ap (le_bytes k) (omega arith))
le_bytes-add (suc j) k n =
    rw (suc-add j k)
    (ap (λ r. n % 256 ∷ r)
    (le_bytes-add j k (n / 256) ∙ ap (λ m. le_bytes j (n / 256) ++ le_bytes k m) (div-div-eq-div-mul n 256 (256 ^ j) ∙ ap (λ m. n / m) (sym (pow-succ' 256 j)))))

-- the lower j bytes of n are those of what n is modulo 256 ^ j
pub le_bytes-mod : (k n : ℕ) → le_bytes k (n % 256 ^ k) ≡ le_bytes k n
unfolding le_bytes
le_bytes-mod zero n = refl
le_bytes-mod (suc k) n =
    let e : n % 256 ^ suc k ≡ (n / 256 % 256 ^ k) * 256 + n % 256 = rw (pow-suc 256 k) (mod-mul n {m = 256 ^ k} {c = 256} (top_pos k) (omega arith)) in
    let lo : n % 256 ^ suc k % 256 ≡ n % 256 = omega arith in
    let hi : n % 256 ^ suc k / 256 ≡ n / 256 % 256 ^ k = omega arith in
    rw (lo, hi, le_bytes-mod k (n / 256))

-- the number of a number's bytes
pub le_at-bytes : (k n : ℕ) (rest : List ℕ) → le_at k (le_bytes k n ++ rest) 0 ≡ n % 256 ^ k
unfolding le_at le_bytes
le_at-bytes zero n rest = sym (mod-one n)
le_at-bytes (suc k) n rest =
    ap (λ m. n % 256 + 256 * m) (le_at-skip k (n % 256 ∷ []) (le_bytes k (n / 256) ++ rest) 0 ∙ le_at-bytes k (n / 256) rest)
    ∙ rw (pow-suc 256 k, mod-mul n {m = 256 ^ k} {c = 256} (top_pos k) (omega arith)) (omega arith)

module _ (s : List ℕ) (b : Bytes s) where
  -- a number of k bytes is below 256 ^ k
  pub le_at-lt : (k p : ℕ) → le_at k s p < 256 ^ k
  unfolding le_at
  le_at-lt zero p = omega arith
  le_at-lt (suc k) p = rw (pow-suc 256 k) (omega (arith, le_at-lt k (p + 1), b.byte p))

  -- the bytes of a number that was read are those that it was read from
  pub le_bytes-at : (k p : ℕ) → p + k ≤ length s → le_bytes k (le_at k s p) ≡ take k (drop p s)
  unfolding le_at le_bytes
  le_bytes-at zero p h = refl
  le_bytes-at (suc k) p h =
      let n = le_at k s (p + 1) in
      let lo : (get_or s p 0 + 256 * n) % 256 ≡ get_or s p 0 = omega (arith, b.byte p) in
      let hi : (get_or s p 0 + 256 * n) / 256 ≡ n = omega (arith, b.byte p) in
      let more : le_bytes k n ≡ take k (drop (suc p) s) = le_bytes-at k (p + 1) (omega arith) ∙ rw add-one in
      rw (lo, hi, more, drop-cons s p 0 (omega arith))

-- ---- numbers that are stored

pub length-stored : (k : ℕ) (s : List ℕ) (p n : ℕ) → length (stored k s p n) ≡ length s
unfolding stored
length-stored k s p n = length-sets s p (le_bytes k n)

-- what is before the place, the number's bytes, and what is after them
pub stored_is : (k : ℕ) (s : List ℕ) (p n : ℕ) → p + k ≤ length s → stored k s p n ≡ take p s ++ (le_bytes k n ++ drop (p + k) s)
unfolding stored
stored_is k s p n h =
    let e = length-le_bytes k n in
    sets-eq (le_bytes k n) s p (rw e h) ∙ append_assoc (take p s) (le_bytes k n) (drop (p + length (le_bytes k n)) s) ∙ rw e

-- the number that was stored is read
pub stored-read : (k : ℕ) (s : List ℕ) (p n : ℕ) → p + k ≤ length s → le_at k (stored k s p n) p ≡ n % 256 ^ k
stored-read k s p n h =
    let e : length (take p s) + 0 ≡ p = omega (arith, length-take-le p s (omega arith)) in
    rw (stored_is k s p n h) (ap (le_at k _) (sym e) ∙ le_at-skip k (take p s) (le_bytes k n ++ drop (p + k) s) 0 ∙ le_at-bytes k n (drop (p + k) s))

-- other places stay
get_or-sets : (s : List ℕ) (p : ℕ) (vs : List ℕ) (i : ℕ) → (p ≤ i → i < p + length vs → ⊥) → get_or (sets s p vs) i 0 ≡ get_or s i 0
get_or-sets s p [] i h = refl
get_or-sets s p (v ∷ vs) i h =
    get_or-sets (set s p v) (suc p) vs i (λ a b. h (omega arith) (omega arith)) ∙ get_or-set_other s p i v 0 (λ e. h (omega arith) (omega arith))

pub stored-before : (j k : ℕ) (s : List ℕ) (p n q : ℕ) → q + j ≤ p → le_at j (stored k s p n) q ≡ le_at j s q
unfolding stored
stored-before j k s p n q h = le_at-same j (sets s p (le_bytes k n)) s q q (λ i l. get_or-sets s p (le_bytes k n) (q + i) (λ a b. omega arith))

pub stored-after : (j k : ℕ) (s : List ℕ) (p n q : ℕ) → p + k ≤ q → le_at j (stored k s p n) q ≡ le_at j s q
unfolding stored
stored-after j k s p n q h = le_at-same j (sets s p (le_bytes k n)) s q q (λ i l. get_or-sets s p (le_bytes k n) (q + i) (λ a b. omega (arith, length-le_bytes k n)))

-- the lower j bytes stored, and then the upper k
sets_then : (s : List ℕ) (p : ℕ) (a b : List ℕ) → sets (sets s p a) (p + length a) b ≡ sets s p (a ++ b)
sets_then s p [] b = rw add-zero
sets_then s p (v ∷ a) b = let e : p + suc (length a) ≡ suc p + length a = omega arith in rw e (sets_then (set s p v) (suc p) a b)

pub stored-add : (j k : ℕ) (s : List ℕ) (p n : ℕ) → stored k (stored j s p (n % 256 ^ j)) (p + j) (n / 256 ^ j) ≡ stored (j + k) s p n
unfolding stored
stored-add j k s p n =
    rw (le_bytes-mod j n, le_bytes-add j k n) (ap (λ m. sets (sets s p (le_bytes j n)) (p + m) (le_bytes k (n / 256 ^ j))) (sym (length-le_bytes j n)) ∙ sets_then s p (le_bytes j n) (le_bytes k (n / 256 ^ j)))

-- the bytes that std makes of a number, from byte j on
std_bytes : (j k n : ℕ) → bytes_low_first j k n ≡ le_bytes k (n / 256 ^ j)
unfolding le_bytes
std_bytes j zero n = refl
std_bytes j (suc k) n = ap₂ (λ b bs. b ∷ bs) (byte j) (std_bytes (suc j) k n ∙ ap (le_bytes k) (ap (λ m. n / m) (pow-suc 256 j) ∙ sym (div-div-eq-div-mul n (256 ^ j) 256)))
  where
    byte : (j : ℕ) → byte_at j n ≡ n / 256 ^ j % 256
    byte zero = omega arith
    byte (suc j) = refl

-- and those written over the k bytes from p on
pub stored_mid : (k : ℕ) (s ys : List ℕ) (p n : ℕ) → p + k ≤ length s → ys ≡ bytes_low_first 0 k n → put_mid p (p + k - p) s ys ≡ stored k s p n
stored_mid k s ys p n h e =
    let bytes : ys ≡ le_bytes k n = e ∙ std_bytes 0 k n ∙ ap (le_bytes k) (omega arith) in
    rw (stored_is k s p n h, bytes, Post-is p (p + k) s (omega arith))
