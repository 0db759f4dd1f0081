-- The depth: the largest number of levels that run, and one turn of the loop that counts them, over a smallest input m of at least 2; and of 5/3 by powers of two and by binary digits.
use mathlib.Core.Logic.{⊎_elim}
use mathlib.Core.Path.{◌≡◌, refl, sym, ap}
use Prim.Native.Nat.{ℕ, zero, suc, ◌+◌, ◌-◌, ◌*◌, ◌^◌, ◌≤◌, ◌<◌}
use native.Mathlib.Nat.{pow-succ'}
use native.Mathlib.Omega.{arith}
use borrow.Author.Tests.{le-ltb, lt-ltb}
use lib.Count.{count_leading_zeros, leading_of_zero, leading_top}
use lib.Pow.{pow_pos}
use Rattle.base_order.proofs.Order.{lt-or-le}
use Rattle.base_lengths.specs.declared.Wavelet.{Wavelet}
use Rattle.base_lengths.specs.declared.Wavelet.TheVariants.{Cdf53, Cdf97}
use Rattle.base_lengths.specs.Lengths.{smallest_of, approx_length}
use Rattle.base_lengths.specs.Levels.{after_levels, count_at, Runs, depth_within, depth_from, depth_of}

-- an input that is too short has no level
none_within : (k m n : ℕ) → n < m → depth_within k m n ≡ 0
unfolding depth_within
none_within zero m n h = refl
none_within (suc k) m n h = simp (lt-ltb n m h)

-- past the number itself, how far is counted makes no difference
enough : (k j m n : ℕ) → 2 ≤ m → n ≤ k → n ≤ j → depth_within k m n ≡ depth_within j m n
unfolding depth_within
enough zero j m n h p q = sym (none_within j m n (omega arith))
enough (suc k) zero m n h p q = none_within (suc k) m n (omega arith)
enough (suc k) (suc j) m n h p q =
    ⊎_elim
    (λ l. simp (lt-ltb n m l))
    (λ l. simp (le-ltb n m l) (ap suc (enough k j m (approx_length n) h (omega arith) (omega arith))))
    (lt-or-le n m)

-- one level more
more_within : (k m n : ℕ) → n ≡ k → 2 ≤ m → m ≤ n → depth_within k m n ≡ suc (depth_within (approx_length n) m (approx_length n))
unfolding depth_within
more_within zero m n e t h = absurd (let z : 1 ≤ 0 = omega arith in omega arith)
more_within (suc k) m n e t h = simp (le-ltb n m h) (ap suc (enough k (approx_length n) m (approx_length n) t (omega arith) (omega arith)))

-- each input of levels that run is long enough
runs-places : (m l j n : ℕ) → Runs m l n → j < l → m ≤ count_at j n
unfolding Runs after_levels
runs-places m zero j n r h = absurd (omega arith)
runs-places m (suc l) zero n r h = r.0
runs-places m (suc l) (suc j) n r h = runs-places m l j (approx_length n) r.1 (omega arith)

module _ (m : ℕ) (t : 2 ≤ m) where
  -- an input that is too short has no level
  pub too_short : (n : ℕ) → n < m → depth_from m n ≡ 0
  unfolding depth_from
  too_short n h = none_within n m n h

  -- one level, and then those of its approximations
  pub one_more : (n : ℕ) → m ≤ n → depth_from m n ≡ suc (depth_from m (approx_length n))
  unfolding depth_from
  one_more n h = more_within n m n refl t h

  -- one level within the depth: its input is long enough, and its approximations have the rest
  pub step : (l n : ℕ) → suc l ≤ depth_from m n → (m ≤ n) × (l ≤ depth_from m (approx_length n))
  step l n h =
      ⊎_elim
      (λ b. absurd (omega (arith, too_short n b)))
      (λ b. (b, omega (arith, one_more n b)))
      (lt-or-le n m)

  -- the depth is the largest number of levels that run: those up to it run, and no more
  pub depth-runs : (l n : ℕ) → l ≤ depth_from m n → Runs m l n
  unfolding Runs
  depth-runs zero n h = tt
  depth-runs (suc l) n h = let s = step l n h in (s.0, depth-runs l (approx_length n) s.1)

  pub runs-depth : (l n : ℕ) → Runs m l n → l ≤ depth_from m n
  unfolding Runs
  runs-depth zero n r = omega arith
  runs-depth (suc l) n r = omega (arith, one_more n r.0, runs-depth l (approx_length n) r.1)

  -- at each level within the depth the input is long enough
  pub long-enough : (l j n : ℕ) → l ≤ depth_from m n → j < l → m ≤ count_at j n
  long-enough l j n h k = runs-places m l j n (depth-runs l n h) k

  -- one turn of the loop that counts: what is left has one level less
  pub depth-turn : (n left levels : ℕ) → levels + depth_from m left ≡ depth_from m n → m ≤ left → levels + 1 + depth_from m (approx_length left) ≡ depth_from m n
  depth-turn n left levels e h = omega (arith, one_more left h)

  -- and its end
  pub depth-end : (n left levels : ℕ) → levels + depth_from m left ≡ depth_from m n → left < m → levels ≡ depth_from m n
  depth-end n left levels e h = omega (arith, too_short left h)

pub two-below : (w : Wavelet) → 2 ≤ smallest_of w
two-below Cdf53 = omega arith
two-below Cdf97 = omega arith

three-below : (w : Wavelet) → 3 ≤ smallest_of w
three-below Cdf53 = omega arith
three-below Cdf97 = omega arith

-- no number of samples has more levels than the power of two above it
pub depth-at-most : (w : Wavelet) (k n : ℕ) → n ≤ 2 ^ suc k → depth_of w n ≤ k
depth-at-most w zero n h = omega (arith, too_short (smallest_of w) (two-below w) n (omega (arith, h, three-below w)))
depth-at-most w (suc k) n h =
    let e : 2 ^ suc (suc k) ≡ 2 * 2 ^ suc k = pow-succ' 2 (suc k) in
    ⊎_elim
    (λ (g : n < smallest_of w). omega (arith, too_short (smallest_of w) (two-below w) n g))
    (λ (g : smallest_of w ≤ n). omega (arith, one_more (smallest_of w) (two-below w) n g, depth-at-most w k (approx_length n) (omega (arith, h, e))))
    (lt-or-le n (smallest_of w))

-- in 5/3, more than 2^k samples have k levels or more
pub depth-at-least : (k n : ℕ) → 2 ^ k < n → k ≤ depth_of Cdf53 n
depth-at-least zero n h = omega arith
depth-at-least (suc k) n h =
    let e : 2 ^ suc k ≡ 2 * 2 ^ k = pow-succ' 2 k in
    omega (arith, one_more 3 (omega arith) n (omega (arith, pow_pos k)), depth-at-least k (approx_length n) (omega arith))

-- so the 5/3 depth of 2 samples and more is known by the powers of two beside them
pub depth-between : (k n : ℕ) → 2 ^ k < n → n ≤ 2 ^ suc k → depth_of Cdf53 n ≡ k
depth-between k n lo hi = omega (arith, depth-at-most Cdf53 k n hi, depth-at-least k n lo)

-- at a power of two
pub depth-power : (k : ℕ) → depth_of Cdf53 (2 ^ suc k) ≡ k
depth-power k = depth-between k (2 ^ suc k) (omega (arith, pow-succ' 2 k, pow_pos k)) (omega arith)

-- and the 5/3 depth of n is one less than the digits of n - 1: b - 1 - z where z zeros stand above them in b digits. Of 0 and 1 both sides are 0, since a difference stops at 0.
pub depth-digits : (b n : ℕ) → n ≤ 2 ^ b → b - 1 - count_leading_zeros b (n - 1) ≡ depth_of Cdf53 n
depth-digits b n h =
    ⊎_elim
    (λ (g : n < 2).
    let e : n - 1 ≡ 0 = omega arith in
    omega (arith, ap (count_leading_zeros b) e, leading_of_zero b, too_short 3 (omega arith) n (omega arith)))
    (λ (g : 2 ≤ n).
    let (j, e, lo, hi) = leading_top b (n - 1) (omega arith) (omega arith) in
    omega (arith, depth-between j n (omega arith) (omega arith)))
    (lt-or-le n 2)

-- levels within the depth: those that are left after i of them are within the depth of what is left
pub depth-rest : (w : Wavelet) (i l n : ℕ) → i ≤ l → l ≤ depth_of w n → l - i ≤ depth_of w (count_at i n)
unfolding after_levels
depth-rest w zero l n h d = omega arith
depth-rest w (suc i) l n h d =
    let e : suc (l - 1) ≤ depth_of w n = omega arith in
    let s = step (smallest_of w) (two-below w) (l - 1) n e in
    let r = depth-rest w i (l - 1) (approx_length n) (omega arith) s.1 in
    omega (arith, r)
