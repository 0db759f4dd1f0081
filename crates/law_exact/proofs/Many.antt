-- The exact case over many levels: inputs that are whole numbers of size at most 2 ^ (prec - 4 L), and L levels of the float 5/3 filter. Over the format.
use mathlib.Core.List.{List}
use mathlib.Core.Path.{◌≡◌, refl, sym, ap, ◌∙◌}
use Prim.Native.Nat.{ℕ, zero, suc, ◌+◌, ◌-◌, ◌*◌, ◌^◌, ◌≤◌, ◌<◌}
use native.Mathlib.Nat.{pow-succ', mul-le-mul_right, mul-le-mul_left, le_trans, le_refl, mul-one}
use native.Mathlib.Omega.{arith}
use lib.Ieee.{Float, nan, Format, binary32, binary64, prec, low}
use lib.IntN.{ℤ, pos, ◌*ℤ◌}
use lib.ListN.{length, get_or}
use lib.Pow.{pow-add, pow_mono}
use Rattle.base_lengths.specs.declared.Wavelet.TheVariants.{Cdf53}
use Rattle.base_lengths.specs.Levels.{after_levels, there_and_back, Runs}
use Rattle.base_lengths.proofs.Depths.{depth-runs, runs-depth}
use Rattle.base_samples.proofs.Words.{length-tabulate, get_or-tabulate}
use Rattle.filter_floats.specs.Bands.{approxs, details}
use Rattle.law_exact.specs.Exact.{Are, FormatHolds, details2, approximations8}
use Rattle.law_exact.specs.Levels.{most, floats_at, floats_back, numbers_at, times, Exact}
use Rattle.law_exact.proofs.Whole.{is-scaled, is_eq, abs-mul}
use Rattle.law_exact.proofs.Level.{details-exact, approximations-exact, inverse-exact, length-approximations8}

-- ---- the same numbers in other words

moved : {k b k' b' : ℕ} {x : List Float} {z : List ℤ} → k ≡ k' → b ≤ b' → Are k b x z → Are k' b' x z
moved e h r = record { same = r.same; each = λ i l. record { is = rw e at (r.each i l).is; size = le_trans (r.each i l).size h } }

-- over a finer scale
are-scaled : (k b j : ℕ) (x : List Float) (z : List ℤ) → Are k b x z → Are (k + j) (b * 2 ^ j) x (times (2 ^ j) z)
unfolding times
are-scaled k b j x z r = record {
  same = r.same ∙ sym (length-tabulate (length z) g);
  each = λ i l.
      let l' : i < length z = rw (length-tabulate (length z) g) at l in
      rw (get_or-tabulate (length z) g i (pos 0) l')
      (record { is = is-scaled (get_or x i nan) (get_or z i (pos 0)) k j (r.each i l').is; size = rw (abs-mul (get_or z i (pos 0)) (2 ^ j)) (mul-le-mul_right (2 ^ j) (r.each i l').size) });
}
  where
    g : ℕ → ℤ
    g i = get_or z i (pos 0) *ℤ pos (2 ^ j)

-- ---- a format that holds l levels

record HoldsLevels (f : Format) (l k b : ℕ) : Type 0 where
  fine : k + 3 * l ≤ low f
  wide : b * 16 ^ l ≤ 2 ^ prec f

sixteen : (l : ℕ) → 1 ≤ 16 ^ l
sixteen zero = omega arith
sixteen (suc l) = omega (arith, pow-succ' 16 l, sixteen l)

-- for the first of them, and for the others
first : {f : Format} {l k b : ℕ} → HoldsLevels f (suc l) k b → FormatHolds f k b
first {f} {l} {k} {b} r = record { fine = omega arith; wide = omega (arith, ap (λ (x : ℕ). b * x) (pow-succ' 16 l), mul-le-mul_left (16 * b) (sixteen l)) }

others : {f : Format} {l k b : ℕ} → HoldsLevels f (suc l) k b → HoldsLevels f l (k + 3) (16 * b)
others {f} {l} {k} {b} r = record { fine = omega arith; wide = omega (arith, ap (λ (x : ℕ). b * x) (pow-succ' 16 l)) }

-- ---- level by level

-- the first level's approximations, and that the others run on them
step : (f : Format) (l k b : ℕ) (x : List Float) (z : List ℤ) → HoldsLevels f (suc l) k b → Runs 3 (suc l) (length z) → Are k b x z → Are (k + 3) (16 * b) (approxs f Cdf53 x) (approximations8 z) × Runs 3 l (length (approximations8 z))
unfolding Runs
step f l k b x z q d r = (approximations-exact f k b (first q) x z (omega (arith, d.0)) r, rw (length-approximations8 z) d.1)

after-exact : (f : Format) (l k b : ℕ) (x : List Float) (z : List ℤ) → HoldsLevels f l k b → Runs 3 l (length z) → Are k b x z → Are (k + 3 * l) (b * 16 ^ l) (floats_at f l x) (numbers_at l z)
unfolding after_levels
after-exact f zero k b x z q d r = moved (omega arith) (omega (arith, mul-one b)) r
after-exact f (suc l) k b x z q d r =
    let s = step f l k b x z q d r in
    moved (omega arith) (omega (arith, ap (λ (x : ℕ). b * x) (pow-succ' 16 l)))
    (after-exact f l (k + 3) (16 * b) (approxs f Cdf53 x) (approximations8 z) (others q) s.1 s.0)

floats_back-exact : (f : Format) (l k b : ℕ) (x : List Float) (z : List ℤ) → HoldsLevels f l k b → Runs 3 l (length z) → Are k b x z → Are k b (floats_back f l x) z
unfolding there_and_back Runs
floats_back-exact f zero k b x z q d r = r
floats_back-exact f (suc l) k b x z q d r =
    let s = step f l k b x z q d r in
    inverse-exact f k b (first q) _ (details f Cdf53 x) z (omega (arith, d.0)) (λ i h. (r.each i h).size)
    (floats_back-exact f l (k + 3) (16 * b) (approxs f Cdf53 x) (approximations8 z) (others q) s.1 s.0) (details-exact f k b (first q) x z r)

-- ---- the exact case

pow16 : (l : ℕ) → 16 ^ l ≡ 2 ^ (4 * l)
pow16 zero = refl
pow16 (suc l) =
    let e : 4 * suc l ≡ 4 + 4 * l = omega arith in
    pow-succ' 16 l ∙ omega (arith, pow16 l, ap (λ (n : ℕ). 2 ^ n) e, pow-add 2 4 (4 * l))

shallow : (f : Format) (n : ℕ) → 4 * n ≤ prec f → 3 * n ≤ low f
shallow binary32 n h = omega arith
shallow binary64 n h = omega arith

holds-levels : (f : Format) (n l : ℕ) → 4 * n ≤ prec f → l ≤ n → HoldsLevels f l 0 (most f n)
holds-levels f n l h g = record {
  fine = omega (arith, shallow f n h);
  wide = rw (pow16 l, ← pow-add 2 (prec f - 4 * n) (4 * l)) (pow_mono (omega arith));
}

fewer : (n l m : ℕ) → l ≤ n → Runs 3 n m → Runs 3 l m
fewer n l m h d = depth-runs 3 (omega arith) l m (le_trans h (runs-depth 3 (omega arith) n m d))

pub exact : (f : Format) (levels : ℕ) → 4 * levels ≤ prec f → (x : List Float) (z : List ℤ) → Runs 3 levels (length z) → Are 0 (most f levels) x z → Exact f levels x z
exact f n h x z d r = record {
  approximations-are = λ l g. let q = holds-levels f n (suc l) h g in moved (omega arith) q.wide (after-exact f (suc l) 0 (most f n) x z q (fewer n (suc l) (length z) g d) r);
  details-are = λ l g.
      let b = most f n * 16 ^ l in
      let q : HoldsLevels f (suc l) 0 (most f n) = holds-levels f n (suc l) h g in
      let w : 16 * b ≤ 2 ^ prec f = omega (arith, ap (λ (m : ℕ). most f n * m) (pow-succ' 16 l)) in
      let a : Are (0 + 3 * l) b (floats_at f l x) (numbers_at l z) = after-exact f l 0 (most f n) x z (holds-levels f n l h (omega arith)) (fewer n l (length z) (omega arith) d) r in
      moved (omega arith) (omega arith)
      (are-scaled (0 + 3 * l + 1) (4 * b) 2 (details f Cdf53 (floats_at f l x)) (details2 (numbers_at l z))
      (details-exact f (0 + 3 * l) b (record { fine = omega arith; wide = w }) (floats_at f l x) (numbers_at l z) a));
  inputs-back = λ i l. is_eq _ _ (get_or z i (pos 0)) 0 (again.each i l).is (r.each i l).is;
  lengths-back = again.same ∙ sym r.same;
}
  where
    again : Are 0 (most f n) (floats_back f n x) z
    again = floats_back-exact f n 0 (most f n) x z (holds-levels f n n h (le_refl n)) d r
