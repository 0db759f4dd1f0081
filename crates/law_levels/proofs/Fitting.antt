-- Lengths of levels that fit each other: those of a pyramid do, they are no more than the depth and no more than 23; and on lengths that fit, `multi_idwt`,
-- `multi_dwt` and `dwt` say that they are done.
-- Looks into no filter.
use mathlib.Core.List.{List, [], ◌∷◌, ◌++◌}
use mathlib.Core.Logic.{⊎_elim}
use mathlib.Core.Path.{◌≡◌, refl, ap, ◌∙◌}
use Prim.Native.Nat.{ℕ, zero, suc, ◌+◌, ◌-◌, ◌*◌, ◌/◌, ◌^◌, ◌≤◌, ◌<◌}
use native.Mathlib.Nat.{mul-le-mul_right, le_of_mul-le-mul_left, pow-succ'}
use native.Mathlib.Omega.{arith}
use borrow.Author.Tests.{le-ltb, ne_eqb}
use lib.ListN.{length}
use lib.Pow.{pow_mono}
use Rattle.base_answers.specs.Answers.{told}
use Rattle.base_answers.specs.Checks.{ragged}
use Rattle.base_order.proofs.Order.{lt-or-le}
use Rattle.base_answers.proofs.Chain.{same}
use Rattle.base_answers.proofs.Passed.{Passing, pass-both, through}
use Rattle.base_lengths.specs.declared.Wavelet.{Wavelet}
use Rattle.base_lengths.specs.declared.Wavelet.TheVariants.{Cdf53, Cdf97}
use Rattle.base_lengths.specs.Lengths.{most_samples, approx_length, details_length, smallest_of, expected_approx, expected_details}
use Rattle.base_lengths.specs.Levels.{after_levels, count_at, depth_of, levels_of}
use Rattle.base_lengths.proofs.Depths.{step, one_more, two-below}
use Rattle.base_lengths.proofs.OneLevel.{expects, whole-passes, count-is}
use Rattle.base_samples.specs.Words.{words_of}
use Rattle.base_samples.proofs.Words.{length-words}
use Rattle.levels_filter.specs.declared.filter.Filter.{Filter}
use Rattle.levels_filter.specs.Filters.{width_of, wavelet_of}
use Rattle.levels_filter.specs.Pyramids.{lengths_of}
use Rattle.levels_filter.specs.Calls.{room_checks, multi_checks, say_multi, dwt_checks, say_dwt, Ready}
use Rattle.levels_filter.specs.Backward.{total, band_checks, whole_checks, back_checks, say_back, most_levels, Fits, Rising}
use Rattle.levels_filter.proofs.Cuts.{width-pos}
use Rattle.law_levels.proofs.Lengths.{count-at-total}

three-below : (w : Wavelet) → 3 ≤ smallest_of w
three-below Cdf53 = omega arith
three-below Cdf97 = omega arith

-- ---- lengths that fit

-- a level more, at the end
fits_more : (w : Wavelet) (a : ℕ) (ms : List ℕ) (m : ℕ) → Fits w a ms → smallest_of w ≤ a + total ms + m → a + total ms ≡ approx_length (a + total ms + m) → m ≡ details_length (a + total ms + m)
    → Fits w a (ms ++ (m ∷ []))
unfolding Fits total
fits_more w a [] m h p q r = (omega arith, omega arith, omega arith, tt)
fits_more w a (j ∷ ms) m h p q r =
    let s : a + (j + total ms) ≡ a + j + total ms = omega arith in
    (h.0, h.1, h.2, fits_more w (a + j) ms m h.3 (rw s at p) (rw s at q) (rw s at r))

-- the lengths of levels within the depth fit
pub lengths-fit : (w : Wavelet) (l n : ℕ) → l ≤ depth_of w n → Fits w (count_at l n) (lengths_of l n)
unfolding Fits after_levels lengths_of
lengths-fit w zero n h = tt
lengths-fit w (suc l) n h =
    let s = step (smallest_of w) (two-below w) l n h in
    let t = count-at-total l (approx_length n) in
    let g = s.0 in
    fits_more w (count_at l (approx_length n)) (lengths_of l (approx_length n)) (details_length n) (lengths-fit w l (approx_length n) s.1) (omega arith) (omega arith) (omega arith)

-- lengths that fit are levels within the depth
pub fits-depth : (w : Wavelet) (a : ℕ) (ms : List ℕ) → Fits w a ms → length ms + depth_of w a ≡ depth_of w (a + total ms)
unfolding Fits total
fits-depth w a [] h = let s : a ≡ a + 0 = omega arith in omega (arith, ap (depth_of w) s)
fits-depth w a (m ∷ ms) h =
    let s : a + m + total ms ≡ a + (m + total ms) = omega arith in
    omega (arith, one_more (smallest_of w) (two-below w) (a + m) h.0, ap (depth_of w) h.1, fits-depth w (a + m) ms h.3, ap (depth_of w) s)

-- each level has at least twice as many, less one
fits-double : (w : Wavelet) (b : ℕ) (ms : List ℕ) → Fits w (suc b) ms → b * 2 ^ length ms + 1 ≤ suc b + total ms
unfolding Fits total
fits-double w b [] h = omega arith
fits-double w b (m ∷ ms) h =
    let s : suc b + m ≡ suc (b + m) = omega arith in
    let ih = fits-double w (b + m) ms (rw s at h.3) in
    let t : 2 * b ≤ b + m = omega (arith, h.1) in
    omega (arith, mul-le-mul_right (2 ^ length ms) t, pow-succ' 2 (length ms), ap (λ (i : ℕ). b * i) (pow-succ' 2 (length ms)))

-- the samples of the deepest level are some
fits-some : (w : Wavelet) (a : ℕ) (ms : List ℕ) → 0 < length ms → Fits w a ms → 2 ≤ a
unfolding Fits
fits-some w a [] p h = absurd (omega arith)
fits-some w a (m ∷ ms) p h = omega (arith, three-below w, h.0, h.1)

-- "more than 23 lengths" do not fit into 16,777,216 samples
pub few-lengths : (w : Wavelet) (a : ℕ) (ms : List ℕ) → Fits w a ms → a + total ms ≤ most_samples → length ms ≤ most_levels
few-lengths w a ms h s = ⊎_elim (λ g. omega arith) (λ g. absurd (many a h s (fits-some w a ms (omega arith) h) g)) (lt-or-le (length ms) 24)
  where
    many : (a : ℕ) → Fits w a ms → a + total ms ≤ most_samples → 2 ≤ a → 24 ≤ length ms → ⊥
    many zero h s t g = omega arith
    many (suc b) h s t g = let p : 2 ^ 24 ≤ 2 ^ length ms = pow_mono g in let o : 1 ≤ b = omega arith in omega (arith, fits-double w b ms h, mul-le-mul_right (2 ^ length ms) o)

-- and the checks of the bands let them by
pub bands-pass : (w : Wavelet) (a : ℕ) (ms : List ℕ) → Fits w a ms → Passing (band_checks w a ms)
unfolding band_checks Fits
bands-pass w a [] h = tt
bands-pass w a (m ∷ ms) h =
    let e = expects w (a + m) h.0 in
    (same a (expected_approx (a + m)) (h.1 ∙ e.1), (same m (expected_details w (a + m)) (h.2 ∙ e.2), bands-pass w (a + m) ms h.3))

-- ---- calls on lengths that fit

-- `multi_idwt` on bands whose lengths fit is done: c lengths in ls, and work areas of p and q samples
pub back_fits : (f : Filter) (a c p q : ℕ) (ls : List ℕ) (b d o u v : ℕ) → b ≡ width_of f * a → Rising f a (words_of 4 ls) d u v o → length ls ≡ 4 * c → 0 < c → u ≡ width_of f * p → v ≡ width_of f * q
    → say_back f b d ls o u v ≡ told 0 0
unfolding say_back
back_fits f a c p q ls b d o u v eb r el some eu ev =
    let k = width_of f in
    let kp = width-pos f in
    let w = wavelet_of f in
    let ms = words_of 4 ls in
    let n = a + total ms in
    let count : length ms ≡ c = length-words 4 ls ∙ count-is 4 c (length ls) (omega arith) el in
    let two : 2 ≤ a = fits-some w a ms (omega arith) r.fits in
    let up : n ≤ p = le_of_mul-le-mul_left (rw eu at r.first) kp in
    let vp : n ≤ q = le_of_mul-le-mul_left (rw ev at r.second) kp in
    through (whole_checks k b d (length ls) o u v ++ back_checks f (b / k) (d / k) ms (o / k) (u / k) (v / k)) (told 0 0)
    (rw (count-is k a b kp eb, count-is k (total ms) d kp r.details, count-is k n o kp r.output, count-is k p u kp eu, count-is k q v kp ev) (
      whole-passes k a b eb,
      (
        whole-passes k (total ms) d r.details,
        (
          whole-passes 4 c (length ls) el,
          (
            whole-passes k n o r.output,
            (
              whole-passes k p u eu,
              (
                whole-passes k q v ev,
                (
                  le-ltb most_samples n r.short,
                  (
                    le-ltb most_samples a (omega (arith, r.short)),
                    (
                      le-ltb most_samples (total ms) (omega (arith, r.short)),
                      (
                        le-ltb most_levels (length ms) (few-lengths w a ms r.fits r.short),
                        (
                          ne_eqb (length ms) 0 (λ z. omega arith),
                          (
                            ne_eqb a 0 (λ z. omega arith),
                            (
                              same (total ms) (total ms) refl,
                              pass-both (band_checks w a ms) (room_checks n n p q) (bands-pass w a ms r.fits) (same n n refl, (le-ltb p n up, (le-ltb q n vp, tt))),
                            ),
                          ),
                        ),
                      ),
                    ),
                  ),
                ),
              ),
            ),
          ),
        ),
      ),
    ))

-- `multi_dwt` on samples that have the levels is done: work areas of p and q samples
pub multi-fits : (f : Filter) (l n p q x o u v : ℕ) → Ready f (levels_of l) n x u v → o ≡ width_of f * n → u ≡ width_of f * p → v ≡ width_of f * q → say_multi f l x o u v ≡ told 0 0
unfolding say_multi
multi-fits f l n p q x o u v r eo eu ev =
    let k = width_of f in
    let kp = width-pos f in
    let up : n ≤ p = le_of_mul-le-mul_left (rw eu at r.first) kp in
    let vp : n ≤ q = le_of_mul-le-mul_left (rw ev at r.second) kp in
    through (ragged k x ∷ ragged k o ∷ ragged k u ∷ ragged k v ∷ multi_checks f l (x / k) (o / k) (u / k) (v / k)) (told 0 0)
    (rw (count-is k n x kp r.whole, count-is k n o kp eo, count-is k p u kp eu, count-is k q v kp ev) (
      whole-passes k n x r.whole,
      (
        whole-passes k n o eo,
        (
          whole-passes k p u eu,
          (
            whole-passes k q v ev,
            (le-ltb most_samples n r.short, (le-ltb (depth_of (wavelet_of f) n) (levels_of l) r.deep, (same n n refl, (le-ltb p n up, (le-ltb q n vp, tt))))),
          ),
        ),
      ),
    ))

-- `dwt` on samples that have the levels, into bands of the last level's lengths, is done: work areas of p and q samples
pub dwt-fits : (f : Filter) (l n p q x a d u v : ℕ) → Ready f (levels_of l) n x u v
    → a ≡ width_of f * approx_length (count_at (levels_of l - 1) n) → d ≡ width_of f * details_length (count_at (levels_of l - 1) n) → u ≡ width_of f * p → v ≡ width_of f * q → say_dwt f l x a d u v ≡ told 0 0
unfolding say_dwt
dwt-fits f l n p q x a d u v r ea ed eu ev =
    let k = width_of f in
    let kp = width-pos f in
    let m = count_at (levels_of l - 1) n in
    let up : n ≤ p = le_of_mul-le-mul_left (rw eu at r.first) kp in
    let vp : n ≤ q = le_of_mul-le-mul_left (rw ev at r.second) kp in
    through (ragged k x ∷ ragged k a ∷ ragged k d ∷ ragged k u ∷ ragged k v ∷ dwt_checks f l (x / k) (a / k) (d / k) (u / k) (v / k)) (told 0 0)
    (rw (count-is k n x kp r.whole, count-is k (approx_length m) a kp ea, count-is k (details_length m) d kp ed, count-is k p u kp eu, count-is k q v kp ev) (
      whole-passes k n x r.whole,
      (
        whole-passes k (approx_length m) a ea,
        (
          whole-passes k (details_length m) d ed,
          (
            whole-passes k p u eu,
            (
              whole-passes k q v ev,
              (
                le-ltb most_samples n r.short,
                (
                  le-ltb (depth_of (wavelet_of f) n) (levels_of l) r.deep,
                  (same (approx_length m) (approx_length m) refl, (same (details_length m) (details_length m) refl, (le-ltb p n up, (le-ltb q n vp, tt)))),
                ),
              ),
            ),
          ),
        ),
      ),
    ))
