-- T.800 at every level: a done `dwt`, `multi_dwt` or `multi_idwt` of an integer filter leaves the bytes of T.800's steps, level by level, as they are kept.
use mathlib.Core.Bool.{true}
use mathlib.Core.List.{List, [], ◌∷◌, ◌++◌, map, map-append}
use mathlib.Core.Path.{◌≡◌, refl, sym, ap, ap₂, ◌∙◌}
use Prim.Native.Nat.{ℕ, zero, suc, ◌+◌, ◌-◌, ◌*◌, ◌/◌, ◌^◌, ◌≤◌, ◌<◌}
use native.Mathlib.Nat.{mul-add, mul-suc, mul-le-mul_left}
use native.Mathlib.Omega.{arith}
use lib.IntN.{ℤ, pos}
use lib.ListN.{length, take, drop, length-drop}
use lib.Seq.{ext_get_or, get_or-take, get_or-drop, length-take-le}
use Rattle.base_answers.specs.declared.err.Answer.{Answer}
use Rattle.base_answers.specs.Answers.{done}
use Rattle.base_answers.proofs.Endings.{left-done}
use Rattle.base_lengths.specs.Lengths.{approx_length, details_length, smallest_of}
use Rattle.base_lengths.specs.Levels.{after_levels, count_at, depth_of, levels_of}
use Rattle.base_lengths.proofs.Depths.{long-enough, two-below}
use Rattle.base_lengths.proofs.OneLevel.{count-is}
use Rattle.base_samples.specs.Le.{Bytes, le_at}
use Rattle.base_samples.specs.Words.{word_at, words_of, bytes_of}
use Rattle.base_samples.specs.Integers.{val, residue, wrap, decode, encode}
use Rattle.base_samples.proofs.LeLaws.{le_at-take, le_at-drop}
use Rattle.base_samples.proofs.Words.{bytes-append, length-words}
use Rattle.base_samples.proofs.IntegerLaws.{length-decode, at-decode}
use Rattle.filter_cdf53i.specs.T800.{highs, lows, backs}
use Rattle.law_levels.specs.T800Levels.{lows_at, highs_after, all_highs, backs_at}
use Rattle.levels_filter.specs.declared.filter.Filter.{Filter}
use Rattle.levels_filter.specs.Filters.{width_of, wavelet_of, high_of, back_of, Integers, low_of}
use Rattle.levels_filter.specs.Pyramids.{approx_at, pyramid, samples_of, details_at}
use Rattle.levels_filter.specs.Calls.{say_multi, Multi, say_dwt, Dwt}
use Rattle.levels_filter.specs.Backward.{total, say_back, MultiBack, Fits}
use Rattle.levels_filter.proofs.Cuts.{width-pos}
use Rattle.base_lengths.proofs.Counts.{after_last}
use Rattle.levels_filter.proofs.Multi.{multi-ready}
use Rattle.levels_filter.proofs.Backs.{back-ready}
use Rattle.levels_filter.proofs.LastLevel.{dwt-ready, dwt-gives}
use Rattle.law_levels.proofs.Lengths.{length-approx, length_back}
use Rattle.law_levels.proofs.Trips.{pyramid-parts, details-deeper, length-samples}
use Rattle.law_levels.proofs.Undone.{undoes}
use Rattle.law_levels.proofs.OneLevel.{kept}

-- ---- samples in parts of bytes

encode-none : (k : ℕ) → [] ≡ encode k []
unfolding encode bytes_of
encode-none k = refl

encode-append : (k : ℕ) (a b : List ℤ) → encode k (a ++ b) ≡ encode k a ++ encode k b
unfolding encode
encode-append k a b = ap (bytes_of k) (map-append (residue (256 ^ k)) a b) ∙ bytes-append k (map (residue (256 ^ k)) a) (map (residue (256 ^ k)) b)

-- the first m samples of d, which holds m and t more, and the others
module _ (k m t : ℕ) (d : List ℕ) (p : 0 < k) (e : length d ≡ k * (m + t)) where
  whole-count : length (decode k d) ≡ m + t
  whole-count = length-decode k d ∙ count-is k (m + t) (length d) p e

  front-size : length (take (k * m) d) ≡ k * m
  front-size = length-take-le (k * m) d (omega (arith, mul-add k m t))

  front-count : length (take (k * m) d) / k ≡ m
  front-count = count-is k m (length (take (k * m) d)) p front-size

  rest-size : length (drop (k * m) d) ≡ k * t
  rest-size = length-drop (k * m) d ∙ omega (arith, mul-add k m t)

  rest-count : length (drop (k * m) d) / k ≡ t
  rest-count = count-is k t (length (drop (k * m) d)) p rest-size

  decode-take : decode k (take (k * m) d) ≡ take m (decode k d)
  unfolding word_at
  decode-take =
      let s = take (k * m) d in
      let ls : length (decode k s) ≡ m = length-decode k s ∙ front-count in
      ext_get_or (pos 0) (decode k s) (take m (decode k d)) (ls ∙ sym (length-take-le m (decode k d) (omega (arith, whole-count))))
      (λ i h.
      let hi : i < m = omega (arith, ls, h) in
      at-decode k s i (omega (arith, front-count))
      ∙ ap (val (256 ^ k)) (le_at-take k (k * m) d (k * i) (omega (arith, mul-suc k i, mul-le-mul_left k hi)))
      ∙ sym (get_or-take m (decode k d) i (pos 0) hi ∙ at-decode k d i (omega (arith, length-decode k d, whole-count))))

  decode-drop : decode k (drop (k * m) d) ≡ drop m (decode k d)
  unfolding word_at
  decode-drop =
      let s = drop (k * m) d in
      let ls : length (decode k s) ≡ t = length-decode k s ∙ rest-count in
      ext_get_or (pos 0) (decode k s) (drop m (decode k d)) (ls ∙ sym (length-drop m (decode k d) ∙ omega (arith, whole-count)))
      (λ i h.
      let hi : i < t = omega (arith, ls, h) in
      at-decode k s i (omega (arith, rest-count))
      ∙ ap (val (256 ^ k)) (le_at-drop k (k * m) d (k * i) ∙ ap (le_at k d) (sym (mul-add k m i)))
      ∙ sym (get_or-drop m (decode k d) i (pos 0) ∙ at-decode k d (m + i) (omega (arith, length-decode k d, whole-count))))

-- ---- many levels, of n samples in x

module _ (f : Filter) (i : Integers f) (x : List ℕ) (n : ℕ) (e : length x ≡ width_of f * n) where
  enough : (l : ℕ) → suc l ≤ depth_of (wavelet_of f) n → 2 ≤ length (approx_at f l x) / width_of f
  enough l h =
      let w = wavelet_of f in
      let c = count-is (width_of f) (count_at l n) (length (approx_at f l x)) (width-pos f) (length-approx f l x n e) in
      omega (arith, c, long-enough (smallest_of w) (two-below w) (suc l) l n h (omega arith), two-below w)

  -- what the approximations of level l hold
  pub approx-read : (l : ℕ) → l ≤ depth_of (wavelet_of f) n → decode (width_of f) (approx_at f l x) ≡ lows_at (wrap (width_of f)) l (decode (width_of f) x)
  unfolding after_levels
  approx-read zero h = refl
  approx-read (suc l) h =
      ap (decode (width_of f)) (after_last (low_of f) l x)
      ∙ (kept f i).low_held (approx_at f l x) (enough l h)
      ∙ ap (lows (wrap (width_of f))) (approx-read l (omega arith))
      ∙ sym (after_last (lows (wrap (width_of f))) l (decode (width_of f) x))

  -- level 1 or more is T.800's, as it is kept
  pub approx-t800 : (l : ℕ) → 1 ≤ l → l ≤ depth_of (wavelet_of f) n → approx_at f l x ≡ encode (width_of f) (lows_at (wrap (width_of f)) l (decode (width_of f) x))
  unfolding after_levels
  approx-t800 zero p h = absurd (omega arith)
  approx-t800 (suc l) p h =
      after_last (low_of f) l x
      ∙ (kept f i).low-kept (approx_at f l x) (enough l h)
      ∙ ap (λ (z : List ℤ). encode (width_of f) (lows (wrap (width_of f)) z)) (approx-read l (omega arith))
      ∙ ap (encode (width_of f)) (sym (after_last (lows (wrap (width_of f))) l (decode (width_of f) x)))

  -- and level 0, which is the samples, where they are bytes
  pub level-t800 : (l : ℕ) → Bytes x → l ≤ depth_of (wavelet_of f) n → approx_at f l x ≡ encode (width_of f) (lows_at (wrap (width_of f)) l (decode (width_of f) x))
  unfolding after_levels
  level-t800 zero b h = sym ((kept f i).same_bytes x n b e)
  level-t800 (suc l) b h = approx-t800 (suc l) (omega arith) h

  -- the details of level l + 1
  pub high-t800 : (l : ℕ) → suc l ≤ depth_of (wavelet_of f) n → high_of f (approx_at f l x) ≡ encode (width_of f) (highs_after (wrap (width_of f)) l (decode (width_of f) x))
  unfolding highs_after
  high-t800 l h =
      (kept f i).high-kept (approx_at f l x) (enough l h)
      ∙ ap (λ (z : List ℤ). encode (width_of f) (highs (wrap (width_of f)) z)) (approx-read l (omega arith))

  -- the details of all levels
  pub details-t800 : (l : ℕ) → l ≤ depth_of (wavelet_of f) n → details_at f l x ≡ encode (width_of f) (all_highs (wrap (width_of f)) l (decode (width_of f) x))
  unfolding details_at all_highs
  details-t800 zero h = encode-none (width_of f)
  details-t800 (suc l) h =
      let k = width_of f in
      details-deeper f l x
      ∙ ap₂ (λ (y z : List ℕ). y ++ z) (high-t800 l h) (details-t800 l (omega arith))
      ∙ sym (encode-append k (highs_after (wrap k) l (decode k x)) (all_highs (wrap k) l (decode k x)))

-- ---- and back

module _ (f : Filter) (i : Integers f) where
  pub samples-read : (ms : List ℕ) (a d : List ℕ) (n : ℕ) → length a ≡ width_of f * n → length d ≡ width_of f * total ms → Fits (wavelet_of f) n ms
      → decode (width_of f) (samples_of f a d ms) ≡ backs_at (wrap (width_of f)) (decode (width_of f) a) (decode (width_of f) d) ms
  unfolding samples_of backs_at total Fits
  samples-read [] a d n ea ed h = refl
  samples-read (m ∷ ms) a d n ea ed h =
      let k = width_of f in
      let kp = width-pos f in
      let t = take (k * m) d in
      let c = drop (k * m) d in
      let b = back_of f a t in
      let et : length t ≡ k * m = front-size k m (total ms) d kp ed in
      let ec : length c ≡ k * total ms = rest-size k m (total ms) d kp ed in
      let eb : length b ≡ k * (n + m) = length_back f a t n m ea et ∙ omega (arith, ea, et, mul-add k n m) in
      let ca : length a / k ≡ approx_length (n + m) = count-is k n (length a) kp ea ∙ h.1 in
      let ct : length t / k ≡ details_length (n + m) = front-count k m (total ms) d kp ed ∙ h.2 in
      let two : 2 ≤ n + m = omega (arith, h.0, two-below (wavelet_of f)) in
      samples-read ms b c (n + m) eb ec h.3
      ∙ ap₂ (λ (y z : List ℤ). backs_at (wrap k) y z ms)
      ((kept f i).back-held a t (n + m) ca ct two ∙ ap (backs (wrap k) (decode k a)) (decode-take k m (total ms) d kp ed))
      (decode-drop k m (total ms) d kp ed)

  bytes-more : (ms : List ℕ) (a d : List ℕ) → Bytes a → Bytes (samples_of f a d ms)
  unfolding samples_of
  bytes-more [] a d b = b
  bytes-more (m ∷ ms) a d b = bytes-more ms (back_of f a (take (width_of f * m) d)) (drop (width_of f * m) d) ((undoes f i).back-bytes a (take (width_of f * m) d))

  -- a level back gives bytes, whatever it was given
  bytes-samples : (ms : List ℕ) (a d : List ℕ) → 0 < length ms → Bytes (samples_of f a d ms)
  unfolding samples_of
  bytes-samples [] a d h = absurd (omega arith)
  bytes-samples (m ∷ ms) a d h = bytes-more ms (back_of f a (take (width_of f * m) d)) (drop (width_of f * m) d) ((undoes f i).back-bytes a (take (width_of f * m) d))

-- ---- the calls

-- a done `dwt` leaves T.800's low-pass and high-pass coefficients of the last level, as they are kept
pub dwt-t800 : (f : Filter) → Integers f → (l : ℕ) (x a d u v : List ℕ) {r : Answer} {a' d' u' v' : List ℕ} → Dwt f l x a d u v r a' d' u' v'
    → done (say_dwt f l (length x) (length a) (length d) (length u) (length v)) ≡ true
    → (a' ≡ encode (width_of f) (lows_at (wrap (width_of f)) (levels_of l) (decode (width_of f) x)))
    × (d' ≡ encode (width_of f) (highs_after (wrap (width_of f)) (levels_of l - 1) (decode (width_of f) x)))
dwt-t800 f i l x a d u v call z =
    let n = length x / width_of f in
    let ready = (dwt-ready f l (length x) (length a) (length d) (length u) (length v) z).0 in
    let gives = dwt-gives f l x a d u v call z in (
      gives.0 ∙ approx-t800 f i x n ready.whole (levels_of l) ready.some ready.deep,
      gives.1 ∙ high-t800 f i x n ready.whole (levels_of l - 1) (omega (arith, ready.some, ready.deep)),
    )

-- a done `multi_dwt` leaves T.800's low-pass coefficients of the deepest level and then the high-pass ones of all levels, deepest first, as they are kept
pub multi-t800 : (f : Filter) → Integers f → (l : ℕ) (x o u v : List ℕ) {r : Answer} {o' u' v' : List ℕ} → Multi f l x o u v r o' u' v'
    → done (say_multi f l (length x) (length o) (length u) (length v)) ≡ true
    → o' ≡ encode (width_of f) (lows_at (wrap (width_of f)) (levels_of l) (decode (width_of f) x) ++ all_highs (wrap (width_of f)) (levels_of l) (decode (width_of f) x))
multi-t800 f i l x o u v call z =
    let k = width_of f in
    let n = length x / k in
    let j = levels_of l in
    let ready = (multi-ready f l (length x) (length o) (length u) (length v) z).0 in
    call.output
    ∙ left-done (say_multi f l (length x) (length o) (length u) (length v)) (pyramid f j x) o z
    ∙ pyramid-parts f j x
    ∙ ap₂ (λ (y z : List ℕ). y ++ z) (approx-t800 f i x n ready.whole j ready.some ready.deep) (details-t800 f i x n ready.whole j ready.deep)
    ∙ sym (encode-append k (lows_at (wrap k) j (decode k x)) (all_highs (wrap k) j (decode k x)))

-- a done `multi_idwt` leaves what T.800's way back makes of its bands, level by level from the deepest, as it is kept
pub back-t800 : (f : Filter) → Integers f → (a d ls o u v : List ℕ) {r : Answer} {o' u' v' : List ℕ} → MultiBack f a d ls o u v r o' u' v'
    → done (say_back f (length a) (length d) ls (length o) (length u) (length v)) ≡ true
    → o' ≡ encode (width_of f) (backs_at (wrap (width_of f)) (decode (width_of f) a) (decode (width_of f) d) (words_of 4 ls))
back-t800 f i a d ls o u v call z =
    let k = width_of f in
    let ms = words_of 4 ls in
    let n = length a / k in
    let (rise, some, ea, eo) = back-ready f (length a) (length d) ls (length o) (length u) (length v) z in
    let s = samples_of f a d ms in
    let es : length s ≡ k * (n + total ms) = length-samples f ms a d n ea rise.details ∙ omega (arith, ea, rise.details, mul-add k n (total ms)) in
    let b : Bytes s = bytes-samples f i ms a d (omega (arith, some, length-words 4 ls)) in
    call.output
    ∙ left-done (say_back f (length a) (length d) ls (length o) (length u) (length v)) s o z
    ∙ sym ((kept f i).same_bytes s (n + total ms) b es)
    ∙ ap (encode k) (samples-read f i ms a d n ea rise.details rise.fits)
