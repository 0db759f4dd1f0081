-- T.800 at every level, by lengths alone: with levels within the depth and areas with room `dwt`, `multi_dwt` and `multi_idwt` are done and leave T.800's coefficients and samples, as they are kept.
use mathlib.Core.List.{List, ◌++◌}
use mathlib.Core.Path.{◌≡◌, sym, ap, ◌∙◌}
use Prim.Native.Nat.{ℕ, ◌+◌, ◌-◌, ◌*◌, ◌/◌, ◌≤◌}
use native.Mathlib.Omega.{arith}
use lib.ListN.{length}
use Rattle.base_answers.specs.declared.err.Answer.{Answer}
use Rattle.base_answers.specs.Answers.{told, say, answer_of, done}
use Rattle.base_lengths.specs.declared.Wavelet.TheVariants.{Cdf53}
use Rattle.base_lengths.specs.Lengths.{most_samples, approx_length, details_length}
use Rattle.base_lengths.specs.Levels.{count_at, depth_of, levels_of}
use Rattle.base_samples.specs.Integers.{wrap, decode, encode}
use Rattle.law_levels.specs.T800Levels.{lows_at, highs_after, all_highs, backs_at}
use Rattle.levels_filter.proofs.Integers.{own-depth, lent-ready}
use Rattle.levels_filter.specs.declared.filter.Filter.{Filter}
use Rattle.levels_filter.specs.Filters.{width_of, wavelet_of, Integers}
use Rattle.levels_filter.specs.Pyramids.{lengths_of}
use Rattle.levels_filter.specs.Calls.{say_multi, Multi, say_dwt, Dwt, Ready}
use Rattle.levels_filter.specs.Backward.{total, say_back, MultiBack, Area, LengthsIn}
use Rattle.law_levels.proofs.Lengths.{count-at-total}
use Rattle.law_levels.proofs.Fitting.{lengths-fit, back_fits, multi-fits, dwt-fits}
use Rattle.law_levels.proofs.T800Levels.{dwt-t800, multi-t800, back-t800}

-- n samples in x, levels within the depth, 0 as 1, and two work areas with room
module _ (f : Filter) (i : Integers f) (l n : ℕ) (deep : levels_of l ≤ depth_of Cdf53 n) (most : n ≤ most_samples) (x u v : List ℕ) (size : length x ≡ width_of f * n)
    (first : Area (width_of f) (length x) u) (second : Area (width_of f) (length x) v) where
  ready : Ready f (levels_of l) n (length x) (length u) (length v)
  ready = lent-ready f i l n deep most x u v size first second

  -- `dwt` into bands of the last level's lengths
  pub dwt-gives-t800 : (a d : List ℕ) → length a ≡ width_of f * approx_length (count_at (levels_of l - 1) n) → length d ≡ width_of f * details_length (count_at (levels_of l - 1) n)
      → (r : Answer) (a' d' u' v' : List ℕ) → Dwt f l x a d u v r a' d' u' v'
      → (r ≡ say 0 0 0)
      × (a' ≡ encode (width_of f) (lows_at (wrap (width_of f)) (levels_of l) (decode (width_of f) x)))
      × (d' ≡ encode (width_of f) (highs_after (wrap (width_of f)) (levels_of l - 1) (decode (width_of f) x)))
  dwt-gives-t800 a d ea ed r a' d' u' v' call =
      let k = width_of f in
      let says : say_dwt f l (length x) (length a) (length d) (length u) (length v) ≡ told 0 0 =
      dwt-fits f l n (length u / k) (length v / k) (length x) (length a) (length d) (length u) (length v) ready ea ed first.samples second.samples in
      let t = dwt-t800 f i l x a d u v call (ap done says) in
      (call.answer ∙ ap answer_of says, t.0, t.1)

  -- `multi_dwt` into an output of as many samples
  pub multi-gives-t800 : (o : List ℕ) → length o ≡ width_of f * n → (r : Answer) (o' u' v' : List ℕ) → Multi f l x o u v r o' u' v'
      → (r ≡ say 0 0 0)
      × (o' ≡ encode (width_of f) (lows_at (wrap (width_of f)) (levels_of l) (decode (width_of f) x) ++ all_highs (wrap (width_of f)) (levels_of l) (decode (width_of f) x)))
  multi-gives-t800 o eo r o' u' v' call =
      let k = width_of f in
      let says : say_multi f l (length x) (length o) (length u) (length v) ≡ told 0 0 =
      multi-fits f l n (length u / k) (length v / k) (length x) (length o) (length u) (length v) ready eo first.samples second.samples in
      (call.answer ∙ ap answer_of says, multi-t800 f i l x o u v call (ap done says))

-- `multi_idwt` of bands of the lengths of c levels of n samples
pub back-gives-t800 : (f : Filter) → Integers f → (c n : ℕ) → 1 ≤ c → c ≤ depth_of Cdf53 n → n ≤ most_samples → (a d ls o u v : List ℕ) → length a ≡ width_of f * count_at c n
    → length d ≡ width_of f * total (lengths_of c n) → LengthsIn c n ls → length o ≡ width_of f * n → Area (width_of f) (length o) u → Area (width_of f) (length o) v
    → (r : Answer) (o' u' v' : List ℕ) → MultiBack f a d ls o u v r o' u' v'
    → (r ≡ say 0 0 0) × (o' ≡ encode (width_of f) (backs_at (wrap (width_of f)) (decode (width_of f) a) (decode (width_of f) d) (lengths_of c n)))
back-gives-t800 f i c n some deep most a d ls o u v ea ed lengths eo first second r o' u' v' call =
    let k = width_of f in
    let all = count-at-total c n in
    let wide : k * (count_at c n + total (lengths_of c n)) ≡ k * n = ap (λ (m : ℕ). k * m) all in
    let says : say_back f (length a) (length d) ls (length o) (length u) (length v) ≡ told 0 0 =
    back_fits f (count_at c n) c (length u / k) (length v / k) ls (length a) (length d) (length o) (length u) (length v) ea
    (rw lengths.lengths (record {
      fits = lengths-fit (wavelet_of f) c n (own-depth f i c n deep);
      short = omega (arith, all);
      details = ed;
      first = omega (arith, wide, eo, first.room);
      second = omega (arith, wide, eo, second.room);
      output = eo ∙ sym wide;
    }))
    lengths.size some first.samples second.samples in
    (call.answer ∙ ap answer_of says, back-t800 f i a d ls o u v call (ap done says) ∙ ap (λ (ms : List ℕ). encode k (backs_at (wrap k) (decode k a) (decode k d) ms)) lengths.lengths)
