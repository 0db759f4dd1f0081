-- One level of the integer filters, about the calls: a done call leaves T.800's steps of what its bytes hold, each stored result kept modulo two to the width,
-- and where none wraps T.800's own numbers; the inverse after a done forward call gives the samples themselves, and the forward after a done inverse call the
-- bands themselves.
use mathlib.Core.Bool.{true}
use mathlib.Core.List.{List}
use mathlib.Core.Path.{◌≡◌, ap, ap₂, ◌∙◌}
use Prim.Native.Nat.{ℕ, ◌+◌, ◌*◌, ◌/◌, ◌≤◌}
use native.Mathlib.Nat.{mul-add}
use native.Mathlib.Omega.{arith}
use lib.ListN.{length}
use Rattle.base_answers.specs.declared.err.Answer.{Answer}
use Rattle.base_answers.specs.Answers.{told, answer_of, done}
use Rattle.base_lengths.specs.Lengths.{approx_length, details_length}
use Rattle.base_lengths.specs.Calls.{say_forward, say_inverse, Level}
use Rattle.base_lengths.proofs.Depths.{two-below}
use Rattle.base_lengths.proofs.OneLevel.{forward-ready, inverse-ready, forward-fits, inverse-fits, forward-ran, inverse-ran, count-is}
use Rattle.base_samples.specs.Le.{Bytes}
use Rattle.base_samples.specs.Integers.{wrap, decode, encode}
use Rattle.base_samples.proofs.Words.{holds}
use Rattle.base_samples.proofs.IntegerLaws.{encode-decode}
use Rattle.filter_cdf53i.specs.T800.{highs, lows, backs}
use Rattle.filter_cdf53i.specs.Within.{AllWithin, Holding}
use Rattle.filter_cdf53i.proofs.T800.{low-is, high_is, back_is}
use Rattle.filter_cdf53i.proofs.Read.{low_read, back_read, low-own, high-own, back-own}
use Rattle.levels_filter.proofs.Integers.{each_width}
use Rattle.levels_filter.specs.declared.filter.Filter.{Filter}
use Rattle.levels_filter.specs.Filters.{width_of, wavelet_of, low_of, high_of, back_of, Integers}
use Rattle.levels_filter.specs.Calls.{LevelOf, OneForward, OneInverse}
use Rattle.levels_filter.proofs.Cuts.{width-pos}
use Rattle.law_levels.proofs.Lengths.{length-low, length_high, length_back}
use Rattle.law_levels.proofs.Undone.{undoes}

-- a level of k bytes a sample is T.800's, of 2 samples or more: its bytes, and what they are read as
pub record Kept (k : ℕ) (low high : List ℕ → List ℕ) (back : List ℕ → List ℕ → List ℕ) : Type 0 where
  pub low-kept : (x : List ℕ) → 2 ≤ length x / k → low x ≡ encode k (lows (wrap k) (decode k x))
  pub high-kept : (x : List ℕ) → 2 ≤ length x / k → high x ≡ encode k (highs (wrap k) (decode k x))
  pub back-kept : (a d : List ℕ) (n : ℕ) → length a / k ≡ approx_length n → length d / k ≡ details_length n → 2 ≤ n → back a d ≡ encode k (backs (wrap k) (decode k a) (decode k d))
  pub low_held : (x : List ℕ) → 2 ≤ length x / k → decode k (low x) ≡ lows (wrap k) (decode k x)
  pub back-held : (a d : List ℕ) (n : ℕ) → length a / k ≡ approx_length n → length d / k ≡ details_length n → 2 ≤ n → decode k (back a d) ≡ backs (wrap k) (decode k a) (decode k d)
  pub low-own : (x : List ℕ) → 2 ≤ length x / k → AllWithin k (highs (λ z. z) (decode k x)) → AllWithin k (lows (λ z. z) (decode k x)) → Holding k (lows (λ z. z) (decode k x)) (low x)
  pub high-own : (x : List ℕ) → 2 ≤ length x / k → AllWithin k (highs (λ z. z) (decode k x)) → Holding k (highs (λ z. z) (decode k x)) (high x)
  pub back-own : (a d : List ℕ) (n : ℕ) → length a / k ≡ approx_length n → length d / k ≡ details_length n → 2 ≤ n
      → AllWithin k (backs (λ z. z) (decode k a) (decode k d)) → Holding k (backs (λ z. z) (decode k a) (decode k d)) (back a d)
  pub same_bytes : (s : List ℕ) (n : ℕ) → Bytes s → length s ≡ k * n → encode k (decode k s) ≡ s

pub kept : (f : Filter) → Integers f → Kept (width_of f) (low_of f) (high_of f) (back_of f)
kept =
    each_width Kept
    (λ k w. record {
      low-kept = low-is k;
      high-kept = high_is k;
      back-kept = back_is k;
      low_held = low_read w;
      back-held = back_read w;
      low-own = low-own w;
      high-own = high-own w;
      back-own = back-own w;
      same_bytes = λ s n b e. encode-decode w s b n (holds w.some s n e);
    })

-- ---- the forward call is done with the samples x

module _ (f : Filter) (i : Integers f) {x a d : List ℕ} {r : Answer} {a' d' : List ℕ} (call : OneForward f x a d r a' d')
    (is_done : done (say_forward (wavelet_of f) (width_of f) (length x) (length a) (length d)) ≡ true) where
  level : LevelOf f (length x) (length a) (length d)
  level = forward-ready (wavelet_of f) (width_of f) (length x) (length a) (length d) is_done

  two : 2 ≤ length x / width_of f
  two = omega (arith, level.long, two-below (wavelet_of f))

  given : (a' ≡ low_of f x) × (d' ≡ high_of f x)
  given = forward-ran (wavelet_of f) (width_of f) (low_of f) (high_of f) x a d (length x / width_of f) r a' d' (width-pos f) level call

  -- it leaves T.800's low-pass and high-pass coefficients, as they are kept
  pub forward-t800 : (a' ≡ encode (width_of f) (lows (wrap (width_of f)) (decode (width_of f) x))) × (d' ≡ encode (width_of f) (highs (wrap (width_of f)) (decode (width_of f) x)))
  forward-t800 = (given.0 ∙ (kept f i).low-kept x two, given.1 ∙ (kept f i).high-kept x two)

  -- and T.800's own, where these are within the width
  pub forward-unwrapped : AllWithin (width_of f) (highs (λ z. z) (decode (width_of f) x)) → AllWithin (width_of f) (lows (λ z. z) (decode (width_of f) x))
      → Holding (width_of f) (lows (λ z. z) (decode (width_of f) x)) a' × Holding (width_of f) (highs (λ z. z) (decode (width_of f) x)) d'
  forward-unwrapped hw lw = (rw given.0 ((kept f i).low-own x two hw lw), rw given.1 ((kept f i).high-own x two hw))

  -- and the inverse on them, into an output as long as x, is done and gives the samples, of every value
  pub undone-one : {o : List ℕ} {q : Answer} {o' : List ℕ} → Bytes x → length o ≡ length x → OneInverse f a' d' o q o' → (q ≡ answer_of (told 0 0)) × (o' ≡ x)
  undone-one {o} {q} {o'} b e back =
      let w = wavelet_of f in
      let k = width_of f in
      let n = length x / k in
      let fits : Level w k n (length o) (length a') (length d') = record {
        long = level.long;
        short = level.short;
        samples = e ∙ level.samples;
        approx = ap length given.0 ∙ length-low f x n level.samples;
        details = ap length given.1 ∙ length_high f x n level.samples;
      } in (
        back.answer ∙ ap answer_of (inverse-fits w k n (length o) (length a') (length d') (width-pos f) fits),
        inverse-ran w k (back_of f) a' d' o n q o' (width-pos f) fits back ∙ ap₂ (back_of f) given.0 given.1 ∙ (undoes f i).there x n b level.samples two,
      )

-- ---- the inverse call is done with the bands a and d

module _ (f : Filter) (i : Integers f) {a d o : List ℕ} {r : Answer} {o' : List ℕ} (call : OneInverse f a d o r o')
    (is_done : done (say_inverse (wavelet_of f) (width_of f) (length a) (length d) (length o)) ≡ true) where
  level_back : LevelOf f (length o) (length a) (length d)
  level_back = inverse-ready (wavelet_of f) (width_of f) (length a) (length d) (length o) is_done

  two_back : 2 ≤ length o / width_of f
  two_back = omega (arith, level_back.long, two-below (wavelet_of f))

  given_back : o' ≡ back_of f a d
  given_back = inverse-ran (wavelet_of f) (width_of f) (back_of f) a d o (length o / width_of f) r o' (width-pos f) level_back call

  approxs : length a / width_of f ≡ approx_length (length o / width_of f)
  approxs = count-is (width_of f) (approx_length (length o / width_of f)) (length a) (width-pos f) level_back.approx

  detailed : length d / width_of f ≡ details_length (length o / width_of f)
  detailed = count-is (width_of f) (details_length (length o / width_of f)) (length d) (width-pos f) level_back.details

  -- it leaves the samples of T.800's way back, as they are kept
  pub inverse-t800 : o' ≡ encode (width_of f) (backs (wrap (width_of f)) (decode (width_of f) a) (decode (width_of f) d))
  inverse-t800 = given_back ∙ (kept f i).back-kept a d (length o / width_of f) approxs detailed two_back

  -- and T.800's own, where these are within the width
  pub inverse-unwrapped : AllWithin (width_of f) (backs (λ z. z) (decode (width_of f) a) (decode (width_of f) d))
      → Holding (width_of f) (backs (λ z. z) (decode (width_of f) a) (decode (width_of f) d)) o'
  inverse-unwrapped bw = rw given_back ((kept f i).back-own a d (length o / width_of f) approxs detailed two_back bw)

  -- and the forward on them, into bands as long as a and d, is done and gives the bands, of every value
  pub again-one : {a₂ d₂ : List ℕ} {q : Answer} {a₃ d₃ : List ℕ} → Bytes a → Bytes d → length a₂ ≡ length a → length d₂ ≡ length d → OneForward f o' a₂ d₂ q a₃ d₃
      → (q ≡ answer_of (told 0 0)) × (a₃ ≡ a) × (d₃ ≡ d)
  again-one {a₂} {d₂} {q} {a₃} {d₃} ba bd ea ed forward =
      let w = wavelet_of f in
      let k = width_of f in
      let n = length o / k in
      let la = level_back.approx in
      let ld = level_back.details in
      let all : approx_length n + details_length n ≡ n = omega arith in
      let fits : Level w k n (length o') (length a₂) (length d₂) = record {
        long = level_back.long;
        short = level_back.short;
        samples = ap length given_back ∙ length_back f a d (approx_length n) (details_length n) la ld ∙ omega (arith, la, ld, mul-add k (approx_length n) (details_length n), ap (λ (m : ℕ). k * m) all);
        approx = ea ∙ la;
        details = ed ∙ ld;
      } in
      let ran = forward-ran w k (low_of f) (high_of f) o' a₂ d₂ n q a₃ d₃ (width-pos f) fits forward in (
        forward.answer ∙ ap answer_of (forward-fits w k n (length o') (length a₂) (length d₂) (width-pos f) fits),
        ran.0 ∙ ap (low_of f) given_back ∙ (undoes f i).again-low a d n ba bd la ld two_back,
        ran.1 ∙ ap (high_of f) given_back ∙ (undoes f i).again-high a d n ba bd la ld two_back,
      )
