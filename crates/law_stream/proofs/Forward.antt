-- What the pieces and the end write is what one call writes: the joined bands are T.800's of the whole recording, and those of a forward call on it.
use mathlib.Core.List.{List}
use mathlib.Core.Path.{◌≡◌, refl, sym, ◌∙◌}
use Prim.Native.Nat.{ℕ, ◌*◌, ◌/◌, ◌≤◌}
use native.Mathlib.Omega.{arith}
use lib.ListN.{length}
use Rattle.base_answers.specs.Answers.{told}
use Rattle.base_answers.specs.declared.err.Answer.{Answer}
use Rattle.base_answers.proofs.Endings.{is-done}
use Rattle.base_lengths.specs.Lengths.{approx_length, details_length}
use Rattle.base_lengths.specs.Calls.{say_forward}
use Rattle.base_lengths.proofs.OneLevel.{forward-ready, forward-fits, forward-ran}
use Rattle.base_samples.specs.Integers.{Width, wrap, decode, encode}
use Rattle.filter_cdf53i.specs.Bands as integer
use Rattle.filter_cdf53i.specs.T800 as t800
use Rattle.filter_cdf53i.proofs.T800.{low-is, high_is}
use Rattle.levels_filter.specs.declared.filter.Filter.{Filter}
use Rattle.levels_filter.specs.Filters.{width_of, wavelet_of, low_of, high_of, Integers}
use Rattle.levels_filter.specs.Calls.{OneForward}
use Rattle.levels_filter.proofs.Integers.{each_width, wavelet-is}
use Rattle.levels_filter.proofs.Cuts.{width-pos}
use Rattle.stream_calls.specs.Calls.{Finish}
use Rattle.law_stream.specs.Feeds.{all_lows, all_highs, Fed}
use Rattle.law_stream.proofs.Fed.{fed, finish-long, cut-anyhow}

-- T.800's low-pass and high-pass coefficients of x, as they are kept
pub as-t800 : {k : ℕ} → Width k → {x lows highs b a d : List ℕ} {r : Answer} {b' a' d' : List ℕ} → Fed k x lows highs b → Finish k b a d r b' a' d'
    → r.number ≡ 0 → (all_lows k x lows a' ≡ encode k (t800.lows (wrap k) (decode k x))) × (all_highs k x highs d' ≡ encode k (t800.highs (wrap k) (decode k x)))
as-t800 {k} w {x} f p done =
    let all = cut-anyhow w f p done in
    let two : 2 ≤ length x / k = omega (arith, finish-long w (fed w f) p done) in
    (all.0 ∙ low-is k x two, all.1 ∙ high_is k x two)

-- the bands of an integer filter
own-bands : (f : Filter) → Integers f
    → Width (width_of f) × ((x : List ℕ) → integer.low (width_of f) x ≡ low_of f x) × ((x : List ℕ) → integer.high (width_of f) x ≡ high_of f x)
own-bands =
    each_width (λ k low high back. Width k × ((x : List ℕ) → integer.low k x ≡ low x) × ((x : List ℕ) → integer.high k x ≡ high x))
    (λ k w. (w, λ x. refl, λ x. refl))

-- ---- a forward call of the filter f on x, into the areas a₂ and d₂

module _ (f : Filter) (i : Integers f) {x lows highs b a d : List ℕ} {r : Answer} {b' a' d' : List ℕ} (fd : Fed (width_of f) x lows highs b)
    (p : Finish (width_of f) b a d r b' a' d') (done : r.number ≡ 0) where
  -- where it is done, it leaves the joined bands
  pub as-forward : {a₂ d₂ : List ℕ} {q : Answer} {a₃ d₃ : List ℕ} → OneForward f x a₂ d₂ q a₃ d₃ → q.number ≡ 0
      → (all_lows (width_of f) x lows a' ≡ a₃) × (all_highs (width_of f) x highs d' ≡ d₃)
  as-forward {a₂} {d₂} {q} {a₃} {d₃} call once =
      let own = own-bands f i in
      let v = wavelet_of f in
      let k = width_of f in
      let all = cut-anyhow own.0 fd p done in
      let level = forward-ready v k (length x) (length a₂) (length d₂) (is-done (say_forward v k (length x) (length a₂) (length d₂)) q call.answer once) in
      let left = forward-ran v k (low_of f) (high_of f) x a₂ d₂ (length x / k) q a₃ d₃ (width-pos f) level call in
      (all.0 ∙ own.1 x ∙ sym left.0, all.1 ∙ own.2 x ∙ sym left.1)

  -- and it is done where the areas are as long as the bands
  pub as-done : (low_bytes high_bytes : ℕ) → let k = width_of f in let t = length x / k in low_bytes ≡ k * approx_length t → high_bytes ≡ k * details_length t
      → say_forward (wavelet_of f) k (length x) low_bytes high_bytes ≡ told 0 0
  as-done low_bytes high_bytes ea ed =
      let w = (own-bands f i).0 in
      let h = fed w fd in
      forward-fits (wavelet_of f) (width_of f) (length x / width_of f) (length x) low_bytes high_bytes (width-pos f)
      (record { long = rw (wavelet-is f i) (finish-long w h p done); short = h.few; samples = h.whole; approx = ea; details = ed })
