-- Document 02, C-13, about the calls, of the integer filters: n samples each in x and y; q is a done answer of `note_span` for a coefficient of n samples. If x and
-- y agree from sample q .first to sample q .second, two done calls of `dwt` or of `multi_dwt` leave the same word at that coefficient, whatever the other samples are.
use mathlib.Core.Bool.{true}
use mathlib.Core.List.{List}
use mathlib.Core.Path.{◌≡◌, sym, ap, ◌∙◌}
use Prim.Native.Nat.{ℕ, suc, ◌+◌, ◌-◌, ◌*◌, ◌/◌, ◌≤◌, ◌<◌}
use native.Mathlib.Omega.{arith}
use lib.ListN.{length, take, drop}
use Rattle.base_answers.specs.declared.err.Answer.{Answer}
use Rattle.base_answers.specs.Answers.{answer_of, done}
use Rattle.base_answers.proofs.Endings.{is-done}
use Rattle.base_lengths.specs.Lengths.{details_length}
use Rattle.base_lengths.specs.Levels.{count_at, levels_of}
use Rattle.base_samples.specs.Words.{word_at}
use Rattle.base_samples.proofs.Words.{word-take, word-drop}
use Rattle.view_spans.specs.declared.Band.{Band}
use Rattle.view_spans.specs.declared.Band.TheVariants.{Approx, Details}
use Rattle.view_spans.specs.Spans.{band_count, band_at, Agree, SpanDecides}
use Rattle.view_spans.proofs.Untouched.{untouched}
use Rattle.view_notes.specs.Notes.{say_span}
use Rattle.view_notes.proofs.Answered.{Spanned, span-told}
use Rattle.levels_filter.specs.declared.filter.Filter.{Filter}
use Rattle.levels_filter.specs.Filters.{width_of, low_of, high_of, Integers}
use Rattle.levels_filter.specs.Calls.{say_multi, Multi, say_dwt, Dwt}
use Rattle.levels_filter.proofs.Integers.{each_width}
use Rattle.levels_filter.proofs.LastLevel.{dwt-ready, dwt-gives}
use Rattle.law_levels.proofs.ThereAndBack.{call-depth, call-approx, call-level}

-- ---- a band of level l of a filter

abbrev filter_band : Filter → Band → ℕ → List ℕ → List ℕ
filter_band f b = band_at b (low_of f) (high_of f)

-- no sample outside a span changes its coefficient, of each of the integer filters
pub filter-untouched : (f : Filter) → Integers f → SpanDecides (width_of f) (low_of f) (high_of f)
filter-untouched = each_width (λ k low high back. SpanDecides k low high) (λ k w. untouched w)

-- ---- where a coefficient stands in what a done `multi_dwt` leaves

module _ (f : Filter) (l : ℕ) (x : List ℕ) {o u v : List ℕ} {r : Answer} {o' u' v' : List ℕ} (call : Multi f l x o u v r o' u' v') (z : r.number ≡ 0) where
  multi-ran : done (say_multi f l (length x) (length o) (length u) (length v)) ≡ true
  multi-ran = is-done (say_multi f l (length x) (length o) (length u) (length v)) r call.answer z

  -- approximation p of the deepest level is word p
  pub approx-word : (p : ℕ) → p < count_at (levels_of l) (length x / width_of f) → word_at (width_of f) o' p ≡ word_at (width_of f) (filter_band f Approx (levels_of l) x) p
  approx-word p h = sym (word-take (width_of f) o' (count_at (levels_of l) (length x / width_of f)) p h) ∙ ap (λ (s : List ℕ). word_at (width_of f) s p) (call-approx f l x call multi-ran)

  -- detail p of level j is word p behind as many as the level has of approximations
  pub detail-word : (j p : ℕ) → 1 ≤ j → j ≤ levels_of l → p < band_count Details j (length x / width_of f)
      → word_at (width_of f) o' (count_at j (length x / width_of f) + p) ≡ word_at (width_of f) (filter_band f Details j x) p
  detail-word j p o d h =
      let k = width_of f in
      let n = length x / k in
      let i = j - 1 in
      let e : j ≡ suc i = omega arith in
      sym (word-drop k o' (count_at j n) p)
      ∙ sym (word-take k (drop (k * count_at j n) o') (details_length (count_at i n)) p h)
      ∙ ap (λ (s : List ℕ). word_at k s p) (ap (λ (m : ℕ). take (k * details_length (count_at i n)) (drop (k * count_at m n) o')) e ∙ call-level f l x call multi-ran i (omega arith))

-- ---- two recordings of one length

module _ (f : Filter) (i : Integers f) (l : ℕ) (x y : List ℕ) (same : length x ≡ length y) where
  -- the samples of each
  abbrev count : ℕ
  count = length x / width_of f

  -- which agree on an answered span have the same coefficient
  bands-agree : length x ≡ width_of f * count → (b : Band) (j p : ℕ) (q : Answer) → q ≡ answer_of (say_span b count j p) → q.number ≡ 0 → Agree (width_of f) (q.first, q.second) x y
      → word_at (width_of f) (filter_band f b j x) p ≡ word_at (width_of f) (filter_band f b j y) p
  bands-agree e b j p q a z s =
      let t = span-told b count j p q a z in
      filter-untouched f i b j count p x y e (sym same ∙ e) t.some t.deep t.place (λ m u v. s m (omega (arith, t.first)) (omega (arith, t.last)))

  -- two done calls of `dwt`: its bands are those of the last level
  module _ {a d u v : List ℕ} {r : Answer} {a' d' u' v' : List ℕ} (call : Dwt f l x a d u v r a' d' u' v') (z : r.number ≡ 0)
      {a₂ d₂ u₂ v₂ : List ℕ} {r₂ : Answer} {a₂' d₂' u₂' v₂' : List ℕ} (call₂ : Dwt f l y a₂ d₂ u₂ v₂ r₂ a₂' d₂' u₂' v₂') (z₂ : r₂.number ≡ 0)
      (p : ℕ) (q : Answer) (told : q.number ≡ 0) (agree : Agree (width_of f) (q.first, q.second) x y) where
    ran_one : done (say_dwt f l (length x) (length a) (length d) (length u) (length v)) ≡ true
    ran_one = is-done (say_dwt f l (length x) (length a) (length d) (length u) (length v)) r call.answer z

    ran_two : done (say_dwt f l (length y) (length a₂) (length d₂) (length u₂) (length v₂)) ≡ true
    ran_two = is-done (say_dwt f l (length y) (length a₂) (length d₂) (length u₂) (length v₂)) r₂ call₂.answer z₂

    whole : length x ≡ width_of f * count
    whole = (dwt-ready f l (length x) (length a) (length d) (length u) (length v) ran_one).0.whole

    pub dwt-approx-untouched : q ≡ answer_of (say_span Approx count (levels_of l) p) → word_at (width_of f) a' p ≡ word_at (width_of f) a₂' p
    dwt-approx-untouched e = rw ((dwt-gives f l x a d u v call ran_one).0, (dwt-gives f l y a₂ d₂ u₂ v₂ call₂ ran_two).0) (bands-agree whole Approx (levels_of l) p q e told agree)

    pub dwt-detail-untouched : q ≡ answer_of (say_span Details count (levels_of l) p) → word_at (width_of f) d' p ≡ word_at (width_of f) d₂' p
    dwt-detail-untouched e = rw ((dwt-gives f l x a d u v call ran_one).1, (dwt-gives f l y a₂ d₂ u₂ v₂ call₂ ran_two).1) (bands-agree whole Details (levels_of l) p q e told agree)

  -- two done calls of `multi_dwt`: the deepest approximations, and the details of every level
  module _ {o u v : List ℕ} {r : Answer} {o' u' v' : List ℕ} (call : Multi f l x o u v r o' u' v') (z : r.number ≡ 0)
      {o₂ u₂ v₂ : List ℕ} {r₂ : Answer} {o₂' u₂' v₂' : List ℕ} (call₂ : Multi f l y o₂ u₂ v₂ r₂ o₂' u₂' v₂') (z₂ : r₂.number ≡ 0)
      (p : ℕ) (q : Answer) (told : q.number ≡ 0) (agree : Agree (width_of f) (q.first, q.second) x y) where
    whole_one : length x ≡ width_of f * count
    whole_one = (call-depth f l x call (multi-ran f l x call z)).1

    counts : length y / width_of f ≡ count
    counts = ap (λ (m : ℕ). m / width_of f) (sym same)

    pub multi-approx-untouched : q ≡ answer_of (say_span Approx count (levels_of l) p) → word_at (width_of f) o' p ≡ word_at (width_of f) o₂' p
    multi-approx-untouched e =
        let h = (span-told Approx count (levels_of l) p q e told).place in
        approx-word f l x call z p h ∙ bands-agree whole_one Approx (levels_of l) p q e told agree ∙ sym (approx-word f l y call₂ z₂ p (rw counts h))

    pub multi-detail-untouched : (j : ℕ) → j ≤ levels_of l → q ≡ answer_of (say_span Details count j p) → word_at (width_of f) o' (count_at j count + p) ≡ word_at (width_of f) o₂' (count_at j count + p)
    multi-detail-untouched j h e =
        let t = span-told Details count j p q e told in
        detail-word f l x call z j p t.some h t.place
        ∙ bands-agree whole_one Details j p q e told agree
        ∙ sym (rw counts at (detail-word f l y call₂ z₂ j p t.some h (rw counts t.place)))
