-- `multi_idwt` after `multi_dwt`, and the other way round, about the bytes of the calls. For any filter: on the parts of what `multi_dwt` gave, with the
-- lengths of its levels, `multi_idwt` is done and gives the levels undone one by one. For the integer filters that is the samples themselves, and
-- `multi_dwt` of what `multi_idwt` gave is the bands themselves.
use mathlib.Core.Bool.{true}
use mathlib.Core.List.{List, ◌++◌}
use mathlib.Core.Path.{◌≡◌, refl, sym, ap, ◌∙◌}
use Prim.Native.Nat.{ℕ, suc, ◌+◌, ◌-◌, ◌*◌, ◌/◌, ◌%◌, ◌^◌, ◌≤◌, ◌<◌}
use native.Mathlib.Nat.{mul-add, mod-eq_of_lt}
use native.Mathlib.Omega.{arith}
use borrow.Author.Tests.{ne_eqb}
use lib.ListN.{length, get_or, take, drop}
use Rattle.base_answers.specs.declared.err.Answer.{Answer}
use Rattle.base_answers.specs.Answers.{Outcome, told, answer_of, done}
use Rattle.base_answers.proofs.Endings.{left-done}
use Rattle.base_lengths.specs.Lengths.{most_samples, details_length}
use Rattle.base_lengths.specs.Levels.{count_at, depth_of, levels_of}
use Rattle.base_samples.specs.Le.{Bytes}
use Rattle.base_samples.specs.Words.{tabulate, words_of, bytes_of}
use Rattle.base_samples.proofs.Words.{tabulate-same, tabulate-get_or, length-words, length-bytes, words-bytes}
use Rattle.levels_filter.specs.declared.filter.Filter.{Filter}
use Rattle.levels_filter.specs.Filters.{width_of, wavelet_of, high_of, Integers}
use Rattle.levels_filter.specs.Pyramids.{approx_at, pyramid, samples_of, details_at, lengths_of, round_trip}
use Rattle.levels_filter.specs.Calls.{say_multi, Multi, say_dwt, Dwt, Ready}
use Rattle.levels_filter.specs.Backward.{total, say_back, MultiBack, Area, LengthsIn}
use Rattle.levels_filter.proofs.Multi.{multi-ready}
use Rattle.levels_filter.proofs.Backs.{back-ready}
use Rattle.levels_filter.proofs.LastLevel.{dwt-gives}
use Rattle.law_levels.proofs.Lengths.{length-approx, length-details, length-lengths, count-at-total, at-most-total}
use Rattle.law_levels.proofs.Trips.{approx-part, details-part, level-part, samples-trip, length-samples}
use Rattle.law_levels.proofs.Undone.{undoes, trip-is, pyramid-again}
use Rattle.law_levels.proofs.Fitting.{lengths-fit, fits-depth, back_fits, multi-fits}

-- the bytes of the lengths are such
pub lengths-in : (l n : ℕ) → n ≤ most_samples → LengthsIn l n (bytes_of 4 (lengths_of l n))
lengths-in l n h =
    record {
      lengths =
          ap (λ (us : List ℕ). words_of 4 (bytes_of 4 us)) (sym table)
          ∙ words-bytes 4 (omega arith) j g
          ∙ tabulate-same j (λ i. g i % 256 ^ 4) g (λ i q. mod-eq_of_lt (small i))
          ∙ table;
      size = length-bytes 4 ms ∙ ap (λ (i : ℕ). 4 * i) (length-lengths l n);
    }
  where
    ms : List ℕ
    ms = lengths_of l n

    j : ℕ
    j = length ms

    g : ℕ → ℕ
    g i = get_or ms i 0

    table : tabulate j g ≡ ms
    table = tabulate-get_or ms 0

    small : (i : ℕ) → g i < 256 ^ 4
    small i = let c : 256 ^ 4 ≡ 4294967296 = refl in omega (arith, at-most-total ms i, count-at-total l n)

-- ---- `multi_dwt` is done with the samples x

module _ (f : Filter) (l : ℕ) (x : List ℕ) {o u v : List ℕ} {r : Answer} {o' u' v' : List ℕ} (call : Multi f l x o u v r o' u' v')
    (is_done : done (say_multi f l (length x) (length o) (length u) (length v)) ≡ true) where
  -- the samples of x, and where the details start in the output
  abbrev count : ℕ
  count = length x / width_of f

  abbrev cut : ℕ
  cut = width_of f * count_at (levels_of l) count

  ready : Ready f (levels_of l) count (length x) (length u) (length v)
  ready = (multi-ready f l (length x) (length o) (length u) (length v) is_done).0

  given : o' ≡ pyramid f (levels_of l) x
  given = call.output ∙ left-done (say_multi f l (length x) (length o) (length u) (length v)) (pyramid f (levels_of l) x) o is_done

  -- the levels ran, and each had samples enough
  pub call-depth : (levels_of l ≤ depth_of (wavelet_of f) count) × (length x ≡ width_of f * count)
  call-depth = (ready.deep, ready.whole)

  -- the output starts with the deepest approximations
  pub call-approx : take cut o' ≡ approx_at f (levels_of l) x
  call-approx = ap (λ (s : List ℕ). take cut s) given ∙ approx-part f (levels_of l) x count ready.whole

  -- then come all details
  pub call-details : drop cut o' ≡ details_at f (levels_of l) x
  call-details = ap (λ (s : List ℕ). drop cut s) given ∙ details-part f (levels_of l) x count ready.whole

  -- those of level i + 1 behind as many bytes as level i + 1 has of approximations
  pub call-level : (i : ℕ) → i < levels_of l → take (width_of f * details_length (count_at i count)) (drop (width_of f * count_at (suc i) count) o') ≡ high_of f (approx_at f i x)
  call-level i h = ap (λ (s : List ℕ). take (width_of f * details_length (count_at i count)) (drop (width_of f * count_at (suc i) count) s)) given ∙ level-part f (levels_of l) i x count ready.whole h

  -- of as many levels `dwt` gives the first two of these parts
  pub dwt-call : {a d s t : List ℕ} {q : Answer} {a' d' s' t' : List ℕ} → Dwt f l x a d s t q a' d' s' t' → done (say_dwt f l (length x) (length a) (length d) (length s) (length t)) ≡ true
      → (take cut o' ≡ a') × (take (width_of f * details_length (count_at (levels_of l - 1) count)) (drop cut o') ≡ d')
  dwt-call {a} {d} {s} {t} m z =
      let j = levels_of l - 1 in
      let e : suc j ≡ levels_of l = omega (arith, ready.some) in
      let gives = dwt-gives f l x a d s t m z in (
        call-approx ∙ sym gives.0,
        ap (λ (i : ℕ). take (width_of f * details_length (count_at j count)) (drop (width_of f * count_at i count) o')) (sym e) ∙ call-level j (omega arith) ∙ sym gives.1,
      )

  -- `multi_idwt` on the two parts, into an output as long as x
  module _ {ls p s t : List ℕ} {q : Answer} {p' s' t' : List ℕ} (lengths : LengthsIn (levels_of l) count ls) (output : length p ≡ length x) (first : Area (width_of f) (length x) s)
      (second : Area (width_of f) (length x) t) (back : MultiBack f (take cut o') (drop cut o') ls p s t q p' s' t') where
    on_parts : MultiBack f (approx_at f (levels_of l) x) (details_at f (levels_of l) x) ls p s t q p' s' t'
    on_parts = rw (call-approx, call-details) at back

    abbrev said_back : Outcome
    said_back = say_back f (length (approx_at f (levels_of l) x)) (length (details_at f (levels_of l) x)) ls (length p) (length s) (length t)

    says : said_back ≡ told 0 0
    says =
        let n = count in
        let j = levels_of l in
        let e = ready.whole in
        let all = count-at-total j n in
        let wide : width_of f * (count_at j n + total (lengths_of j n)) ≡ length x = ap (λ (i : ℕ). width_of f * i) all ∙ sym e in
        back_fits f (count_at j n) j (length s / width_of f) (length t / width_of f) ls _ _ (length p) (length s) (length t) (length-approx f j x n e)
        (rw lengths.lengths (record {
          fits = lengths-fit (wavelet_of f) j n ready.deep;
          short = omega (arith, all, ready.short);
          details = length-details f j x n e;
          first = omega (arith, wide, first.room);
          second = omega (arith, wide, second.room);
          output = output ∙ sym wide;
        }))
        lengths.size ready.some first.samples second.samples

    -- is done and gives the levels undone, whatever the filter
    pub trip-call : (q ≡ answer_of (told 0 0)) × (p' ≡ round_trip f (levels_of l) x)
    trip-call = (
      on_parts.answer ∙ ap answer_of says,
      on_parts.output
          ∙ left-done said_back _ p (ap done says)
          ∙ ap (samples_of f (approx_at f (levels_of l) x) (details_at f (levels_of l) x)) lengths.lengths
          ∙ samples-trip f (levels_of l) x count ready.whole,
    )

    -- and of an integer filter gives the samples, of every value
    pub undone-call : Integers f → Bytes x → (q ≡ answer_of (told 0 0)) × (p' ≡ x)
    undone-call i b = (trip-call.0, trip-call.1 ∙ trip-is f (undoes f i) (levels_of l) x count b ready.whole ready.deep)

-- ---- `multi_idwt` is done with the bands a and d

-- one level or more is as many levels
some-levels : (c : ℕ) → 0 < c → levels_of c ≡ c
some-levels c h = rw (ne_eqb c 0 (λ z. omega arith))

module _ (f : Filter) (a d ls : List ℕ) {o u v : List ℕ} {r : Answer} {o' u' v' : List ℕ} (call : MultiBack f a d ls o u v r o' u' v')
    (is_done : done (say_back f (length a) (length d) ls (length o) (length u) (length v)) ≡ true) where
  -- `multi_dwt` on its output, with as many levels as there are lengths, into an output as long, is done and of an integer filter gives the bands
  pub again-call : {p s t : List ℕ} {q : Answer} {p' s' t' : List ℕ} → Integers f → Bytes a → Bytes d → length p ≡ length o' → Area (width_of f) (length o') s → Area (width_of f) (length o') t
      → Multi f (length ls / 4) o' p s t q p' s' t' → (q ≡ answer_of (told 0 0)) × (p' ≡ a ++ d)
  again-call {p} {s} {t} i ba bd output first second m =
      let k = width_of f in
      let ms = words_of 4 ls in
      let n = length a / k in
      let c = length ls / 4 in
      let (rise, some, ea, eo) = back-ready f (length a) (length d) ls (length o) (length u) (length v) is_done in
      let x : o' ≡ samples_of f a d ms = call.output ∙ left-done (say_back f (length a) (length d) ls (length o) (length u) (length v)) (samples_of f a d ms) o is_done in
      let ex : length o' ≡ k * (n + total ms) = ap length x ∙ length-samples f ms a d n ea rise.details ∙ omega (arith, ea, rise.details, mul-add k n (total ms)) in
      let ec : length ms ≡ c = length-words 4 ls in
      let lc : levels_of c ≡ c = some-levels c some in
      let deep : levels_of c ≤ depth_of (wavelet_of f) (n + total ms) = omega (arith, fits-depth (wavelet_of f) n ms rise.fits, ec, lc) in
      let says : say_multi f c (length o') (length p) (length s) (length t) ≡ told 0 0 =
      multi-fits f c (n + total ms) (length s / k) (length t / k) (length o') (length p) (length s) (length t)
      (record {
        some = omega (arith, lc, some);
        deep = deep;
        short = rise.short;
        whole = ex;
        first = omega (arith, ex, first.room);
        second = omega (arith, ex, second.room);
      })
      (output ∙ ex) first.samples second.samples in (
        m.answer ∙ ap answer_of says,
        m.output
            ∙ left-done (say_multi f c (length o') (length p) (length s) (length t)) (pyramid f (levels_of c) o') p (ap done says)
            ∙ ap (λ (j : ℕ). pyramid f j o') (lc ∙ sym ec)
            ∙ ap (pyramid f (length ms)) x
            ∙ pyramid-again f (undoes f i) ms a d n ba bd ea rise.details rise.fits,
      )
