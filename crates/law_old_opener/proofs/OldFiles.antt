-- Old files, and whatever else is not a new one, open as they did: what the opener says, and the samples that it gives. What changed is at the ends: under 14 bytes,
-- where a wrong count is 9 now, and over 67,108,974, where 6 is no longer said for the length up to 67,108,978.
use mathlib.Core.Bool.{Bool, true, false, cond, not, ◌||◌, ◌&&◌}
use mathlib.Core.List.{List, [], ◌∷◌, ◌++◌}
use mathlib.Core.Logic.{⊎_elim}
use mathlib.Core.Path.{◌≡◌, refl, sym, ap, ap₂, subst, ◌∙◌}
use Prim.Native.Nat.{ℕ, ◌+◌, ◌-◌, ◌*◌, ◌≤◌, ◌<◌}
use native.Mathlib.Omega.{arith}
use borrow.Author.Tests.{lt-ltb, le-ltb}
use lib.Dec.{eqb}
use lib.ListN.{length, drop, length-append}
use Rattle.std.specs.Prelude.{Err}
use Rattle.base_answers.specs.declared.err.Answer.{Answer}
use Rattle.base_answers.specs.declared.err.Refusal.TheVariants.{TooLong, BadCount, CutShort, Trailing}
use Rattle.base_answers.specs.Answers.{Outcome, told, answer_of, done}
use Rattle.base_answers.specs.Checks.{Check, first_refusal, left}
use Rattle.base_answers.proofs.Chain.{by, stop, same}
use Rattle.base_answers.proofs.Passed.{Passing, off, both-pass, pass_on, roomy}
use Rattle.base_lengths.specs.Levels.{count_at}
use Rattle.base_samples.specs.Le.{le_at}
use Rattle.levels_filter.specs.declared.filter.Filter.{Filter}
use Rattle.levels_filter.specs.Filters.{width_of}
use Rattle.levels_filter.proofs.Integers.{own-depth}
use Rattle.file_open.specs.declared.head.Head.{Head}
use Rattle.file_open.specs.Files.{most_bytes, old_count, new_count, is_count, body_size, file_size, file_of}
use Rattle.file_open.specs.declared.walk.Way.{Way}
use Rattle.file_open.specs.declared.walk.Way.TheVariants.{Went, Short, Wrong}
use Rattle.file_open.specs.Walks.{walk_of, restored_at}
use Rattle.file_open.specs.Opens.{filter_of, head_in, rate_in, start_checks, field_checks, rate_checks, head_checks, way_in, way_checks, file_checks, whole_details, level_in, count_in, samples_in, area_checks, WholeAreas, rooms_for, say_open, rate_opened, Open}
use Rattle.file_open.proofs.Ways.{walk-size, walk-below}
use Rattle.file_open.proofs.Opening.{filter-width, filter-integers, which-count, whole-areas-pass, open-ready, open-file}
use Rattle.file_open.proofs.Writing.{file-most}
use Rattle.law_cuts.specs.Sees.{Sampled}
use Rattle.law_cuts.proofs.Filed.{Recording, all-length}
use Rattle.law_cuts.proofs.WrittenHead.{filed}
use Rattle.law_cuts.proofs.Behind.{behind-file}
use Rattle.law_old_opener.specs.Openers.{most_before, head_before, start_before, file_before, level_before, count_before, samples_before, say_before, OpenBefore}

-- two lists after the same part
same-part : (l m₁ m₂ : List Check) (e₁ e₂ : Outcome) → first_refusal m₁ e₁ ≡ first_refusal m₂ e₂ → first_refusal (l ++ m₁) e₁ ≡ first_refusal (l ++ m₂) e₂
same-part [] m₁ m₂ e₁ e₂ h = h
same-part (p ∷ l) m₁ m₂ e₁ e₂ h = ap (λ (r : Outcome). cond p.0 (Err p.1) r) (same-part l m₁ m₂ e₁ e₂ h)

-- a count that is neither is not 10
neither : (c : ℕ) → is_count c ≡ false → eqb c old_count ≡ false
neither c = pick (eqb c old_count)
  where
    pick : (b : Bool) → (b || eqb c new_count) ≡ false → b ≡ false
    pick true h = h
    pick false h = refl

-- bytes that a walk passes are no more than its sections
way_long : (s : List ℕ) (k l n at : ℕ) (v : Way) → v ≡ walk_of s k l n at → at ≤ length s → Passing (way_checks v (length s)) → length s ≤ at + body_size k l n
way_long s k l n at (Went q) e h c = omega (arith, (walk-size l s k n at q h (sym e)).0, roomy q (length s) c.0)
way_long s k l n at (Short j) e h c = omega (arith, walk-below l s k n at j h (sym e))
way_long s k l n at (Wrong j found) e h c = off c.0 refl

-- what both openers say, after the areas
module _ (s : List ℕ) (w p o u v : ℕ) where
  abbrev says_now : Outcome
  says_now = first_refusal (file_checks s w p ++ rooms_for w (count_in s) o u v) (told (level_in s) (count_in s))

  abbrev said_before : Outcome
  said_before = first_refusal (file_before s w p ++ rooms_for w (count_before s) o u v) (told (level_before s) (count_before s))

  alike : says_now ≡ said_before → say_open s w p o u v ≡ say_before s w p o u v
  unfolding say_open say_before
  alike h =
      same-part (area_checks w o u v) (file_checks s w p ++ rooms_for w (count_in s) o u v) (file_before s w p ++ rooms_for w (count_before s) o u v) (told (level_in s) (count_in s))
      (told (level_before s) (count_before s)) h

  past-areas : WholeAreas w o u v → (say_open s w p o u v ≡ says_now) × (say_before s w p o u v ≡ said_before)
  unfolding say_open say_before
  past-areas a =
      let q = whole-areas-pass w o u v a in (
        pass_on (area_checks w o u v) (file_checks s w p ++ rooms_for w (count_in s) o u v) (told (level_in s) (count_in s)) q,
        pass_on (area_checks w o u v) (file_before s w p ++ rooms_for w (count_before s) o u v) (told (level_before s) (count_before s)) q,
      )

  -- ---- what is refused at the start

  -- a count that is neither, with 4 bytes or more and within the limit: 9 now
  nine-now : 4 ≤ length s → length s ≤ most_bytes → is_count (le_at 4 s 0) ≡ false → says_now ≡ Err (BadCount 0 (le_at 4 s 0))
  nine-now four within none = sym (by _ (le-ltb most_bytes (length s) within) (by _ (le-ltb (length s) 4 four) (stop _ (ap not none) refl)))

  -- under 14 bytes: 10 before; over the limit of before: 6
  ten-before : length s < 14 → said_before ≡ Err (CutShort (length s))
  ten-before short = sym (by _ (le-ltb most_before (length s) (omega arith)) (stop _ (lt-ltb (length s) 14 short) refl))

  six-before : most_before < length s → said_before ≡ Err TooLong
  six-before over = sym (stop _ (lt-ltb most_before (length s) over) refl)

  -- 14 bytes or more with a count that is neither: 9, as before
  pub same-other : 14 ≤ length s → length s ≤ most_before → is_count (le_at 4 s 0) ≡ false → say_open s w p o u v ≡ say_before s w p o u v
  same-other long short none =
      let ten = ap not (neither (le_at 4 s 0) none) in
      alike (nine-now (omega arith) (omega arith) none ∙ by _ (le-ltb most_before (length s) short) (by _ (le-ltb (length s) 14 long) (stop _ ten refl)))

  -- under 4 bytes: 10, as before
  pub same-few : length s < 4 → say_open s w p o u v ≡ say_before s w p o u v
  same-few few = alike (sym (by _ (le-ltb most_bytes (length s) (omega arith)) (stop _ (lt-ltb (length s) 4 few) refl)) ∙ sym (ten-before (omega arith)))

  -- 4 to 13 bytes with the count of either kind: 10, as before
  pub same-short : 4 ≤ length s → length s < 14 → is_count (le_at 4 s 0) ≡ true → say_open s w p o u v ≡ say_before s w p o u v
  same-short four short known =
      let need : length s < (head_in s).body = ⊎_elim (λ (e : le_at 4 s 0 ≡ old_count). omega arith) (λ (e : le_at 4 s 0 ≡ new_count). omega arith) (which-count (le_at 4 s 0) known) in
      alike
      (sym (by _ (le-ltb most_bytes (length s) (omega arith)) (by _ (le-ltb (length s) 4 four) (by _ (ap not known) (stop _ (lt-ltb (length s) (head_in s).body need) refl))))
      ∙ sym (ten-before short))

  -- and with any other count, which is what changed: 9 now, 10 before
  pub short-changed : 4 ≤ length s → length s < 14 → is_count (le_at 4 s 0) ≡ false → WholeAreas w o u v
      → (say_open s w p o u v ≡ Err (BadCount 0 (le_at 4 s 0))) × (say_before s w p o u v ≡ Err (CutShort (length s)))
  short-changed four short none a = let q = past-areas a in (q.0 ∙ nine-now four (omega arith) none, q.1 ∙ ten-before short)

  -- over the limit of now: 6, as before
  pub same-long : most_bytes < length s → say_open s w p o u v ≡ say_before s w p o u v
  same-long long = alike (sym (stop _ (lt-ltb most_bytes (length s) long) refl) ∙ sym (six-before (omega arith)))

  -- over the limit of before: 6 then, whatever it is now
  pub over-said : most_before < length s → WholeAreas w o u v → say_before s w p o u v ≡ Err TooLong
  over-said over a = (past-areas a).1 ∙ six-before over

  -- with a count that is neither, within the limit of now: 9
  pub over-other : most_before < length s → length s ≤ most_bytes → is_count (le_at 4 s 0) ≡ false → WholeAreas w o u v → say_open s w p o u v ≡ Err (BadCount 0 (le_at 4 s 0))
  over-other over within none a = (past-areas a).0 ∙ nine-now (omega arith) within none

-- and bytes with the count 10 never open there: no old file is so long
pub over-never : (s : List ℕ) → le_at 4 s 0 ≡ old_count → most_before < length s → (w p o u v : ℕ) → done (say_open s w p o u v) ≡ true → ⊥
over-never s count over w p o u v d =
    let r = (open-ready s w p o u v d).file.head in
    let l = (head_in s).levels in
    let n = (head_in s).samples in
    let k = (head_in s).width in
    let parts = both-pass (head_checks s w p) (way_checks (way_in s (head_in s)) (length s)) (open-file s w p o u v d) in
    let width : width_of (filter_of w) ≡ k = filter-width w r.known ∙ sym r.width in
    let most = file-most (filter_of w) (filter-integers w) 14 l n (own-depth (filter_of w) (filter-integers w) l n r.deep) r.short in
    let size : file_size 14 k l n ≤ most_before = subst (λ (j : ℕ). file_size 14 j l n ≤ most_before) width most in
    omega (arith, size, count, way_long s k l n (head_in s).body (way_in s (head_in s)) refl r.there parts.1)

-- an old file with bytes behind it, over the limit of before and within that of now: 12, and how many, where it was 6
pub limit-changed : {f : Filter} {l n p : ℕ} {x : List ℕ} → Recording f l n p x → (t : List ℕ) → let s = file_of f l p 0 x ++ t in most_before < length s → length s ≤ most_bytes
    → (o u v : ℕ) → Sampled (width_of f) o u v → (say_open s (width_of f) p o u v ≡ Err (Trailing (length t))) × (say_before s (width_of f) p o u v ≡ Err TooLong)
limit-changed {f} {l} {n} {p} {x} d t over within o u v a =
    let s = file_of f l p 0 x ++ t in
    let size = length-append (file_of f l p 0 x) t ∙ ap (λ (j : ℕ). j + length t) (all-length (filed d {rate = 0} (omega arith))) in
    let most = file-most f d.integers 14 l n (own-depth f d.integers l n d.deep) d.most in (
      behind-file d {rate = 0} (omega arith) t (omega (arith, size, most)) (omega (arith, size)) o u v a,
      over-said s (width_of f) p o u v over (λ _. (a.output, a.first, a.second)),
    )

-- ---- what opens

-- bytes with the count 10
module _ (s : List ℕ) (count : le_at 4 s 0 ≡ old_count) where
  head-same : head_in s ≡ head_before s
  head-same = ap (λ (c : ℕ). record { width = le_at 1 s 4; levels = le_at 1 s 5; samples = le_at 4 s 6; point = le_at 4 s 10; body = 4 + c }) count

  -- they give the samples that they gave, as many
  pub old-samples : (samples_in s ≡ samples_before s) × (count_in s ≡ count_before s)
  unfolding samples_in samples_before
  old-samples =
      let all : Head → ℕ = λ h. count_at (h.levels - whole_details (way_in s h) h.levels) h.samples in
      (ap (λ (h : Head). restored_at h.width s (whole_details (way_in s h) h.levels) (all h) h.body) head-same, ap all head-same)

  -- and no rate
  pub old-rate : (w p o u v : ℕ) → rate_opened s w p o u v ≡ 0
  unfolding rate_opened
  old-rate w p o u v = pick (done (say_open s w p o u v))
    where
      none : rate_in s ≡ 0
      none = ap (λ (c : ℕ). cond (eqb c new_count) (le_at 4 s 14) 0) count

      pick : (b : Bool) → cond b (rate_in s) 0 ≡ 0
      pick true = none
      pick false = refl

  -- 14 bytes of them or more, and no more than the limit of before
  module _ (long : 14 ≤ length s) (short : length s ≤ most_before) where
    start-pass : Passing (start_checks s)
    start-pass = (
      le-ltb most_bytes (length s) (omega arith),
      (le-ltb (length s) 4 (omega arith), (ap (λ (c : ℕ). not (is_count c)) count, (le-ltb (length s) (head_in s).body (omega (arith, count)), tt))),
    )

    before-pass : Passing (start_before s)
    before-pass = (le-ltb most_before (length s) short, (le-ltb (length s) 14 long, (same (le_at 4 s 0) old_count count, tt)))

    rate-pass : Passing (rate_checks s)
    rate-pass = (ap (λ (c : ℕ). eqb c new_count && eqb (cond (eqb c new_count) (le_at 4 s 14) 0) 0) count, tt)

    -- all that is said from section 0's fields on
    abbrev after : Head → ℕ → ℕ → ℕ → ℕ → ℕ → Outcome
    after h w p o u v =
        let m = whole_details (way_in s h) h.levels in
        let n = count_at (h.levels - m) h.samples in
        first_refusal (field_checks h w p ++ (way_checks (way_in s h) (length s) ++ rooms_for w n o u v)) (told (h.levels - m) n)

    now-says : (w p o u v : ℕ) → says_now s w p o u v ≡ after (head_in s) w p o u v
    now-says w p o u v =
        let way = way_checks (way_in s (head_in s)) (length s) ++ rooms_for w (count_in s) o u v in
        let end = told (level_in s) (count_in s) in
        pass_on (start_checks s) (field_checks (head_in s) w p ++ (rate_checks s ++ way)) end start-pass
        ∙ same-part (field_checks (head_in s) w p) (rate_checks s ++ way) way end end (pass_on (rate_checks s) way end rate-pass)

    before-says : (w p o u v : ℕ) → said_before s w p o u v ≡ after (head_before s) w p o u v
    before-says w p o u v =
        pass_on (start_before s) (field_checks (head_before s) w p ++ (way_checks (way_in s (head_before s)) (length s) ++ rooms_for w (count_before s) o u v)) (told (level_before s) (count_before s)) before-pass

    -- the opener says what it said
    pub old-says : (w p o u v : ℕ) → say_open s w p o u v ≡ say_before s w p o u v
    old-says w p o u v = alike s w p o u v (now-says w p o u v ∙ ap (λ (h : Head). after h w p o u v) head-same ∙ sym (before-says w p o u v))

    -- so the two calls, on the same areas, answer the same and leave the same output
    pub old-opens : (w p : ℕ) (o u v : List ℕ) (r q : Answer) (o₁ u₁ v₁ o₂ u₂ v₂ : List ℕ) → Open s w p o u v r o₁ u₁ v₁ → OpenBefore s w p o u v q o₂ u₂ v₂ → (r ≡ q) × (o₁ ≡ o₂)
    old-opens w p o u v r q o₁ u₁ v₁ o₂ u₂ v₂ now then =
        let e = old-says w p (length o) (length u) (length v) in
        let new : (samples_in s ++ drop (w * count_in s) o) ≡ (samples_before s ++ drop (w * count_before s) o) = ap₂ (λ (x : List ℕ) (n : ℕ). x ++ drop (w * n) o) old-samples.0 old-samples.1 in
        (now.answer ∙ ap answer_of e ∙ sym then.answer, now.output ∙ ap₂ (λ (t : Outcome) (x : List ℕ). left t x o) e new ∙ sym then.output)
