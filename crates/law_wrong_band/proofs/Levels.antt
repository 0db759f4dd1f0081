-- `multi_idwt`: 2 and 17 are said of the first level that has a wrong band, with its values. Looks into no filter.
use mathlib.Core.Bool.{true, false, not}
use mathlib.Core.List.{List, [], ◌∷◌, ◌++◌, append_assoc}
use mathlib.Core.Logic.{⊎_elim}
use mathlib.Core.Path.{◌≡◌, refl, sym, ap, ◌∙◌}
use Prim.Native.Nat.{ℕ, ◌+◌, ◌/◌}
use native.Mathlib.Omega.{arith}
use borrow.Author.Tests.{le-ltb, ne_eqb, eqb-false}
use lib.Dec.{eqb}
use lib.ListN.{length}
use Rattle.base_answers.specs.declared.err.Answer.{Answer}
use Rattle.base_answers.specs.declared.err.Refusal.TheVariants.{ApproxSizeNotMatches, BadCount, DetailsSizeNotMatches}
use Rattle.std.specs.Prelude.{Err}
use Rattle.base_answers.specs.Answers.{Outcome, told, answer_of, says}
use Rattle.base_answers.specs.Checks.{Check, first_refusal}
use Rattle.base_answers.proofs.Chain.{same}
use Rattle.base_answers.proofs.Endings.{said-number}
use Rattle.base_answers.proofs.Passed.{off, Without, Passing, passed-before, pass-both, whole, roomy, right}
use Rattle.base_lengths.specs.declared.Wavelet.{Wavelet}
use Rattle.base_lengths.specs.Lengths.{most_samples, expected_approx, expected_details}
use Rattle.base_lengths.specs.Calls.{inverse_bands}
use Rattle.base_lengths.proofs.OneLevel.{expected}
use Rattle.base_samples.specs.Words.{words_of}
use Rattle.levels_filter.specs.declared.filter.Filter.{Filter}
use Rattle.levels_filter.specs.Filters.{width_of, wavelet_of}
use Rattle.levels_filter.specs.Calls.{room_checks}
use Rattle.levels_filter.specs.Backward.{most_levels, total, size_checks, band_checks, whole_checks, say_back, MultiBack, Fits}
use Rattle.law_levels.proofs.Fitting.{bands-pass}
use Rattle.law_wrong_band.specs.WrongBand.{BackBefore, LevelAt, WrongApprox, WrongDetails, WrongAt, NamesLevel}
use Rattle.law_wrong_band.proofs.TwoBands.{either, differs, quiet, named}
use Rattle.law_wrong_band.proofs.Calls.{is_whole}

-- ---- the checks of the bands, level by level

-- those of the deeper levels come first
bands-at : (w : Wavelet) (a : ℕ) (xs : List ℕ) (m : ℕ) (ys : List ℕ) (n : ℕ) → n ≡ a + total xs
    → band_checks w a (xs ++ (m ∷ ys)) ≡ band_checks w a xs ++ (inverse_bands w (n + m) n m ++ band_checks w (n + m) ys)
unfolding band_checks total
bands-at w a [] m ys n e = let z : n ≡ a = omega arith in rw z refl
bands-at w a (x ∷ xs) m ys n e =
    ap (λ (l : List Check). inverse_bands w (a + x) a x ++ l) (bands-at w (a + x) xs m ys n (omega arith))

-- a level more in front
deeper-by : (w : Wavelet) (Wrong : ℕ → ℕ → Type 0) (a m : ℕ) (ms : List ℕ) → Passing (inverse_bands w (a + m) a m) → WrongAt w Wrong (a + m) ms → WrongAt w Wrong a (m ∷ ms)
unfolding Fits total
deeper-by w Wrong a m ms p t =
    let e = expected w a m (a + m) refl (right a (expected_approx (a + m)) p.0) (right m (expected_details w (a + m)) p.1.0) in
    let l = t.level in
    record {
      level = record {
        deeper = m ∷ l.deeper;
        details = l.details;
        finer = l.finer;
        lengths = ap (λ (r : List ℕ). m ∷ r) l.lengths;
        fits = (e.0, e.1, e.2, l.fits);
        approx = l.approx;
        restored = omega (arith, l.restored);
      };
      wrong = t.wrong;
    }

-- no level before it
deepest : (w : Wavelet) (Wrong : ℕ → ℕ → Type 0) (a m : ℕ) (ms : List ℕ) → Wrong a m → WrongAt w Wrong a (m ∷ ms)
unfolding Fits total
deepest w Wrong a m ms h =
    record { level = record { deeper = []; details = m; finer = ms; lengths = refl; fits = tt; approx = a; restored = omega arith }; wrong = h }

-- the first level at which n is said: Wrong is what the level then has, by which of its two checks says n
level-at : (n : ℕ) (w : Wavelet) (Wrong : ℕ → ℕ → Type 0) (room : List Check)
    → ((a d : ℕ) → let m = a + d in says n (Err (ApproxSizeNotMatches (expected_approx m) a)) ≡ true → WrongApprox a d → Wrong a d)
    → ((a d : ℕ) → let m = a + d in says n (Err (DetailsSizeNotMatches (expected_details w m) d)) ≡ true → WrongDetails w a d → Wrong a d)
    → Without n room → says n (told 0 0) ≡ false → (a : ℕ) (ms : List ℕ) → says n (first_refusal (band_checks w a ms ++ room) (told 0 0)) ≡ true → WrongAt w Wrong a ms
unfolding band_checks
level-at n w Wrong room p q o z a [] h = quiet n room o z h
level-at n w Wrong room p q o z a (d ∷ ms) h =
    let m = a + d in
    let two = ApproxSizeNotMatches (expected_approx m) a in
    let seventeen = DetailsSizeNotMatches (expected_details w m) d in
    ⊎_elim (λ t. deepest w Wrong a d ms (p a d t.1 (differs a (expected_approx m) t.0)))
    (λ f.
    ⊎_elim (λ t. deepest w Wrong a d ms (q a d t.2 (right a (expected_approx m) t.0, differs d (expected_details w m) t.1)))
    (λ t. deeper-by w Wrong a d ms (t.0, (t.1, tt)) (level-at n w Wrong room p q o z m ms t.2)) f)
    (either n (not (eqb a (expected_approx m))) (not (eqb d (expected_details w m))) two seventeen (band_checks w m ms ++ room) (told 0 0) h)

-- ---- the call

pub back-names : (f : Filter) (a d ls o u v : List ℕ) (r : Answer) (o' u' v' : List ℕ) → MultiBack f a d ls o u v r o' u' v'
    → NamesLevel (BackBefore (width_of f) (length a) (length d) ls (length o) (length u) (length v)) (wavelet_of f) (length a / width_of f) (words_of 4 ls) r
unfolding say_back
back-names f a d ls o u v r o' u' v' h =
    record {
      wrong = λ t.
          let m = t.approx + t.details in
          named (before ++ band_checks w i t.deeper) (band_checks w m t.finer ++ room) t.approx (expected_approx m) t.details (expected_details w m) (expected_approx m, t.approx) (expected_details w m, t.details) r
          (λ b. pass-both before (band_checks w i t.deeper) (to b) (bands-pass w i t.deeper t.fits))
          (h.answer ∙ ap (λ (l : List Check). answer_of (first_refusal l (told 0 0))) (parts t));
      says_two = λ g.
          let p = passed-before 2 before (band_checks w i ms ++ room) (told 0 0) (refl, (refl, (refl, (refl, (refl, (refl, (refl, (refl, (refl, (refl, (refl, (refl, (refl, tt))))))))))))) (said-number 2 said r h.answer g) in
          (from p.0, level-at 2 w WrongApprox room (λ a d s h. h) (λ a d s. off refl s) (refl, (refl, (refl, tt))) refl i ms p.1);
      says-seventeen = λ g.
          let p = passed-before 17 before (band_checks w i ms ++ room) (told 0 0) (refl, (refl, (refl, (refl, (refl, (refl, (refl, (refl, (refl, (refl, (refl, (refl, (refl, tt))))))))))))) (said-number 17 said r h.answer g) in
          (from p.0, level-at 17 w (WrongDetails w) room (λ a d s h. off refl s) (λ a d s h. h) (refl, (refl, (refl, tt))) refl i ms p.1);
    }
  where
    k : ℕ
    k = width_of f

    w : Wavelet
    w = wavelet_of f

    i : ℕ
    i = length a / k

    j : ℕ
    j = length d / k

    n : ℕ
    n = length o / k

    ms : List ℕ
    ms = words_of 4 ls

    said : Outcome
    said = say_back f (length a) (length d) ls (length o) (length u) (length v)

    before : List Check
    before = whole_checks k (length a) (length d) (length ls) (length o) (length u) (length v) ++ (size_checks i j (length ms) n ++ ((not (eqb (total ms) j), BadCount 0 (total ms)) ∷ []))

    room : List Check
    room = room_checks (i + j) n (length u / k) (length v / k)

    to : BackBefore k (length a) (length d) ls (length o) (length u) (length v) → Passing before
    to b = (
      is_whole k (length a) b.approx,
      (
        is_whole k (length d) b.details,
        (
          is_whole 4 (length ls) b.lengths,
          (
            is_whole k (length o) b.output,
            (
              is_whole k (length u) b.first,
              (
                is_whole k (length v) b.second,
                (
                  le-ltb most_samples n b.output-short,
                  (
                    le-ltb most_samples i b.approx-short,
                    (
                      le-ltb most_samples j b.details-short,
                      (
                        le-ltb most_levels (length ms) b.lengths-most,
                        (ne_eqb (length ms) 0 (λ z. omega (arith, b.lengths_some)), (ne_eqb i 0 (λ z. omega (arith, b.approx-some)), (same (total ms) j b.sum, tt))),
                      ),
                    ),
                  ),
                ),
              ),
            ),
          ),
        ),
      ),
    )

    from : Passing before → BackBefore k (length a) (length d) ls (length o) (length u) (length v)
    from p =
        let q = p.1.1.1.1.1.1 in
        let s = q.1.1.1.1 in
        record {
          approx = whole k (length a) p.0;
          details = whole k (length d) p.1.0;
          lengths = whole 4 (length ls) p.1.1.0;
          output = whole k (length o) p.1.1.1.0;
          first = whole k (length u) p.1.1.1.1.0;
          second = whole k (length v) p.1.1.1.1.1.0;
          output-short = roomy most_samples n q.0;
          approx-short = roomy most_samples i q.1.0;
          details-short = roomy most_samples j q.1.1.0;
          lengths-most = roomy most_levels (length ms) q.1.1.1.0;
          lengths_some = omega (arith, eqb-false (length ms) 0 s.0);
          approx-some = omega (arith, eqb-false i 0 s.1.0);
          sum = right (total ms) j s.1.1.0;
        }

    parts : (t : LevelAt w i ms) → let m = t.approx + t.details in
        before ++ (band_checks w i ms ++ room) ≡ (before ++ band_checks w i t.deeper) ++ (inverse_bands w m t.approx t.details ++ (band_checks w m t.finer ++ room))
    parts t =
        let m = t.approx + t.details in
        let b = inverse_bands w m t.approx t.details in
        ap (λ (l : List Check). before ++ (l ++ room)) (ap (band_checks w i) t.lengths ∙ bands-at w i t.deeper t.details t.finer t.approx t.restored)
        ∙ ap (λ (l : List Check). before ++ l) (append_assoc (band_checks w i t.deeper) (b ++ band_checks w m t.finer) room)
        ∙ sym (append_assoc before (band_checks w i t.deeper) (b ++ (band_checks w m t.finer ++ room)))
