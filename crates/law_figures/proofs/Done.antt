-- Each call of each filter is done with eight samples, at one level and at two: by the laws of lengths that fit, so that no sample is looked at.
use mathlib.Core.List.{List}
use mathlib.Core.Path.{◌≡◌, refl, ap, ◌∙◌}
use Prim.Native.Nat.{ℕ, ◌*◌, ◌%◌, ◌≤◌}
use native.Mathlib.Nat.{mul-mod_right}
use native.Mathlib.Omega.{arith}
use lib.ListN.{length}
use Rattle.base_answers.specs.declared.err.Answer.{Answer}
use Rattle.base_answers.specs.Answers.{Outcome, told, answer_of}
use Rattle.base_lengths.specs.declared.Wavelet.{Wavelet}
use Rattle.base_lengths.specs.declared.Wavelet.TheVariants.{Cdf53, Cdf97}
use Rattle.base_lengths.specs.Lengths.{smallest_of}
use Rattle.base_lengths.specs.Calls.{Level}
use Rattle.base_lengths.specs.Levels.{after_levels, depth_within, depth_from, depth_of}
use Rattle.base_lengths.proofs.OneLevel.{forward-fits, inverse-fits}
use Rattle.base_samples.specs.Le.{Bytes, le_at}
use Rattle.base_samples.specs.Words.{tabulate, word_at, words_of}
use Rattle.levels_filter.specs.declared.filter.Filter.{Filter}
use Rattle.levels_filter.specs.Filters.{width_of, wavelet_of, Integers}
use Rattle.levels_filter.specs.Pyramids.{lengths_of}
use Rattle.levels_filter.specs.Calls.{Ready}
use Rattle.levels_filter.specs.Backward.{total, Rising}
use Rattle.levels_filter.proofs.Cuts.{width-pos}
use Rattle.law_levels.proofs.Fitting.{lengths-fit, back_fits, multi-fits, dwt-fits}
use Rattle.law_cuts.proofs.Filed.{Recording}
use Rattle.law_cuts.proofs.WrittenHead.{filed}
use Rattle.law_cuts.proofs.Answers.{opens-whole}
use Rattle.law_cuts.proofs.WriteFits.{write-fits}
use Rattle.law_figures.specs.ShutOut.{Long, two_four, EachDone}

-- the number of a done answer
pub number_of : {r : Answer} {s : Outcome} {a b : ℕ} → r ≡ answer_of s → s ≡ told a b → r.number ≡ 0
number_of e h = ap (λ (q : Answer). q.number) (e ∙ ap answer_of h)

-- eight samples are long enough for each wavelet, and have two levels
pub deep : (w : Wavelet) → depth_of w 8 ≡ 2
unfolding depth_from depth_within
deep Cdf53 = refl
deep Cdf97 = refl

long : (w : Wavelet) → smallest_of w ≤ 8
long Cdf53 = omega arith
long Cdf97 = omega arith

module _ (f : Filter) where
  abbrev k : ℕ
  k = width_of f

  level : (x a d : ℕ) → x ≡ k * 8 → a ≡ k * 4 → d ≡ k * 4 → Level (wavelet_of f) k 8 x a d
  level x a d ex ea ed = record { long = long (wavelet_of f); short = omega arith; samples = ex; approx = ea; details = ed }

  ready : (x u v : ℕ) → x ≡ k * 8 → u ≡ k * 8 → v ≡ k * 8 → Ready f 2 8 x u v
  ready x u v ex eu ev = record { some = omega arith; deep = omega (arith, deep (wavelet_of f)); short = omega arith; whole = ex; first = omega (arith, eu); second = omega (arith, ev) }

  rising : (d u v o : ℕ) → d ≡ k * 6 → u ≡ k * 8 → v ≡ k * 8 → o ≡ k * 8 → Rising f 2 (words_of 4 two_four) d u v o
  unfolding after_levels lengths_of total le_at tabulate word_at words_of
  rising d u v o ed eu ev eo =
      record {
        fits = lengths-fit (wavelet_of f) 2 8 (omega (arith, deep (wavelet_of f)));
        short = omega arith;
        details = ed;
        first = omega (arith, eu);
        second = omega (arith, ev);
        output = eo;
      }

  recording : (x : List ℕ) → Integers f → Bytes x → Long f 8 x → Recording f 2 8 14 x
  recording x i b e = record { integers = i; bytes = b; size = e; least = omega arith; most = omega arith; some = omega arith; deep = omega (arith, deep Cdf53); point = omega arith }

  whole : (o : ℕ) → o ≡ k * 8 → o % k ≡ 0
  whole o e = rw e (mul-mod_right k 8)

  pub each-done : EachDone f
  unfolding after_levels
  each-done =
      record {
        forward = λ {x} {a} {d} ex ea ed m. number_of m.answer (forward-fits (wavelet_of f) k 8 (length x) (length a) (length d) (width-pos f) (level (length x) (length a) (length d) ex ea ed));
        inverse = λ {a} {d} {o} ea ed eo m. number_of m.answer (inverse-fits (wavelet_of f) k 8 (length o) (length a) (length d) (width-pos f) (level (length o) (length a) (length d) eo ea ed));
        last = λ {x} {a} {d} {u} {v} ex ea ed eu ev m. number_of m.answer (dwt-fits f 2 8 8 8 (length x) (length a) (length d) (length u) (length v) (ready (length x) (length u) (length v) ex eu ev) ea ed eu ev);
        down = λ x o u v ex eo eu ev m. number_of m.answer (multi-fits f 2 8 8 8 (length x) (length o) (length u) (length v) (ready (length x) (length u) (length v) ex eu ev) eo eu ev);
        back = λ a d o u v ea ed eo eu ev m.
            number_of m.answer (back_fits f 2 2 8 8 two_four (length a) (length d) (length o) (length u) (length v) ea (rising (length d) (length u) (length v) (length o) ed eu ev eo) refl (omega arith) eu ev);
        writes = λ i x b u v ex eb eu ev m.
            number_of m.answer (write-fits f 2 8 1000 8 8 (length x) (length b) (length u) (length v) (ready (length x) (length u) (length v) ex eu ev) (omega (arith, eb)) (omega arith) eu ev);
        opens = λ i rate hr x o u v bx ex eo eu ev m.
            number_of m.answer
            (opens-whole (filed (recording x i bx ex) hr)
            (record { output = whole (length o) eo; first = whole (length u) eu; second = whole (length v) ev })
            (record { output = omega (arith, eo); first = omega (arith, eu); second = omega (arith, ev) })).says;
      }
