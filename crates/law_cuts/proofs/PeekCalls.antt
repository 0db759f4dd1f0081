-- One sample of a file that was cut anywhere: 10 where section 1 is not whole, and else the approximation of the level that the whole sections reach, which demand 3
-- speaks of. Each of the integer filters.
use mathlib.Core.List.{List, [], ◌∷◌}
use mathlib.Core.Logic.{⊎_elim}
use mathlib.Core.Path.{◌≡◌, ap, subst, ◌∙◌}
use Prim.Native.Nat.{ℕ, ◌*◌, ◌/◌, ◌^◌, ◌≤◌, ◌<◌}
use native.Mathlib.Omega.{arith}
use borrow.Author.Tests.{ne_eqb}
use lib.IntN.{pos}
use lib.ListN.{length, take}
use Rattle.std.specs.Prelude.{Err}
use Rattle.base_answers.specs.declared.err.Answer.{Answer}
use Rattle.base_answers.specs.declared.err.Refusal.TheVariants.{CutShort}
use Rattle.base_answers.specs.Answers.{told, say, answer_of, done}
use Rattle.base_answers.specs.Checks.{outside}
use Rattle.base_answers.proofs.Passed.{through}
use Rattle.base_order.proofs.Order.{lt-or-le}
use Rattle.base_lengths.specs.declared.Wavelet.TheVariants.{Cdf53}
use Rattle.base_lengths.specs.Lengths.{most_samples}
use Rattle.base_lengths.specs.Levels.{after_levels, count_at, depth_of, levels_of}
use Rattle.base_lengths.proofs.OneLevel.{count-is}
use Rattle.base_samples.specs.Le.{Bytes}
use Rattle.base_samples.specs.Words.{word_at}
use Rattle.base_samples.specs.Integers.{val}
use Rattle.levels_filter.specs.declared.filter.Filter.{Filter}
use Rattle.levels_filter.specs.Filters.{width_of, Integers}
use Rattle.levels_filter.specs.Pyramids.{approx_at}
use Rattle.levels_filter.specs.Backward.{Area}
use Rattle.levels_filter.proofs.Cuts.{width-pos}
use Rattle.file_open.specs.Files.{new_size, file_of, file_size}
use Rattle.file_open.specs.Opens.{file_checks, level_in, count_in, say_file}
use Rattle.file_open.specs.Writes.{Write}
use Rattle.file_sample.specs.declared.PeekAnswer.{PeekAnswer}
use Rattle.file_sample.specs.Peeks.{say_peek, Peek}
use Rattle.file_sample.proofs.Peeking.{say-past, say-done, peek-none, peek-some}
use Rattle.law_cuts.specs.Sees.{needed, level_left, Peeked, Peekings}
use Rattle.law_cuts.proofs.Filed.{Filed}
use Rattle.law_cuts.proofs.Whole.{first-most}
use Rattle.law_cuts.proofs.Survives.{count_left, samples-are, file-short, file-passes}
use Rattle.law_cuts.proofs.Answers.{all_whole}
use Rattle.law_cuts.proofs.Kept.{written, front-in}
use Rattle.law_cuts.proofs.Demand3.{old-filed, demand3-calls}

-- in the first c bytes of a recording's file
module _ {z : ℕ} {f : Filter} {l n p : ℕ} {x s : List ℕ} (d : Filed z f l n p x s) (c : ℕ) (most : c ≤ file_size z (width_of f) l n) (j : ℕ) (q : PeekAnswer) (m : Peek (take c s) (width_of f) p j q) where
  abbrev k : ℕ
  k = width_of f

  abbrev i : ℕ
  i = level_left z k l n c

  below : c < needed z k l n → (q.answer ≡ say 10 c 0) × (q.sample ≡ pos 0)
  unfolding say_peek
  below e =
      let h : say_peek (take c s) k p j ≡ Err (CutShort c) = file-short d c e (outside j (count_in (take c s)) ∷ []) (told 0 0) in
      (m.answer ∙ ap answer_of h, m.sample ∙ peek-none (take c s) k p j (ap done h))

  taken : needed z k l n ≤ c → say_file (take c s) k p ≡ told (level_in (take c s)) (count_in (take c s))
  unfolding say_file
  taken e = through (file_checks (take c s) k p) (told (level_in (take c s)) (count_in (take c s))) (file-passes d c e most)

  within : needed z k l n ≤ c → j < count_at i n → (q.answer ≡ say 0 0 0) × (q.sample ≡ val (256 ^ k) (word_at k (approx_at f i x) j))
  within e h =
      let t = say-done (take c s) k p j (ap done (taken e)) (omega (arith, count_left d c e most)) in
      (m.answer ∙ ap answer_of t, m.sample ∙ peek-some (take c s) k p j t ∙ ap (λ (y : List ℕ). val (256 ^ k) (word_at k y j)) (samples-are d c e most))

  beyond : needed z k l n ≤ c → count_at i n ≤ j → (q.answer ≡ say 13 j (count_at i n)) × (q.sample ≡ pos 0)
  beyond e h =
      let o = count_left d c e most in
      let t = say-past (take c s) k p j (ap done (taken e)) (omega (arith, o)) in
      (m.answer ∙ ap answer_of t ∙ ap (say 13 j) o, m.sample ∙ peek-none (take c s) k p j (ap done t))

  whole-file : c ≡ file_size z k l n → j < n → (q.answer ≡ say 0 0 0) × (q.sample ≡ val (256 ^ k) (word_at k x j))
  unfolding after_levels
  whole-file e h =
      let none : i ≡ 0 = omega (arith, ap (level_left z k l n) e, all_whole z k l n) in
      subst (λ (o : ℕ). j < count_at o n → (q.answer ≡ say 0 0 0) × (q.sample ≡ val (256 ^ k) (word_at k (approx_at f o x) j))) none (within (omega (arith, first-most k l n))) h

  peeked : Peeked z f l n c x j q
  peeked =
      record {
        cut = below;
        only-cut = λ ten.
            ⊎_elim
            (λ e. e)
            (λ (e : needed z k l n ≤ c).
            absurd
            (⊎_elim
            (λ (h : j < count_at i n). let y : q.answer.number ≡ 0 = ap (λ (a : Answer). a.number) (within e h).0 in omega arith)
            (λ (h : count_at i n ≤ j). let y : q.answer.number ≡ 13 = ap (λ (a : Answer). a.number) (beyond e h).0 in omega arith)
            (lt-or-le j (count_at i n))))
            (lt-or-le c (needed z k l n));
        level = within;
        past = beyond;
        all = whole-file;
      }

-- every asking
pub peekings : {z : ℕ} {f : Filter} {l n p : ℕ} {x s : List ℕ} → Filed z f l n p x s → Peekings z f l n p x s
peekings d = λ c e j q m. peeked d c e j q m

-- the first bytes of what a done write left
pub written-peeks : (f : Filter) (l p rate : ℕ) (x : List ℕ) → Integers f → Bytes x → p < 2 ^ 32 → rate < 2 ^ 32 → (b u v : List ℕ) (a : Answer) (b' u' v' : List ℕ)
    → Write f l p rate x b u v a b' u' v' → a.number ≡ 0 → Peekings new_size f (levels_of l) (length x / width_of f) p x b'
written-peeks f l p rate x i bx hp hr b u v a b' u' v' w z = λ c e j q m.
    peekings (written f l p rate x i bx hp hr b u v a b' u' v' w z) c e j q (subst (λ (s : List ℕ). Peek s (width_of f) p j q) (front-in f l p rate x i bx hp hr b u v a b' u' v' w z c e) m)

-- demand 3, one sample at a time: with room the write is done, and each front of what it wrote is asked as `Peekings` says
pub demand3-peeks : (f : Filter) → Integers f → (L n p rate : ℕ) → 1 ≤ L → L ≤ depth_of Cdf53 n → n ≤ most_samples → p < 2 ^ 32 → 1 ≤ rate → rate < 2 ^ 32 → (x : List ℕ) → Bytes x → length x ≡ width_of f * n
    → (b u v : List ℕ) → file_size new_size (width_of f) L n ≤ length b → Area (width_of f) (length x) u → Area (width_of f) (length x) v
    → (a : Answer) (b' u' v' : List ℕ) → Write f L p rate x b u v a b' u' v' → (a ≡ say 0 0 0) × Peekings new_size f L n p x b'
demand3-peeks f i L n p rate some deep most hp hy hr x bx size b u v file first second a b' u' v' w =
    let el : levels_of L ≡ L = rw (ne_eqb L 0 (λ z. omega arith)) in
    let en : length x / width_of f ≡ n = count-is (width_of f) n (length x) (width-pos f) size in
    let t = (demand3-calls f i L n p rate some deep most hp hy hr x bx size b u v file first second a b' u' v' w).0 in
    let all = written-peeks f L p rate x i bx hp hr b u v a b' u' v' w (ap (λ (q : Answer). q.number) t) in
    (t, subst (λ (m : ℕ). Peekings new_size f L m p x b') en (subst (λ (m : ℕ). Peekings new_size f m (length x / width_of f) p x b') el all))

-- the same for old files, as a law about their bytes
pub demand3-old-peeks : (f : Filter) → Integers f → (L n p : ℕ) → 1 ≤ L → L ≤ depth_of Cdf53 n → n ≤ most_samples → p < 2 ^ 32 → (x : List ℕ) → Bytes x → length x ≡ width_of f * n
    → Peekings 14 f L n p x (file_of f L p 0 x)
demand3-old-peeks f i L n p some deep most hp x bx size = peekings (old-filed f i L n p some deep most hp x bx size)
