-- Every opening of the first bytes of a recording's file, whatever size its section 0 has: 10 where section 1 is not whole, and else the approximations of the
-- level that the whole sections reach.
use mathlib.Core.List.{List, ◌++◌, append-nil}
use mathlib.Core.Logic.{⊎_elim}
use mathlib.Core.Path.{◌≡◌, sym, ap, ap₂, subst, ◌∙◌}
use Prim.Native.Nat.{ℕ, ◌*◌, ◌≤◌, ◌<◌}
use native.Mathlib.Omega.{arith}
use lib.ListN.{length, take, drop, drop_of_length-le}
use Rattle.base_answers.specs.declared.err.Answer.{Answer}
use Rattle.base_answers.specs.Answers.{Outcome, say, answer_of}
use Rattle.base_answers.specs.Checks.{left}
use Rattle.base_order.proofs.Order.{lt-or-le}
use Rattle.base_lengths.specs.Levels.{after_levels, count_at}
use Rattle.levels_filter.specs.declared.filter.Filter.{Filter}
use Rattle.levels_filter.specs.Filters.{width_of}
use Rattle.levels_filter.specs.Pyramids.{approx_at}
use Rattle.file_open.specs.Files.{file_size}
use Rattle.file_open.specs.Opens.{samples_in, count_in, Open}
use Rattle.law_cuts.specs.Sees.{needed, Sampled, Roomy, level_left, Opened, Openings}
use Rattle.law_cuts.proofs.Filed.{Filed}
use Rattle.law_cuts.proofs.Whole.{first-most, whole-fits, whole-next}
use Rattle.law_cuts.proofs.Survives.{cut_short, survives, count_left}
use Rattle.law_cuts.proofs.Answers.{all_whole, only-whole}

module _ {z : ℕ} {f : Filter} {l n p : ℕ} {x s : List ℕ} (d : Filed z f l n p x s) (c : ℕ) (most : c ≤ file_size z (width_of f) l n) {o g h : List ℕ}
    (y : Sampled (width_of f) (length o) (length g) (length h))
    (room : needed z (width_of f) l n ≤ c → Roomy (width_of f) (count_at (level_left z (width_of f) l n c) n) (length o) (length g) (length h))
    {r : Answer} {o' g' h' : List ℕ} (q : Open (take c s) (width_of f) p o g h r o' g' h') where
  abbrev k : ℕ
  k = width_of f

  abbrev j : ℕ
  j = level_left z k l n c

  abbrev output_by : Outcome → List ℕ
  output_by m = left m (samples_in (take c s) ++ drop (k * count_in (take c s)) o) o

  -- cut in section 0 or 1, opening says 10 and leaves the output as it was
  below : c < needed z k l n → (r ≡ say 10 c 0) × (o' ≡ o)
  below e = let t = cut_short d y c e in (q.answer ∙ ap answer_of t, q.output ∙ ap output_by t)

  -- cut later, or not at all, it says the level and how many samples it has, and gives just its approximations
  above : needed z k l n ≤ c → (r ≡ say 0 j (count_at j n)) × (o' ≡ approx_at f j x ++ drop (k * count_at j n) o)
  above e =
      let t = survives d y c e most (room e) in (
        q.answer ∙ ap answer_of t.says,
        q.output ∙ ap output_by t.says ∙ ap₂ (λ (m : List ℕ) (i : ℕ). m ++ drop (k * i) o) t.samples (count_left d c e most),
      )

  -- the whole file gives the samples
  whole-file : c ≡ file_size z k l n → (r ≡ say 0 0 n) × (o' ≡ x ++ drop (length x) o)
  unfolding after_levels
  whole-file e =
      let i : j ≡ 0 = omega (arith, ap (level_left z k l n) e, all_whole z k l n) in
      let t = subst (λ (m : ℕ). (r ≡ say 0 m (count_at m n)) × (o' ≡ approx_at f m x ++ drop (k * count_at m n) o)) i (above (omega (arith, first-most k l n))) in
      (t.0, t.1 ∙ ap (λ (m : ℕ). x ++ drop m o) (sym d.recording.size))

  opened : Opened z f l n c x o r o'
  opened = record {
    cut = below;
    only-cut = λ ten. ⊎_elim (λ e. e) (λ (e : needed z k l n ≤ c). absurd (let i : r.number ≡ 0 = ap (λ (a : Answer). a.number) (above e).0 in omega arith)) (lt-or-le c (needed z k l n));
    level = above;
    just = λ e size.
        (above e).1 ∙ ap (λ (m : List ℕ). approx_at f j x ++ m) (drop_of_length-le o {i = k * count_at j n} (omega arith)) ∙ append-nil (approx_at f j x);
    all = whole-file;
    only-all = λ zero first.
        ⊎_elim
        (λ (e : c < needed z k l n). absurd (let i : r.number ≡ 10 = ap (λ (a : Answer). a.number) (below e).0 in omega arith))
        (λ (e : needed z k l n ≤ c).
        ⊎_elim
        (λ (less : c < file_size z k l n).
        absurd (let i : r.first ≡ j = ap (λ (a : Answer). a.first) (above e).0 in omega (arith, only-whole z k l n c d.recording.some e less)))
        (λ (all : file_size z k l n ≤ c). omega arith)
        (lt-or-le c (file_size z k l n)))
        (lt-or-le c (needed z k l n));
    within = whole-fits z k l n c;
    next = whole-next z k l n c;
  }

-- every opening
pub openings : {z : ℕ} {f : Filter} {l n p : ℕ} {x s : List ℕ} → Filed z f l n p x s → Openings z f l n p x s
openings d = λ c most o g h y room r o' g' h' q. opened d c most y room q
