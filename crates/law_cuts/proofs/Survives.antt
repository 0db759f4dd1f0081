-- A file that was cut anywhere, from document 01: opening its first b bytes is 10 where section 1 is cut, and else gives the finest level that the whole
-- sections reach, with just the approximations of that level; all of the file gives the samples. Each of the integer filters.
use mathlib.Core.Bool.{false}
use mathlib.Core.List.{List, [], ◌++◌, append_assoc}
use mathlib.Core.Logic.{⊎_elim}
use mathlib.Core.Path.{◌≡◌, sym, ap, ap₂, subst, ◌∙◌}
use Prim.Native.Nat.{ℕ, ◌+◌, ◌-◌, ◌*◌, ◌/◌, ◌≤◌, ◌<◌}
use native.Mathlib.Nat.{le-div_iff_mul-le, mul_comm}
use native.Mathlib.Omega.{arith}
use borrow.Author.Tests.{le-ltb, ne_eqb}
use lib.Dec.{ltb}
use lib.ListN.{length, take, length-append}
use Rattle.std.specs.Prelude.{Err}
use Rattle.base_answers.specs.declared.err.Refusal.TheVariants.{CutShort}
use Rattle.base_answers.specs.Answers.{Outcome, told}
use Rattle.base_answers.specs.Checks.{Check, first_refusal}
use Rattle.base_order.proofs.Order.{lt-or-le}
use Rattle.base_answers.proofs.Passed.{Passing, pass-both, through, pass_on}
use Rattle.base_lengths.specs.Levels.{count_at}
use Rattle.levels_filter.proofs.Integers.{own-depth}
use Rattle.levels_filter.specs.declared.filter.Filter.{Filter}
use Rattle.levels_filter.specs.Filters.{width_of}
use Rattle.levels_filter.specs.Pyramids.{approx_at}
use Rattle.levels_filter.proofs.Cuts.{width-pos}
use Rattle.file_open.specs.declared.head.Head.{Head}
use Rattle.file_open.specs.declared.walk.Way.{Way}
use Rattle.file_open.specs.Files.{body_of, body_size, file_size}
use Rattle.file_open.specs.Walks.{walk_of, restored_at}
use Rattle.file_open.specs.Opens.{head_in, head_checks, way_in, way_checks, file_checks, whole_details, level_in, count_in, samples_in, area_checks, rooms_for, say_open}
use Rattle.file_open.proofs.Opening.{whole-areas-pass}
use Rattle.law_cuts.specs.Sees.{Sampled, Roomy, OpensTo, needed, whole_of, whole_in, level_left, way_within}
use Rattle.law_cuts.proofs.Sized.{body-length}
use Rattle.law_cuts.proofs.CutWalk.{walk-cut, within-whole}
use Rattle.law_cuts.proofs.Restored.{restored-cut, whole-all}
use Rattle.law_cuts.proofs.Filed.{Filed, cut_parts, cut-length}
use Rattle.law_cuts.proofs.Whole.{first-most, within_none, within-short, whole_is}

enough : (k c o : ℕ) → 0 < k → k * c ≤ o → ltb (o / k) c ≡ false
enough k c o kp h = le-ltb (o / k) c ((le-div_iff_mul-le kp).1 (omega (arith, mul_comm k c)))

rooms-pass : (k c o u v : ℕ) → 0 < k → Roomy k c o u v → Passing (rooms_for k c o u v)
rooms-pass k c o u v kp r = (enough k c o kp r.output, (enough k c u kp r.first, (enough k c v kp r.second, tt)))

module _ {z : ℕ} {f : Filter} {l n p : ℕ} {x s : List ℕ} (d : Filed z f l n p x s) where
  abbrev k : ℕ
  k = width_of f

  -- the walk over the first b bytes of the file
  pub way-is : (b : ℕ) → z ≤ b → b ≤ file_size z k l n → way_in (take b s) (head_in (take b s)) ≡ way_within k l n z (b - z)
  way-is b c e =
      let r = d.recording in
      let body = body_of f l n x in
      let room : b - z ≤ length (body ++ []) = omega (arith, length-append body [], body-length f l n x r.size) in
      ap (way_in (take b s)) (d.head b c)
      ∙ ap (λ (t : List ℕ). walk_of t k l n z) (cut_parts d b c)
      ∙ subst (λ (q : ℕ). walk_of (d.front ++ take (b - z) (body ++ [])) k l n q ≡ way_within k l n q (b - z)) d.long
      (walk-cut f l n x d.front [] (b - z) r.size (omega (arith, r.most)) room)

  -- so many sections of details are whole
  pub details-are : (b : ℕ) → needed z k l n ≤ b → b ≤ file_size z k l n → whole_details (way_in (take b s) (head_in (take b s))) l ≡ whole_of z k l n b
  details-are b c e =
      let j = b - z in
      ap (λ (v : Way). whole_details v l) (way-is b (omega arith) e)
      ∙ ⊎_elim
      (λ (h : j < body_size k l n).
      let m = whole_in k l n j in
      let q : m + 2 - 2 ≡ m = omega arith in
      ap (λ (v : Way). whole_details v l) (within-short k l n z j (omega arith) h) ∙ q)
      (λ (h : body_size k l n ≤ j). sym (ap (λ (v : Way). whole_details v l) (within-whole k l n z j h)) ∙ sym (whole-all k l n j h))
      (lt-or-le j (body_size k l n))
      ∙ whole_is z k l n b c

  -- and the walk passes
  way-passes : (b : ℕ) → needed z k l n ≤ b → b ≤ file_size z k l n → Passing (way_checks (way_in (take b s) (head_in (take b s))) (length (take b s)))
  way-passes b c e =
      let j = b - z in
      let size = cut-length d b e in
      rw (way-is b (omega arith) e)
      (⊎_elim
      (λ (h : j < body_size k l n).
      rw (within-short k l n z j (omega arith) h) (ne_eqb (whole_in k l n j + 2) 1 (λ z. omega arith), tt))
      (λ (h : body_size k l n ≤ j). rw (← within-whole k l n z j h) (le-ltb (z + body_size k l n) (length (take b s)) (omega arith), tt))
      (lt-or-le j (body_size k l n)))

  -- the level that is given back
  pub level-is : (b : ℕ) → needed z k l n ≤ b → b ≤ file_size z k l n → level_in (take b s) ≡ level_left z k l n b
  level-is b c e =
      let way = way_in (take b s) (head_in (take b s)) in
      ap (λ (h : Head). h.levels - whole_details way h.levels) (d.head b (omega arith)) ∙ ap (λ (m : ℕ). l - m) (details-are b c e)

  -- how many samples it has
  pub count_left : (b : ℕ) → needed z k l n ≤ b → b ≤ file_size z k l n → count_in (take b s) ≡ count_at (level_left z k l n b) n
  count_left b c e = ap₂ count_at (level-is b c e) (ap (λ (h : Head). h.samples) (d.head b (omega arith)))

  -- and which: the approximations of that level
  pub samples-are : (b : ℕ) → needed z k l n ≤ b → b ≤ file_size z k l n → samples_in (take b s) ≡ approx_at f (level_left z k l n b) x
  unfolding samples_in
  samples-are b c e =
      let t = take b s in
      let j = b - z in
      let r = d.recording in
      let cut = d.front ++ take j (body_of f l n x ++ []) in
      let way = way_in t (head_in t) in
      let m = whole_of z k l n b in
      ap (λ (h : Head). restored_at h.width t (whole_details way h.levels) (count_in t) h.body) (d.head b (omega arith))
      ∙ ap₂ (λ (q c : ℕ). restored_at k t q c z) (details-are b c e) (count_left b c e)
      ∙ ap (λ (u : List ℕ). restored_at k u m (count_at (l - m) n) z) (cut_parts d b (omega arith))
      ∙ subst (λ (q : ℕ). restored_at k cut q (count_at (l - q) n) z ≡ approx_at f (l - q) x) (whole_is z k l n b c)
      (subst (λ (a : ℕ). restored_at k cut (whole_in k l n j) (count_at (l - whole_in k l n j) n) a ≡ approx_at f (l - whole_in k l n j) x) d.long
      (restored-cut f r.integers l n x d.front [] j r.bytes r.size (own-depth f r.integers l n r.deep) (omega arith)))

  -- cut in section 0 or 1: "10", whatever is checked after the file
  pub file-short : (b : ℕ) → b < needed z k l n → (m : List Check) (e : Outcome) → first_refusal (file_checks (take b s) k p ++ m) e ≡ Err (CutShort b)
  file-short b c m e =
      let t = take b s in
      let heads = head_checks t k p in
      let ways = way_checks (way_in t (head_in t)) (length t) in
      let most : b ≤ file_size z k l n = omega (arith, first-most k l n) in
      ap (λ (q : List Check). first_refusal q e) (append_assoc heads ways m)
      ∙ ⊎_elim
      (λ (h : b < z). d.early b h (ways ++ m) e)
      (λ (h : z ≤ b).
      pass_on heads (ways ++ m) e (d.passes b h most)
      ∙ ap (λ (y : Way). first_refusal (way_checks y (length t) ++ m) e) (way-is b h most ∙ within_none k l n z (b - z) (omega arith))
      ∙ ap (λ (n : ℕ). Err (CutShort n)) (cut-length d b most))
      (lt-or-le b z)

  -- cut later, or not at all, the file passes
  pub file-passes : (b : ℕ) → needed z k l n ≤ b → b ≤ file_size z k l n → Passing (file_checks (take b s) k p)
  file-passes b c e = let t = take b s in pass-both (head_checks t k p) (way_checks (way_in t (head_in t)) (length t)) (d.passes b (omega arith) e) (way-passes b c e)

  module _ {o u v : ℕ} (a : Sampled (width_of f) o u v) where
    areas-by : (m : List Check) (e : Outcome) → first_refusal (area_checks k o u v ++ m) e ≡ first_refusal m e
    areas-by m e = pass_on (area_checks k o u v) m e (whole-areas-pass k o u v (λ _. (a.output, a.first, a.second)))

    -- cut in section 0 or 1: "10"
    pub cut_short : (b : ℕ) → b < needed z k l n → say_open (take b s) k p o u v ≡ Err (CutShort b)
    unfolding say_open
    cut_short b c = let t = take b s in let rooms = rooms_for k (count_in t) o u v in areas-by (file_checks t k p ++ rooms) _ ∙ file-short b c rooms _

    -- cut later, or not at all: nothing but the room decides
    pub rooms-decide : (b : ℕ) → needed z k l n ≤ b → b ≤ file_size z k l n
        → let i = level_left z k l n b in say_open (take b s) k p o u v ≡ first_refusal (rooms_for k (count_at i n) o u v) (told i (count_at i n))
    unfolding say_open
    rooms-decide b c e =
        let t = take b s in
        let rooms = rooms_for k (count_in t) o u v in
        areas-by (file_checks t k p ++ rooms) _
        ∙ pass_on (file_checks t k p) rooms _ (file-passes b c e)
        ∙ ap₂ (λ (i j : ℕ). first_refusal (rooms_for k j o u v) (told i j)) (level-is b c e) (count_left b c e)

    -- with room for the level that the whole sections reach: that level, and just its approximations
    pub survives : (b : ℕ) → needed z k l n ≤ b → b ≤ file_size z k l n
        → let i = level_left z k l n b in Roomy k (count_at i n) o u v → OpensTo (take b s) k p o u v i (count_at i n) (approx_at f i x)
    survives b c e g =
        let i = level_left z k l n b in
        record {
          says = rooms-decide b c e ∙ through (rooms_for k (count_at i n) o u v) (told i (count_at i n)) (rooms-pass k (count_at i n) o u v (width-pos f) g);
          samples = samples-are b c e;
        }
