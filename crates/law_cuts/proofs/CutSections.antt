-- Looking a section up in a file that was cut anywhere: a section that is whole is found, and its bytes are its band: section 1 the deepest approximations, the
-- others the details of their level. One that is not whole is 10. Each of the integer filters.
use mathlib.Core.Bool.{Bool, cond}
use mathlib.Core.List.{List, [], ◌++◌, append_assoc, append-nil}
use mathlib.Core.Logic.{⊎_elim}
use mathlib.Core.Path.{◌≡◌, sym, ap, ap₂, subst, ◌∙◌}
use Prim.Native.Nat.{ℕ, zero, suc, ◌+◌, ◌-◌, ◌*◌, ◌≤◌, ◌<◌}
use native.Mathlib.Nat.{zero-add, suc-add}
use native.Mathlib.Omega.{arith}
use borrow.Author.Tests.{le-ltb, ne_eqb}
use lib.ListN.{length, take, drop}
use lib.Seq.{drop_at}
use Rattle.std.specs.Prelude.{Err}
use Rattle.base_answers.proofs.Passed.{pass_on}
use Rattle.base_answers.specs.declared.err.Refusal.TheVariants.{CutShort}
use Rattle.base_answers.specs.Answers.{Outcome, told}
use Rattle.base_answers.specs.Checks.{Check, first_refusal}
use Rattle.base_order.proofs.Order.{lt-or-le}
use Rattle.base_lengths.specs.Lengths.{approx_length, details_length}
use Rattle.base_lengths.specs.Levels.{after_levels, count_at}
use Rattle.base_lengths.proofs.Counts.{count-at-le}
use Rattle.levels_filter.specs.declared.filter.Filter.{Filter}
use Rattle.levels_filter.specs.Filters.{width_of, low_of, high_of}
use Rattle.levels_filter.specs.Pyramids.{approx_at, laid_out}
use Rattle.levels_filter.proofs.Cuts.{split-width}
use Rattle.law_levels.proofs.Lengths.{length-low, length_high, length-approx}
use Rattle.file_open.specs.declared.head.Head.{Head}
use Rattle.file_open.specs.declared.walk.Way.{Way}
use Rattle.file_open.specs.declared.walk.Way.TheVariants.{Went, Short}
use Rattle.file_open.specs.Files.{section_of, body_of, body_size, file_size}
use Rattle.file_open.specs.Walks.{walk_of, last_count}
use Rattle.file_open.specs.Opens.{head_in, head_checks, way_to, section_checks, number_checks, length_of, end_by, start_of, say_section}
use Rattle.law_cuts.specs.Sees.{size_through, whole_in, way_within}
use Rattle.law_cuts.proofs.Sized.{body-length}
use Rattle.law_cuts.proofs.CutWalk.{walk-cut, within-whole, past}
use Rattle.law_cuts.proofs.Restored.{bytes_whole}
use Rattle.law_cuts.proofs.Filed.{Filed, cut_parts, cut-length}
use Rattle.law_cuts.proofs.Whole.{within_none, within-short}

-- the sections of the first i levels, which stand behind those of all levels after them
rest_of : Filter → ℕ → ℕ → List ℕ → List ℕ
rest_of f zero n x = []
rest_of f (suc i) n x = rest_of f i (approx_length n) (low_of f x) ++ section_of (details_length n) (high_of f x)

-- the sections of i + j levels are those of j levels of the approximations after i, and the rest
body-deeper : (f : Filter) (i j n : ℕ) (x : List ℕ) → body_of f (i + j) n x ≡ body_of f j (count_at i n) (approx_at f i x) ++ rest_of f i n x
unfolding laid_out after_levels rest_of
body-deeper f zero j n x = rw (zero-add j) (sym (append-nil (body_of f j n x)))
body-deeper f (suc i) j n x =
    rw (suc-add i j)
    (ap (λ (s : List ℕ). s ++ section_of (details_length n) (high_of f x)) (body-deeper f i j (approx_length n) (low_of f x))
    ∙ append_assoc (body_of f j (count_at i (approx_length n)) (approx_at f i (low_of f x))) (rest_of f i (approx_length n) (low_of f x)) (section_of (details_length n) (high_of f x)))

-- what refuses where a walk is short
short-stops : (v : Way) (j b : ℕ) (s : Outcome) → v ≡ Short j → first_refusal (section_checks v b) s ≡ Err (CutShort b)
short-stops v j b s e = ap (λ (w : Way). first_refusal (section_checks w b) s) e

-- where the bytes of the last section start
start-at : (z k j m : ℕ) → z + body_size k (suc j) m - k * details_length m ≡ z + body_size k j (approx_length m) + 4
start-at z k j m = omega (arith, split-width k m)

-- its bytes are within what is there
within-at : (z k j m b : ℕ) → z + body_size k (suc j) m ≤ b → 4 + k * details_length m ≤ b - z - body_size k j (approx_length m)
within-at z k j m b h = omega (arith, split-width k m)

module _ {z : ℕ} {f : Filter} {l n p : ℕ} {x s : List ℕ} (d : Filed z f l n p x s) (b : ℕ) where
  abbrev k : ℕ
  k = width_of f

  -- what is left of the file, and what its section 0 says
  abbrev t : List ℕ
  t = take b s

  abbrev h : Head
  h = head_in (take b s)

  -- cut in section 0: "10", whatever the number
  pub section-early : (q : ℕ) → b < z → say_section t k p q ≡ Err (CutShort b)
  unfolding say_section
  section-early q a = d.early b a (number_checks q h.levels ++ section_checks (way_to t h q) (length t)) (told (start_of t h q) (length_of h q))

  -- cut after it
  module _ (c : z ≤ b) (e : b ≤ file_size z (width_of f) l n) where
    -- the file, where i + j are its levels
    parts : (i j : ℕ) → i + j ≡ l → t ≡ d.front ++ take (b - z) (body_of f j (count_at i n) (approx_at f i x) ++ rest_of f i n x)
    parts i j q =
        cut_parts d b c
        ∙ ap (λ (u : List ℕ). d.front ++ take (b - z) u) (append-nil (body_of f l n x) ∙ ap (λ (m : ℕ). body_of f m n x) (sym q) ∙ body-deeper f i j n x)

    -- the walk through the sections of its last j levels
    walk-parts : (i j : ℕ) → i + j ≡ l → walk_of t k j (count_at i n) z ≡ way_within k j (count_at i n) z (b - z)
    walk-parts i j q =
        let r = d.recording in
        let y = approx_at f i x in
        let body = body_of f j (count_at i n) y in
        let rest = rest_of f i n x in
        let same : body_of f l n x ≡ body ++ rest = ap (λ (m : ℕ). body_of f m n x) (sym q) ∙ body-deeper f i j n x in
        let room : b - z ≤ length (body ++ rest) = omega (arith, ap length same, body-length f l n x r.size) in
        ap (λ (u : List ℕ). walk_of u k j (count_at i n) z) (parts i j q)
        ∙ subst (λ (a : ℕ). walk_of (d.front ++ take (b - z) (body ++ rest)) k j (count_at i n) a ≡ way_within k j (count_at i n) a (b - z)) d.long
        (walk-cut f j (count_at i n) y d.front rest (b - z) (length-approx f i x n r.size) (omega (arith, r.most, count-at-le i n)) room)

    -- the walk through section q
    pub way-to : (q : ℕ) → 1 ≤ q → q ≤ l + 1 → way_to t h q ≡ way_within k (q - 1) (count_at (l + 1 - q) n) z (b - z)
    way-to q some most = ap (λ (i : Head). way_to t i q) (d.head b c) ∙ walk-parts (l + 1 - q) (q - 1) (omega arith)

    -- where it is whole
    went : (q : ℕ) → 1 ≤ q → q ≤ l + 1 → size_through z k l n q ≤ b → way_to t h q ≡ Went (size_through z k l n q)
    went q some most up = way-to q some most ∙ sym (within-whole k (q - 1) (count_at (l + 1 - q) n) z (b - z) (omega arith))

    -- how many bytes section q has
    pub length-is : (q : ℕ) → length_of h q ≡ k * last_count (q - 1) (count_at (l + 1 - q) n)
    length-is q = ap (λ (i : Head). length_of i q) (d.head b c)

    -- where they start, if the section is whole
    pub start_is : (q : ℕ) → 1 ≤ q → q ≤ l + 1 → size_through z k l n q ≤ b → start_of t h q ≡ size_through z k l n q - k * last_count (q - 1) (count_at (l + 1 - q) n)
    start_is q some most up = ap₂ (λ (v : Way) (m : ℕ). end_by v - m) (went q some most up) (length-is q)

    -- section 0 and the number let by
    by_number : (q : ℕ) → 1 ≤ q → q ≤ l + 1 → (m : List Check) (w : Outcome) → first_refusal (head_checks t k p ++ (number_checks q h.levels ++ m)) w ≡ first_refusal m w
    by_number q some most m w =
        let el = ap (λ (i : Head). i.levels) (d.head b c) in
        pass_on (head_checks t k p) (number_checks q h.levels ++ m) w (d.passes b c e)
        ∙ pass_on (number_checks q h.levels) m w (ne_eqb q 0 (λ z. omega arith), (le-ltb (h.levels + 1) q (omega arith), tt))

    -- a section that is whole is found
    pub section-found : (q : ℕ) → 1 ≤ q → q ≤ l + 1 → size_through z k l n q ≤ b → say_section t k p q ≡ told (start_of t h q) (length_of h q)
    unfolding say_section
    section-found q some most up =
        let end = told (start_of t h q) (length_of h q) in
        by_number q some most (section_checks (way_to t h q) (length t)) end ∙ ap (λ (v : Way). first_refusal (section_checks v (length t)) end) (went q some most up)

    -- "a cut at or before it is 10"
    pub section-cut : (q : ℕ) → 1 ≤ q → q ≤ l + 1 → b < size_through z k l n q → say_section t k p q ≡ Err (CutShort b)
    unfolding say_section
    section-cut q some most up =
        let m = count_at (l + 1 - q) n in
        let j = b - z in
        let end = told (start_of t h q) (length_of h q) in
        by_number q some most (section_checks (way_to t h q) (length t)) end
        ∙ ⊎_elim
        (λ (a : j < body_size k 0 (count_at (q - 1) m)). short-stops (way_to t h q) 1 (length t) end (way-to q some most ∙ within_none k (q - 1) m z j a))
        (λ (a : body_size k 0 (count_at (q - 1) m) ≤ j). short-stops (way_to t h q) (whole_in k (q - 1) m j + 2) (length t) end (way-to q some most ∙ within-short k (q - 1) m z j a (omega arith)))
        (lt-or-le j (body_size k 0 (count_at (q - 1) m)))
        ∙ ap (λ (n : ℕ). Err (CutShort n)) (cut-length d b e)

    -- section 1 is the deepest approximations
    pub section-approx : size_through z k l n 1 ≤ b → take (length_of h 1) (drop (start_of t h 1) t) ≡ approx_at f l x
    unfolding laid_out
    section-approx up =
        let y = approx_at f l x in
        let rest = rest_of f l n x in
        let m = count_at l n in
        let il : l + 1 - 1 ≡ l = omega arith in
        let el : length_of h 1 ≡ k * m = length-is 1 ∙ ap (λ (i : ℕ). k * count_at i n) il in
        let es : start_of t h 1 ≡ z + 4 = start_is 1 (omega arith) (omega arith) up ∙ ap (λ (i : ℕ). z + body_size k 0 (count_at i n) - k * count_at i n) il ∙ omega arith in
        let after : drop z t ≡ take (b - z) (section_of m y ++ rest) =
        ap (drop z) (parts l 0 (omega arith)) ∙ drop_at d.front (take (b - z) (section_of m y ++ rest)) z d.long in
        let up' : z + body_size k 0 m ≤ b = subst (λ (i : ℕ). z + body_size k 0 (count_at i n) ≤ b) il up in
        ap₂ (λ (i a : ℕ). take i (drop a t)) el es
        ∙ bytes_whole t y rest k m z (b - z) after (length-approx f l x n d.recording.size) (omega arith)

    -- section j + 2 is the details of level l - j, of the approximations of the level before it
    pub section-details : (j : ℕ) → j < l → size_through z k l n (j + 2) ≤ b → take (length_of h (j + 2)) (drop (start_of t h (j + 2)) t) ≡ high_of f (approx_at f (l - 1 - j) x)
    unfolding laid_out
    section-details j less up =
        let i = l - 1 - j in
        let y = approx_at f i x in
        let m = count_at i n in
        let rest = rest_of f i n x in
        let ey = length-approx f i x n d.recording.size in
        let body = body_of f j (approx_length m) (low_of f y) in
        let sec = section_of (details_length m) (high_of f y) in
        let a = body_size k j (approx_length m) in
        let g = b - z in
        let sw = split-width k m in
        let ij : l + 1 - (j + 2) ≡ i = omega arith in
        let jj : j + 2 - 1 ≡ suc j = omega arith in
        let el : length_of h (j + 2) ≡ k * details_length m =
        length-is (j + 2) ∙ ap₂ (λ (a d : ℕ). k * last_count a (count_at d n)) jj ij ∙ ap (λ (a : Bool). k * cond a m (details_length m)) (ne_eqb (suc j) 0 (λ q. omega arith)) in
        let eu : size_through z k l n (j + 2) ≡ z + body_size k (suc j) m = ap₂ (λ (a d : ℕ). z + body_size k a (count_at d n)) jj ij in
        let up' : z + body_size k (suc j) m ≤ b = subst (λ (a : ℕ). a ≤ b) eu up in
        let es : start_of t h (j + 2) ≡ z + a + 4 =
        start_is (j + 2) (omega arith) (omega arith) up ∙ ap₂ (λ (a d : ℕ). a - d) eu (sym (length-is (j + 2)) ∙ el) ∙ start-at z k j m in
        let whole : (body ++ sec) ++ rest ≡ body ++ (sec ++ rest) = append_assoc body sec rest in
        let lb = body-length f j (approx_length m) (low_of f y) (length-low f y m ey) in
        let after : drop (z + a) t ≡ take (g - a) (sec ++ rest) =
        ap (drop (z + a)) (parts i (suc j) (omega arith) ∙ ap (λ (u : List ℕ). d.front ++ take g u) whole)
        ∙ subst (λ (i : ℕ). drop (i + a) (d.front ++ take g (body ++ (sec ++ rest))) ≡ take (g - a) (sec ++ rest)) d.long (past d.front body (sec ++ rest) a g lb (omega arith)) in
        ap₂ (λ (q i : ℕ). take q (drop i t)) el es
        ∙ bytes_whole t (high_of f y) rest k (details_length m) (z + a) (g - a) after (length_high f y m ey) (within-at z k j m b up')
