-- Demand 3 as one statement about the two calls: with room a write is done, and each front of what it wrote opens as `Openings` says. No write makes an old file any
-- more, so for those it is a law about their bytes.
use mathlib.Core.List.{List}
use mathlib.Core.Path.{◌≡◌, sym, ap, subst, ◌∙◌}
use Prim.Native.Nat.{ℕ, ◌*◌, ◌/◌, ◌^◌, ◌≤◌, ◌<◌}
use native.Mathlib.Omega.{arith}
use borrow.Author.Tests.{ne_eqb}
use lib.ListN.{length}
use Rattle.base_answers.specs.declared.err.Answer.{Answer}
use Rattle.base_answers.specs.Answers.{told, say, answer_of}
use Rattle.base_lengths.specs.declared.Wavelet.TheVariants.{Cdf53}
use Rattle.base_lengths.specs.Lengths.{most_samples}
use Rattle.base_lengths.specs.Levels.{depth_of, levels_of}
use Rattle.base_lengths.proofs.Depths.{step}
use Rattle.base_lengths.proofs.OneLevel.{count-is}
use Rattle.base_samples.specs.Le.{Bytes}
use Rattle.levels_filter.specs.declared.filter.Filter.{Filter}
use Rattle.levels_filter.specs.Filters.{width_of, Integers}
use Rattle.levels_filter.specs.Backward.{Area}
use Rattle.levels_filter.proofs.Cuts.{width-pos}
use Rattle.levels_filter.proofs.Integers.{lent-ready}
use Rattle.file_open.specs.Files.{new_size, file_of, file_size}
use Rattle.file_open.specs.Writes.{say_write, Write}
use Rattle.law_cuts.specs.Sees.{Openings}
use Rattle.law_cuts.proofs.Filed.{Filed}
use Rattle.law_cuts.proofs.WrittenHead.{filed}
use Rattle.law_cuts.proofs.Opened.{openings}
use Rattle.law_cuts.proofs.Kept.{kept}
use Rattle.law_cuts.proofs.WriteFits.{write-fits}

-- any integer filter, any x of n samples, n at most 16,777,216, any levels within the depth of n, 0 as 1, so that n is 3 or more, any point, any rate from 1 on, and areas with room
pub demand3-levels : (f : Filter) → Integers f → (l n p rate : ℕ) → levels_of l ≤ depth_of Cdf53 n → n ≤ most_samples → p < 2 ^ 32 → 1 ≤ rate → rate < 2 ^ 32 → (x : List ℕ) → Bytes x → length x ≡ width_of f * n
    → (b u v : List ℕ) → file_size new_size (width_of f) (levels_of l) n ≤ length b → Area (width_of f) (length x) u → Area (width_of f) (length x) v
    → (a : Answer) (b' u' v' : List ℕ) → Write f l p rate x b u v a b' u' v' → (a ≡ say 0 0 0) × Openings new_size f (levels_of l) n p x b'
demand3-levels f i l n p rate deep most hp some hr x bx size b u v file first second a b' u' v' w =
    let k = width_of f in
    let en : length x / k ≡ n = count-is k n (length x) (width-pos f) size in
    let says : say_write f l rate (length x) (length b) (length u) (length v) ≡ told 0 0 =
    write-fits f l n rate (length u / k) (length v / k) (length x) (length b) (length u) (length v) (lent-ready f i l n deep most x u v size first second) file some first.samples second.samples in
    let done : a ≡ say 0 0 0 = w.answer ∙ ap answer_of says in
    let z : a.number ≡ 0 = ap (λ (q : Answer). q.number) done in
    (done, subst (λ (m : ℕ). Openings new_size f (levels_of l) m p x b') en (kept f l p rate x i bx hp hr b u v a b' u' v' w z))

-- demand 3: any L from 1 to the depth of n
pub demand3-calls : (f : Filter) → Integers f → (L n p rate : ℕ) → 1 ≤ L → L ≤ depth_of Cdf53 n → n ≤ most_samples → p < 2 ^ 32 → 1 ≤ rate → rate < 2 ^ 32 → (x : List ℕ) → Bytes x → length x ≡ width_of f * n
    → (b u v : List ℕ) → file_size new_size (width_of f) L n ≤ length b → Area (width_of f) (length x) u → Area (width_of f) (length x) v
    → (a : Answer) (b' u' v' : List ℕ) → Write f L p rate x b u v a b' u' v' → (a ≡ say 0 0 0) × Openings new_size f L n p x b'
demand3-calls f i L n p rate some deep most hp hy hr x bx size b u v file first second a b' u' v' w =
    let el : levels_of L ≡ L = rw (ne_eqb L 0 (λ z. omega arith)) in
    let t = demand3-levels f i L n p rate (subst (λ (m : ℕ). m ≤ depth_of Cdf53 n) (sym el) deep) most hp hy hr x bx size b u v
    (subst (λ (m : ℕ). file_size new_size (width_of f) m n ≤ length b) (sym el) file) first second a b' u' v' w in
    (t.0, subst (λ (m : ℕ). Openings new_size f m n p x b') el t.1)

-- an old file, whose section 0 has 14 bytes
pub old-filed : (f : Filter) → Integers f → (L n p : ℕ) → 1 ≤ L → L ≤ depth_of Cdf53 n → n ≤ most_samples → p < 2 ^ 32 → (x : List ℕ) → Bytes x → length x ≡ width_of f * n
    → Filed 14 f L n p x (file_of f L p 0 x)
old-filed f i L n p some deep most hp x bx size =
    filed (record { integers = i; bytes = bx; size = size; least = (step 3 (omega arith) 0 n (omega (arith, some, deep))).0; most = most; some = some; deep = deep; point = hp }) {rate = 0} (omega arith)

-- demand 3 for old files
pub demand3-old : (f : Filter) → Integers f → (L n p : ℕ) → 1 ≤ L → L ≤ depth_of Cdf53 n → n ≤ most_samples → p < 2 ^ 32 → (x : List ℕ) → Bytes x → length x ≡ width_of f * n
    → Openings 14 f L n p x (file_of f L p 0 x)
demand3-old f i L n p some deep most hp x bx size = openings (old-filed f i L n p some deep most hp x bx size)
