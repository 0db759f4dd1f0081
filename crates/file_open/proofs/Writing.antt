-- Writing a file: numbers stored one after the other, section 0, the whole file, and what a done call has passed. Section 0 is laid in the new kind; how long it
-- is, and what a file is made of, holds of both.
-- Looks into no filter but for its width.
use mathlib.Core.Bool.{true}
use mathlib.Core.Logic.{◌⊎◌, inl, inr, ⊎_elim}
use mathlib.Core.Path.{◌≡◌, refl, sym, ap, ap₂, ◌∙◌}
use mathlib.Core.List.{List, [], ◌∷◌, ◌++◌, append_assoc}
use Prim.Native.Nat.{ℕ, ◌+◌, ◌*◌, ◌/◌, ◌≤◌, ◌<◌}
use native.Mathlib.Nat.{mod-eq_of_lt, mul-le-mul_right}
use native.Mathlib.Omega.{arith}
use borrow.Author.Tests.{ne_eqb, eqb-false}
use lib.Dec.{eqb}
use lib.ListN.{length, take, drop, set, length-append, length-set}
use lib.Seq.{take_at, drop_at, drop-drop}
use Rattle.base_answers.specs.declared.err.Refusal.TheVariants.{NoRate}
use Rattle.std.specs.Prelude.{Ok}
use Rattle.base_answers.specs.Answers.{told, done}
use Rattle.base_answers.specs.Checks.{passes, ragged}
use Rattle.base_answers.proofs.Passed.{passing, passed, roomy}
use Rattle.base_samples.specs.Le.{le_bytes, stored}
use Rattle.base_samples.proofs.Words.{holds}
use Rattle.base_samples.proofs.LeLaws.{length-le_bytes, length-stored, stored_is}
use Rattle.base_order.proofs.Order.{lt-or-le}
use Rattle.base_lengths.specs.declared.Wavelet.{Wavelet}
use Rattle.base_lengths.specs.Lengths.{most_samples}
use Rattle.base_lengths.specs.Levels.{depth_of, levels_of}
use Rattle.base_lengths.proofs.Depths.{depth-at-most}
use Rattle.levels_filter.specs.declared.filter.Filter.{Filter}
use Rattle.levels_filter.specs.declared.filter.Filter.TheVariants.{Cdf53I8, Cdf53I16, Cdf53I32, Cdf53F32, Cdf53F64, Cdf97F32, Cdf97F64}
use Rattle.levels_filter.specs.Filters.{width_of, wavelet_of, Integers}
use Rattle.levels_filter.specs.Calls.{depth_checks, Ready}
use Rattle.levels_filter.proofs.Cuts.{width-pos, few-levels}
use Rattle.levels_filter.proofs.Integers.{common}
use Rattle.levels_filter.proofs.Multi.{checked-ready}
use Rattle.levels_filter.proofs.Lists.{later}
use Rattle.file_open.specs.Files.{old_count, new_count, count_by, common_of, rate_of, head_of, head_size, new_size, common_size, body_of, body_size, file_size, file_of}
use Rattle.file_open.specs.Writes.{write_checks, say_write}

-- ---- numbers that fit

pub width-byte : (f : Filter) → width_of f < 256
width-byte Cdf53I8 = omega arith
width-byte Cdf53I16 = omega arith
width-byte Cdf53I32 = omega arith
width-byte Cdf53F32 = omega arith
width-byte Cdf53F64 = omega arith
width-byte Cdf97F32 = omega arith
width-byte Cdf97F64 = omega arith

-- ---- numbers stored one after the other

-- s has a in front, and from there on what s₀ has: a number more
lay-next : (k : ℕ) (s s₀ a : List ℕ) (p n : ℕ) → length a ≡ p → p + k ≤ length s → s ≡ a ++ drop p s₀ → stored k s p n ≡ (a ++ le_bytes k n) ++ drop (p + k) s₀
lay-next k s s₀ a p n e h q =
    let front : take p s ≡ a = ap (take p) q ∙ take_at a (drop p s₀) p e in
    let after : drop (p + k) s ≡ drop (p + k) s₀ = later p (p + k) s s₀ (omega arith) (ap (drop p) q ∙ drop_at a (drop p s₀) p e) in
    stored_is k s p n h ∙ rw (front, after) (sym (append_assoc a (le_bytes k n) (drop (p + k) s₀)))

one_byte : (s : List ℕ) (p n : ℕ) → n < 256 → stored 1 s p n ≡ set s p n
unfolding stored le_bytes
one_byte s p n b = rw (mod-eq_of_lt {n = n} {m = 256} b)

-- and a byte more
lay-byte : (s s₀ a : List ℕ) (p n : ℕ) → n < 256 → length a ≡ p → p + 1 ≤ length s → s ≡ a ++ drop p s₀ → set s p n ≡ (a ++ le_bytes 1 n) ++ drop (p + 1) s₀
lay-byte s s₀ a p n b e h q = sym (one_byte s p n b) ∙ lay-next 1 s s₀ a p n e h q

-- ---- section 0

-- the two kinds, by the rate
pub record OldKind (r : ℕ) : Type 0 where
  pub rate : r ≡ 0
  pub count : count_by r ≡ old_count
  pub behind : rate_of r ≡ []

pub record NewKind (r : ℕ) : Type 0 where
  pub rate : 0 < r
  pub count : count_by r ≡ new_count
  pub behind : rate_of r ≡ le_bytes 4 r

pub new-kind : (r : ℕ) → 0 < r → NewKind r
new-kind r h = let e = ne_eqb r 0 (λ z. omega arith) in record { rate = h; count = rw e; behind = rw e }

pub either-kind : (r : ℕ) → OldKind r ⊎ NewKind r
either-kind r = ⊎_elim (λ (h : r < 1). let z : r ≡ 0 = omega arith in inl (record { rate = z; count = rw z; behind = rw z })) (λ (h : 1 ≤ r). inr (new-kind r h)) (lt-or-le r 1)

pub new-size : (r : ℕ) → 0 < r → head_size r ≡ new_size
new-size r h = omega (arith, (new-kind r h).count)

-- section 0 of either kind is no longer than of the new one
pub size-most : (r : ℕ) → head_size r ≤ new_size
size-most r = ⊎_elim (λ (o : OldKind r). omega (arith, o.count)) (λ (w : NewKind r). omega (arith, w.count)) (either-kind r)

-- six numbers one after the other
head-laid : (s : List ℕ) (w l n p r : ℕ) → w < 256 → l < 256 → new_size ≤ length s
    → stored 4 (stored 4 (stored 4 (set (set (stored 4 s 0 new_count) 4 w) 5 l) 6 n) 10 p) 14 r ≡ (common_of new_count w l n p ++ le_bytes 4 r) ++ drop new_size s
head-laid s w l n p r hw hl h =
    let s₁ = stored 4 s 0 new_count in
    let s₂ = set s₁ 4 w in
    let s₃ = set s₂ 5 l in
    let s₄ = stored 4 s₃ 6 n in
    let s₅ = stored 4 s₄ 10 p in
    let a₁ = le_bytes 4 new_count in
    let a₂ = a₁ ++ le_bytes 1 w in
    let a₃ = a₂ ++ le_bytes 1 l in
    let a₄ = a₃ ++ le_bytes 4 n in
    let a₅ = a₄ ++ le_bytes 4 p in
    let n₁ = length-stored 4 s 0 new_count in
    let n₂ = length-set s₁ 4 w in
    let n₃ = length-set s₂ 5 l in
    let n₄ = length-stored 4 s₃ 6 n in
    let n₅ = length-stored 4 s₄ 10 p in
    let m₁ = length-le_bytes 4 new_count in
    let m₂ = length-append a₁ (le_bytes 1 w) in
    let m₃ = length-append a₂ (le_bytes 1 l) in
    let m₄ = length-append a₃ (le_bytes 4 n) in
    let m₅ = length-append a₄ (le_bytes 4 p) in
    let k₂ = length-le_bytes 1 w in
    let k₃ = length-le_bytes 1 l in
    let k₄ = length-le_bytes 4 n in
    let k₅ = length-le_bytes 4 p in
    let e₁ : s₁ ≡ a₁ ++ drop 4 s = lay-next 4 s s [] 0 new_count refl (omega arith) refl in
    let e₂ : s₂ ≡ a₂ ++ drop 5 s = lay-byte s₁ s a₁ 4 w hw m₁ (omega arith) e₁ in
    let e₃ : s₃ ≡ a₃ ++ drop 6 s = lay-byte s₂ s a₂ 5 l hl (omega arith) (omega arith) e₂ in
    let e₄ : s₄ ≡ a₄ ++ drop 10 s = lay-next 4 s₃ s a₃ 6 n (omega arith) (omega arith) e₃ in
    let e₅ : s₅ ≡ a₅ ++ drop 14 s = lay-next 4 s₄ s a₄ 10 p (omega arith) (omega arith) e₄ in
    lay-next 4 s₅ s a₅ 14 r (omega arith) (omega arith) e₅ ∙ simp append_assoc

-- are section 0 of the new kind
pub new-laid : (s : List ℕ) (w l n p r : ℕ) → w < 256 → l < 256 → 0 < r → new_size ≤ length s
    → stored 4 (stored 4 (stored 4 (set (set (stored 4 s 0 new_count) 4 w) 5 l) 6 n) 10 p) 14 r ≡ head_of w l n p r ++ drop new_size s
new-laid s w l n p r hw hl hr h =
    let k = new-kind r hr in
    head-laid s w l n p r hw hl h ∙ ap₂ (λ (c : ℕ) (m : List ℕ). (common_of c w l n p ++ m) ++ drop new_size s) (sym k.count) (sym k.behind)

pub ruleset laying = (new-laid)

pub common-length : (c w l n p : ℕ) → length (common_of c w l n p) ≡ common_size
unfolding le_bytes
common-length c w l n p = refl

rate-length : (r : ℕ) → common_size + length (rate_of r) ≡ head_size r
rate-length r = ⊎_elim (λ (o : OldKind r). rw (o.count, o.behind)) (λ (w : NewKind r). rw (w.count, w.behind) (omega (arith, length-le_bytes 4 r))) (either-kind r)

pub head-length : (w l n p r : ℕ) → length (head_of w l n p r) ≡ head_size r
head-length w l n p r = length-append (common_of (count_by r) w l n p) (rate_of r) ∙ ap (λ (m : ℕ). m + length (rate_of r)) (common-length (count_by r) w l n p) ∙ rate-length r

-- ---- the whole file

-- a is in front of b, z bytes, and y is put after it
part-laid : (a y b b₁ : List ℕ) (z m : ℕ) → length a ≡ z → b₁ ≡ a ++ drop z b → take z b₁ ++ (y ++ drop m (drop z b₁)) ≡ (a ++ y) ++ drop (z + m) b
part-laid a y b b₁ z m e q =
    let front : take z b₁ ≡ a = ap (take z) q ∙ take_at a (drop z b) z e in
    let after : drop m (drop z b₁) ≡ drop (z + m) b = ap (drop m) (ap (drop z) q ∙ drop_at a (drop z b) z e) ∙ drop-drop m z b in
    rw (front, after) (sym (append_assoc a y (drop (z + m) b)))

-- "at most 67,108,974", of an integer filter, where section 0 has 14 bytes
pub file-most : (f : Filter) → Integers f → (z l n : ℕ) → l ≤ depth_of (wavelet_of f) n → n ≤ most_samples → file_size z (width_of f) l n ≤ z + 67108960
file-most f i z l n deep most = omega (arith, mul-le-mul_right n (common f i).narrow, depth-at-most (wavelet_of f) 23 n most)

-- a file of n samples is section 0 and the sections of its levels
pub file-parts : (f : Filter) (l p r n : ℕ) (x : List ℕ) → length x ≡ width_of f * n → file_of f l p r x ≡ head_of (width_of f) l n p r ++ body_of f l n x
unfolding file_of
file-parts f l p r n x h = ap (λ (m : ℕ). head_of (width_of f) l m p r ++ body_of f l m x) (holds (width-pos f) x n h).count

-- the head, and the sections in the m bytes after it
pub file-laid : (f : Filter) (l n p r m : ℕ) (x b b₁ y : List ℕ) → 0 < r → length x ≡ width_of f * n → m ≡ body_size (width_of f) l n → b₁ ≡ head_of (width_of f) l n p r ++ drop new_size b → y ≡ body_of f l n x
    → take new_size b₁ ++ (y ++ drop m (drop new_size b₁)) ≡ file_of f l p r x ++ drop (file_size new_size (width_of f) l n) b
file-laid f l n p r m x b b₁ y hr e em q ey =
    rw (ey, em, file-parts f l p r n x e) (part-laid (head_of (width_of f) l n p r) (body_of f l n x) b b₁ new_size (body_size (width_of f) l n) (head-length (width_of f) l n p r ∙ new-size r hr) q)

-- ---- the call

-- levels that pass their checks are few, of samples within the limit
pub levels_few : (f : Filter) (l n : ℕ) → passes (depth_checks f l n) ≡ Ok tt → (levels_of l < 256) × (n ≤ most_samples)
levels_few f l n e =
    let p = passed (depth_checks f l n) tt e in
    let most = roomy most_samples n p.0 in
    (few-levels (wavelet_of f) (levels_of l) n (roomy (depth_of (wavelet_of f) n) (levels_of l) p.1.0) most, most)

-- the levels of samples within the limit fit a byte
pub depth-few : (w : Wavelet) (n : ℕ) → n ≤ most_samples → depth_of w n < 256
depth-few w n h = few-levels w (depth_of w n) n (omega arith) h

-- for the code that writes
pub ruleset writing = (width-byte, depth-few)

-- what the checks leave: the levels run, the file area has room, and there is a rate
pub record Writable (f : Filter) (l n r x b u v : ℕ) : Type 0 where
  pub ready : Ready f l n x u v
  pub room : file_size new_size (width_of f) l n ≤ b
  pub rate : 0 < r

pub write-ready : (f : Filter) (l r x b u v : ℕ) → done (say_write f l r x b u v) ≡ true → Writable f (levels_of l) (x / width_of f) r x b u v
unfolding say_write
write-ready f l r x b u v h =
    let k = width_of f in
    let p = passing (ragged k x ∷ ragged k u ∷ ragged k v ∷ (eqb r 0, NoRate) ∷ write_checks f l (x / k) b (u / k) (v / k)) (told 0 0) h in
    let q = p.1.1.1.1 in
    record {
      ready = checked-ready f l x u v (p.0, (p.1.0, (p.1.1.0, tt))) (q.0, (q.1.0, tt)) q.1.1.1;
      room = roomy b (file_size new_size k (levels_of l) (x / k)) q.1.1.0;
      rate = let z = eqb-false r 0 p.1.1.1.0 in omega (arith, z);
    }

-- a call that is done has whole samples
pub write_whole : (f : Filter) (l r x b u v : ℕ) → say_write f l r x b u v ≡ told 0 0 → x ≡ width_of f * (x / width_of f)
write_whole f l r x b u v h = (write-ready f l r x b u v (ap done h)).ready.whole
