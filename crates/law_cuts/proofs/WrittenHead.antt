-- A file, of either kind, is a file of its recording: section 0 is read back from any part of it that has section 0 whole, and the checks that opening makes of it pass.
use mathlib.Core.Bool.{true, false, cond, not, ◌&&◌}
use mathlib.Core.List.{List, [], ◌++◌, append_assoc}
use mathlib.Core.Logic.{⊎_elim}
use mathlib.Core.Path.{◌≡◌, refl, sym, ap, ap₂, subst, ◌∙◌}
use Prim.Native.Nat.{ℕ, ◌+◌, ◌-◌, ◌^◌, ◌≤◌, ◌<◌}
use native.Mathlib.Omega.{arith}
use borrow.Author.Tests.{lt-ltb, le-ltb, ne_eqb}
use lib.Dec.{eqb}
use lib.ListN.{length, take, length-append}
use lib.Seq.{length-take-le, take-append-add}
use Rattle.std.specs.Prelude.{Err}
use Rattle.base_answers.specs.Answers.{Outcome}
use Rattle.base_answers.specs.declared.err.Refusal.TheVariants.{CutShort}
use Rattle.base_answers.specs.Checks.{Check, first_refusal}
use Rattle.base_answers.proofs.Chain.{by, stop, same}
use Rattle.base_answers.proofs.Passed.{Passing, pass-both}
use Rattle.base_order.proofs.Order.{lt-or-le}
use Rattle.base_lengths.specs.declared.Wavelet.TheVariants.{Cdf53}
use Rattle.base_lengths.specs.Lengths.{most_samples}
use Rattle.base_lengths.specs.Levels.{depth_of}
use Rattle.base_samples.specs.Le.{le_at, le_bytes}
use Rattle.base_samples.proofs.LeLaws.{le_at-take}
use Rattle.levels_filter.proofs.Integers.{own-depth, common}
use Rattle.levels_filter.specs.declared.filter.Filter.{Filter}
use Rattle.levels_filter.specs.Filters.{width_of, wavelet_of}
use Rattle.levels_filter.proofs.Cuts.{few-levels}
use Rattle.file_open.specs.declared.head.Head.{Head}
use Rattle.file_open.specs.Files.{most_bytes, new_count, is_count, count_by, common_of, rate_of, head_of, head_size, common_size, body_of, file_of, file_size}
use Rattle.file_open.specs.Opens.{head_in, rate_in, start_checks, field_checks, rate_checks, head_checks}
use Rattle.file_open.proofs.Writing.{OldKind, NewKind, new-kind, either-kind, head-length, size-most, file-most, file-parts}
use Rattle.law_cuts.proofs.Sized.{file-length}
use Rattle.law_cuts.proofs.Filed.{Recording, Filed}

-- the count and the rate, in section 0 and what stands behind it
count-in : (c k l n p : ℕ) (m : List ℕ) → c < 2 ^ 32 → le_at 4 (common_of c k l n p ++ m) 0 ≡ c
unfolding le_at le_bytes
count-in c k l n p m h = omega (arith, h)

stored-in : (c k l n p r : ℕ) (m : List ℕ) → r < 2 ^ 32 → le_at 4 (common_of c k l n p ++ (le_bytes 4 r ++ m)) common_size ≡ r
unfolding le_at le_bytes
stored-in c k l n p r m h = omega (arith, h)

count-known : (r : ℕ) → is_count (count_by r) ≡ true
count-known r = ⊎_elim (λ (o : OldKind r). rw o.count) (λ (w : NewKind r). rw w.count) (either-kind r)

-- of a count c and a stored number q, which is the rate where there is one: that is the rate, and no file of a rate is refused for it
rate-by : (r c q : ℕ) → c ≡ count_by r → (0 < r → q ≡ r) → (cond (eqb c new_count) q 0 ≡ r) × ((eqb c new_count && eqb (cond (eqb c new_count) q 0) 0) ≡ false)
rate-by r c q e h =
    ⊎_elim
    (λ (o : OldKind r). rw (e ∙ o.count) (sym o.rate, refl))
    (λ (w : NewKind r). rw (e ∙ w.count, h w.rate) (refl, ne_eqb r 0 (λ z. omega (arith, w.rate))))
    (either-kind r)

-- section 0 of a recording, and whatever stands behind it
module _ {f : Filter} {l n p : ℕ} {x : List ℕ} (d : Recording f l n p x) {rate : ℕ} (hr : rate < 2 ^ 32) (m : List ℕ) where
  abbrev k : ℕ
  k = width_of f

  abbrev z : ℕ
  z = head_size rate

  abbrev y : List ℕ
  y = head_of k l n p rate ++ m

  deep : l ≤ depth_of (wavelet_of f) n
  deep = own-depth f d.integers l n d.deep

  long : length y ≡ z + length m
  long = length-append (head_of k l n p rate) m ∙ ap (λ (j : ℕ). j + length m) (head-length k l n p rate)

  number_of : (j q : ℕ) → le_at j y q ≡ le_at j (common_of (count_by rate) k l n p ++ (rate_of rate ++ m)) q
  number_of j q = ap (λ (t : List ℕ). le_at j t q) (append_assoc (common_of (count_by rate) k l n p) (rate_of rate) m)

  count_of : le_at 4 y 0 ≡ count_by rate
  count_of = number_of 4 0 ∙ count-in (count_by rate) k l n p (rate_of rate ++ m) (omega (arith, size-most rate))

  stored_of : 0 < rate → le_at 4 y common_size ≡ rate
  stored_of some =
      number_of 4 common_size
      ∙ ap (λ (b : List ℕ). le_at 4 (common_of (count_by rate) k l n p ++ (b ++ m)) common_size) (new-kind rate some).behind
      ∙ stored-in (count_by rate) k l n p rate m hr

  -- it says the rate, and is not refused for it
  rate-of : (rate_in y ≡ rate) × Passing (rate_checks y)
  rate-of = let r = rate-by rate (le_at 4 y 0) (le_at 4 y common_size) count_of stored_of in (r.0, (r.1, tt))

  -- and what was recorded
  pub head-of : head_in y ≡ record { width = k; levels = l; samples = n; point = p; body = z }
  unfolding le_at le_bytes
  head-of =
      let ek : le_at 1 y 4 ≡ k = number_of 1 4 ∙ omega (arith, (common f d.integers).narrow) in
      let el : le_at 1 y 5 ≡ l = number_of 1 5 ∙ omega (arith, few-levels (wavelet_of f) l n deep d.most) in
      let en : le_at 4 y 6 ≡ n = number_of 4 6 ∙ omega (arith, d.most) in
      let ep : le_at 4 y 10 ≡ p = number_of 4 10 ∙ omega (arith, d.point) in
      λ i. record { width = ek i; levels = el i; samples = en i; point = ep i; body = 4 + count_of i }

  fields-pass : Passing (field_checks (record { width = k; levels = l; samples = n; point = p; body = z }) k p)
  fields-pass = (
    same k k refl,
    (
      ap not (common f d.integers).width,
      (le-ltb n 3 d.least, (le-ltb most_samples n d.most, (ne_eqb l 0 (λ e. omega (arith, d.some)), (le-ltb (depth_of Cdf53 n) l d.deep, (same p p refl, tt))))),
    ),
  )

  -- so the checks of section 0 pass, where the whole is not too long
  pub head-pass : length y ≤ most_bytes → Passing (head_checks y k p)
  head-pass short =
      pass-both (start_checks y) (field_checks (head_in y) k p ++ rate_checks y)
      (le-ltb most_bytes (length y) short, (le-ltb (length y) 4 (omega (arith, long)), (ap not (ap is_count count_of ∙ count-known rate), (le-ltb (length y) (head_in y).body (omega (arith, long, count_of)), tt))))
      (pass-both (field_checks (head_in y) k p) (rate_checks y) (subst (λ (h : Head). Passing (field_checks h k p)) (sym head-of) fields-pass) rate-of.1)

-- a file of a recording, and its first b bytes
module _ {f : Filter} {l n p : ℕ} {x : List ℕ} (d : Recording f l n p x) {rate : ℕ} (hr : rate < 2 ^ 32) where
  abbrev s : List ℕ
  s = file_of f l p rate x

  abbrev size : ℕ
  size = file_size (head_size rate) (width_of f) l n

  pub parts : s ≡ head_of (width_of f) l n p rate ++ body_of f l n x
  parts = file-parts f l p rate n x d.size

  -- it is not too long
  most : size ≤ most_bytes
  most = omega (arith, size-most rate, file-most f d.integers (head_size rate) l n (deep d hr []) d.most)

  cut-long : (b : ℕ) → b ≤ size → length (take b s) ≡ b
  cut-long b e = length-take-le b s (omega (arith, file-length f l n (head_size rate) x (head_of (width_of f) l n p rate) s d.size (head-length (width_of f) l n p rate) parts))

  -- section 0, and what the cut left behind it
  cut-is : (b : ℕ) → head_size rate ≤ b → take b s ≡ y d hr (take (b - head_size rate) (body_of f l n x))
  cut-is b c =
      let front = head_of (width_of f) l n p rate in
      let e : b ≡ length front + (b - head_size rate) = omega (arith, head-length (width_of f) l n p rate) in
      ap₂ take e parts ∙ take-append-add front (body_of f l n x) (b - head_size rate)

  -- the count, of any four bytes or more
  pub count-read : (b : ℕ) → 4 ≤ b → le_at 4 (take b s) 0 ≡ count_by rate
  count-read b c = le_at-take 4 b s 0 c ∙ ap (λ (t : List ℕ). le_at 4 t 0) parts ∙ count_of d hr (body_of f l n x)

  -- the rate
  pub rate-read : (b : ℕ) → head_size rate ≤ b → rate_in (take b s) ≡ rate
  rate-read b c = ap rate_in (cut-is b c) ∙ (rate-of d hr (take (b - head_size rate) (body_of f l n x))).0

  heads-pass : (b : ℕ) → head_size rate ≤ b → b ≤ size → Passing (head_checks (take b s) (width_of f) p)
  heads-pass b c e =
      let rest = take (b - head_size rate) (body_of f l n x) in
      let short : length (y d hr rest) ≤ most_bytes = omega (arith, ap length (cut-is b c), cut-long b e, most) in
      subst (λ (t : List ℕ). Passing (head_checks t (width_of f) p)) (sym (cut-is b c)) (head-pass d hr rest short)

  -- cut in section 0: 10, whatever is checked after the start
  pub early : (b : ℕ) → b < head_size rate → (m : List Check) (e : Outcome) → first_refusal (start_checks (take b s) ++ m) e ≡ Err (CutShort b)
  early b h m e =
      let t = take b s in
      let all = cut-long b (omega arith) in
      let limit = le-ltb most_bytes (length t) (omega (arith, most)) in
      ⊎_elim
      (λ (few : b < 4). sym (by _ limit (stop _ (lt-ltb (length t) 4 (omega arith)) (ap (λ (n : ℕ). Err (CutShort n)) (sym all)))))
      (λ (c : 4 ≤ b).
      let known = ap not (ap is_count (count-read b c) ∙ count-known rate) in
      sym (by _ limit (by _ (le-ltb (length t) 4 (omega arith)) (by _ known (stop _ (lt-ltb (length t) (head_in t).body (omega (arith, all, count-read b c))) (ap (λ (n : ℕ). Err (CutShort n)) (sym all)))))))
      (lt-or-le b 4)

  pub filed : Filed (head_size rate) f l n p x s
  filed = record {
    recording = d;
    front = head_of (width_of f) l n p rate;
    long = head-length (width_of f) l n p rate;
    parts = parts;
    head = λ b c. ap head_in (cut-is b c) ∙ head-of d hr (take (b - head_size rate) (body_of f l n x));
    passes = heads-pass;
    early = λ b h m. early b h ((field_checks (head_in (take b s)) (width_of f) p ++ rate_checks (take b s)) ++ m);
  }
