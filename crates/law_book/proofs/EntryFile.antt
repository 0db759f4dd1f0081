-- Every entry that could begin a file does begin one: that of so many zeros as it says.
use mathlib.Core.Bool.{Bool, true, false, cond, and-eq-true_iff}
use mathlib.Core.List.{List, [], ◌++◌, append-nil, append_assoc}
use mathlib.Core.Logic.{⊎_elim}
use mathlib.Core.Path.{◌≡◌, sym, ap, ap₂, ◌∙◌}
use Prim.Native.Nat.{ℕ, ◌+◌, ◌*◌, ◌^◌, ◌<◌}
use native.Mathlib.Omega.{arith}
use borrow.Author.Tests.{eqb-false, not-false}
use lib.Dec.{eqb}
use lib.ListN.{length, take, drop, replicate, length-replicate, drop_of_length-le}
use lib.Seq.{take_at}
use Rattle.base_answers.specs.Answers.{told, done}
use Rattle.base_answers.specs.Checks.{first_refusal}
use Rattle.base_answers.proofs.Passed.{Passing, passing, roomy}
use Rattle.base_lengths.specs.declared.Wavelet.TheVariants.{Cdf53}
use Rattle.base_lengths.specs.Lengths.{most_samples}
use Rattle.base_lengths.specs.Levels.{depth_of}
use Rattle.base_samples.specs.Le.{le_at, Bytes}
use Rattle.base_samples.proofs.LeLaws.{le_at-lt}
use Rattle.base_samples.specs.Integers.{is_width}
use Rattle.levels_filter.specs.declared.filter.Filter.{Filter}
use Rattle.levels_filter.specs.Filters.{width_of}
use Rattle.file_open.specs.Files.{old_count, new_count, is_count, count_by, common_of, rate_of, body_of, file_of, file_size}
use Rattle.file_open.specs.Opens.{filter_of, head_in, is_new, field_checks}
use Rattle.file_open.proofs.Opening.{filter-width, filter-integers, which-count}
use Rattle.file_open.proofs.Writing.{common-length, file-parts}
use Rattle.law_cuts.proofs.Filed.{Recording, all-length}
use Rattle.law_cuts.proofs.WrittenHead.{filed}
use Rattle.book_entries.specs.Books.{entry_size, point_by, size_by, is_head}
use Rattle.book_entries.specs.Checks.{whole_checks}
use Rattle.law_book.proofs.ByteParts.{bytes-zeros}
use Rattle.law_book.proofs.FileBytes.{file-bytes}
use Rattle.law_book.proofs.WholeFile.{common-back}
use Rattle.law_book.proofs.TakenOpens.{filed-taken}

-- ---- the file of an entry

-- a rate for its kind: an entry has none
abbrev rate_for : List ℕ → ℕ
rate_for e = cond (is_new e) 1 0

-- the file of as many zeros as the entry says, for its width, levels and point, and of its kind
unfoldable pub file_from : List ℕ → List ℕ
file_from e = let h = head_in e in file_of (filter_of h.width) h.levels h.point (rate_for e) (replicate (h.width * h.samples) 0)

-- it is bytes, whatever the entry says
pub from_bytes : (e : List ℕ) → Bytes (file_from e)
unfolding file_from
from_bytes e =
    let h = head_in e in
    file-bytes (filter_of h.width) (filter-integers h.width) h.levels h.point (rate_for e) (replicate (h.width * h.samples) 0) (bytes-zeros (h.width * h.samples))

module _ (e : List ℕ) (he : is_head e ≡ true) (be : Bytes e) (long : length e ≡ entry_size) where
  abbrev w : ℕ
  w = (head_in e).width

  abbrev l : ℕ
  l = (head_in e).levels

  abbrev n : ℕ
  n = (head_in e).samples

  abbrev p : ℕ
  p = (head_in e).point

  abbrev f : Filter
  f = filter_of w

  abbrev x : List ℕ
  x = replicate (w * n) 0

  -- what the entry says can be recorded
  counted : (is_count (le_at 4 e 0) ≡ true) × (done (first_refusal (field_checks (head_in e) w p) (told 0 0)) ≡ true)
  counted = (and-eq-true_iff (is_count (le_at 4 e 0)) _).0 he

  fields : Passing (field_checks (head_in e) w p)
  fields = passing (field_checks (head_in e) w p) (told 0 0) counted.1

  width : width_of f ≡ w
  width = filter-width w (not-false (is_width w) fields.1.0)

  recording : Recording f l n p x
  recording = record {
    integers = filter-integers w;
    bytes = bytes-zeros (w * n);
    size = length-replicate {A = ℕ} (w * n) 0 ∙ ap (λ (k : ℕ). k * n) (sym width);
    least = roomy n 3 fields.1.1.0;
    most = roomy most_samples n fields.1.1.1.0;
    some = omega (arith, eqb-false l 0 fields.1.1.1.1.0);
    deep = roomy (depth_of Cdf53 n) l fields.1.1.1.1.1.0;
    point = le_at-lt e be 4 10;
  }

  -- of its kind
  count : count_by (rate_for e) ≡ le_at 4 e 0
  count =
      ⊎_elim
      (λ (c : le_at 4 e 0 ≡ old_count). ap (λ (q : ℕ). count_by (cond (eqb q new_count) 1 0)) c ∙ sym c)
      (λ (c : le_at 4 e 0 ≡ new_count). ap (λ (q : ℕ). count_by (cond (eqb q new_count) 1 0)) c ∙ sym c)
      (which-count (le_at 4 e 0) counted.0)

  rate-small : rate_for e < 2 ^ 32
  rate-small = pick (is_new e)
    where
      pick : (b : Bool) → cond b 1 0 < 2 ^ 32
      pick true = omega arith
      pick false = omega arith

  -- the entry is what both kinds begin with
  whole-entry : common_of (le_at 4 e 0) w l n p ≡ e
  whole-entry =
      let none : drop entry_size e ≡ [] = drop_of_length-le e {i = entry_size} (omega (arith, long)) in
      sym (append-nil (common_of (le_at 4 e 0) w l n p)) ∙ ap (λ (t : List ℕ). common_of (le_at 4 e 0) w l n p ++ t) (sym none) ∙ common-back e be (omega (arith, long))

  -- so the file begins with it
  pub from-entry : take entry_size (file_from e) ≡ e
  unfolding file_from
  from-entry =
      let r = rate_for e in
      let front = common_of (count_by r) (width_of f) l n p in
      ap (take entry_size) (file-parts f l p r n x recording.size ∙ append_assoc front (rate_of r) (body_of f l n x))
      ∙ take_at front (rate_of r ++ body_of f l n x) entry_size (common-length (count_by r) (width_of f) l n p)
      ∙ ap₂ (λ (c k : ℕ). common_of c k l n p) count width
      ∙ whole-entry

  -- it has as many bytes as the entry says, and is taken
  pub from-size : length (file_from e) ≡ size_by e
  unfolding file_from
  from-size = all-length (filed recording rate-small) ∙ ap₂ (λ (c k : ℕ). file_size (4 + c) k l n) count width

  pub from-taken : Passing (whole_checks (file_from e) (point_by e))
  unfolding file_from
  from-taken = filed-taken (filed recording rate-small)
