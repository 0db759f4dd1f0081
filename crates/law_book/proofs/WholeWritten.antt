-- A file that adding takes is the file of its own samples and rate, whoever wrote it: of a new one, writing the samples that it opens as, for its rate, gives every byte
-- of it. No call writes an old one any more.
use mathlib.Core.Bool.{Bool, true, false, cond}
use mathlib.Core.List.{List, [], ◌∷◌, ◌++◌}
use mathlib.Core.Path.{◌≡◌, refl, sym, ap, ap₂, subst, ◌∙◌}
use Prim.Native.Nat.{ℕ, ◌-◌, ◌^◌, ◌≤◌, ◌<◌}
use native.Mathlib.Omega.{arith}
use borrow.Author.Tests.{ltb-false, eqb-false, not-false}
use lib.Dec.{ltb}
use lib.ListN.{length, take, drop, length-drop}
use lib.Seq.{take_all}
use Rattle.base_answers.specs.declared.err.Refusal.TheVariants.{CutShort}
use Rattle.base_answers.specs.Answers.{done}
use Rattle.base_answers.proofs.Passed.{Passing, both-pass, roomy, right}
use Rattle.base_lengths.specs.declared.Wavelet.TheVariants.{Cdf53}
use Rattle.base_lengths.specs.Lengths.{most_samples}
use Rattle.base_lengths.specs.Levels.{after_levels, count_at, depth_of}
use Rattle.base_samples.specs.Le.{le_at, Bytes}
use Rattle.base_samples.proofs.LeLaws.{le_at-lt}
use Rattle.base_samples.specs.Integers.{is_width}
use Rattle.levels_filter.specs.declared.filter.Filter.{Filter}
use Rattle.levels_filter.specs.Filters.{width_of}
use Rattle.levels_filter.proofs.Integers.{own-depth}
use Rattle.file_open.specs.declared.walk.Way.{Way}
use Rattle.file_open.specs.declared.walk.Way.TheVariants.{Went}
use Rattle.file_open.specs.Files.{head_of, head_size, common_size, body_of, body_size, file_of, file_size}
use Rattle.file_open.specs.Walks.{walk_of, restored_at}
use Rattle.file_open.specs.Opens.{filter_of, head_in, is_new, rate_in, start_checks, field_checks, rate_checks, head_checks, way_in, way_checks, file_checks, whole_details, level_in, samples_in, say_open, rate_opened, own_width}
use Rattle.file_open.proofs.Ways.{walk-size}
use Rattle.file_open.proofs.Opening.{filter-width, filter-integers, start-passes, head-parts}
use Rattle.file_open.proofs.Writing.{file-parts}
use Rattle.law_cuts.proofs.SectionsBack.{Sections, sections-back}
use Rattle.law_cuts.proofs.Filed.{Recording, Filed, all-length}
use Rattle.law_cuts.proofs.WrittenHead.{filed}
use Rattle.law_cuts.proofs.Rates.{file-rate}
use Rattle.book_entries.specs.Checks.{whole_checks}
use Rattle.law_book.proofs.WholeFile.{head-back, size_back, whole-went}

module _ (s : List ℕ) (p : ℕ) (bs : Bytes s) (c : Passing (whole_checks s p)) where
  abbrev w : ℕ
  w = (head_in s).width

  abbrev l : ℕ
  l = (head_in s).levels

  abbrev n : ℕ
  n = (head_in s).samples

  abbrev z : ℕ
  z = (head_in s).body

  abbrev f : Filter
  f = filter_of w

  -- what the checks have passed: of the file, of section 0 and the walk, and of the fields
  file : Passing (file_checks s (own_width s) p) × Passing ((ltb 0 (level_in s), CutShort (length s)) ∷ [])
  file = both-pass (file_checks s (own_width s) p) ((ltb 0 (level_in s), CutShort (length s)) ∷ []) c

  parts : Passing (head_checks s (own_width s) p) × Passing (way_checks (way_in s (head_in s)) (length s))
  parts = both-pass (head_checks s (own_width s) p) (way_checks (way_in s (head_in s)) (length s)) file.0

  head : Passing (start_checks s) × Passing (field_checks (head_in s) (own_width s) p) × Passing (rate_checks s)
  head = head-parts s (own_width s) p parts.0

  -- so section 0 is there, for a width that a filter has, for point p, and for levels that run
  there : z ≤ length s
  there = (start-passes s head.0).1

  width : width_of f ≡ w
  width = filter-width w (subst (λ (k : ℕ). is_width k ≡ true) (sym (right w (own_width s) head.1.0)) (not-false (is_width (own_width s)) head.1.1.0))

  point : (head_in s).point ≡ p
  point = right (head_in s).point p head.1.1.1.1.1.1.1.0

  deep : l ≤ depth_of Cdf53 n
  deep = roomy (depth_of Cdf53 n) l head.1.1.1.1.1.1.0

  -- the walk goes to the end
  way : way_in s (head_in s) ≡ Went (length s)
  way = whole-went s w l n z (way_in s (head_in s)) refl there parts.1 (ltb-false 0 (level_in s) file.1.0)

  walk : walk_of s (width_of f) l n z ≡ Went (length s)
  walk = ap (λ (k : ℕ). walk_of s k l n z) width ∙ way

  -- so its samples are what all levels restore
  restored : restored_at (width_of f) s l n z ≡ samples_in s
  unfolding samples_in after_levels
  restored =
      let none : l - l ≡ 0 = omega arith in
      ap (λ (k : ℕ). restored_at k s l n z) width
      ∙ ap (λ (j : ℕ). restored_at w s l (count_at j n) z) (sym none)
      ∙ ap (λ (v : Way). restored_at w s (whole_details v l) (count_at (l - whole_details v l) n) z) (sym way)

  -- and the sections are those of what they restore
  sections : Sections f s l n z
  sections = sections-back f (filter-integers w) s bs l n z (length s) there (own-depth f (filter-integers w) l n deep) walk

  -- its samples can be recorded
  pub whole-recording : Recording f l n p (samples_in s)
  whole-recording = record {
    integers = filter-integers w;
    bytes = subst Bytes restored sections.bytes;
    size = ap length (sym restored) ∙ sections.size;
    least = roomy n 3 head.1.1.1.0;
    most = roomy most_samples n head.1.1.1.1.0;
    some = omega (arith, eqb-false l 0 head.1.1.1.1.1.0);
    deep = deep;
    point = subst (λ (q : ℕ). q < 2 ^ 32) point (le_at-lt s bs 4 10);
  }

  -- nothing stands behind the sections
  body : drop z s ≡ body_of f l n (samples_in s)
  body =
      let size = walk-size l s (width_of f) n z (length s) there walk in
      sym (take_all (body_size (width_of f) l n) (drop z s) (omega (arith, length-drop z s, size.0)))
      ∙ sections.body ∙ ap (body_of f l n) restored

  -- a whole file is the file of its own samples, for its rate
  pub whole-written : s ≡ file_of f l p (rate_in s) (samples_in s)
  whole-written =
      sym (head-back s bs head.0 head.2)
      ∙ ap₂ (λ (k q : ℕ). head_of k l n q (rate_in s) ++ drop z s) (sym width) point
      ∙ ap (λ (t : List ℕ). head_of (width_of f) l n p (rate_in s) ++ t) body
      ∙ sym (file-parts f l p (rate_in s) n (samples_in s) whole-recording.size)

  rate-small : rate_in s < 2 ^ 32
  rate-small = pick (is_new s)
    where
      pick : (b : Bool) → cond b (le_at 4 s common_size) 0 < 2 ^ 32
      pick true = le_at-lt s bs 4 common_size
      pick false = omega arith

  -- so what is proved of written files holds of it
  pub whole-filed : Filed z f l n p (samples_in s) s
  whole-filed =
      subst (λ (j : ℕ). Filed j f l n p (samples_in s) s) (size_back s bs head.0 head.2)
      (subst (Filed (head_size (rate_in s)) f l n p (samples_in s)) (sym whole-written) (filed whole-recording rate-small))

  -- and where a front of it opens, that gives its rate
  pub whole-rate : (c : ℕ) → c ≤ length s → (k q o u v : ℕ) → done (say_open (take c s) k q o u v) ≡ true → rate_opened (take c s) k q o u v ≡ rate_in s
  whole-rate c e k q o u v h =
      let most : c ≤ file_size (head_size (rate_in s)) (width_of f) l n = omega (arith, size_back s bs head.0 head.2, all-length whole-filed) in
      let cut = ap (take c) whole-written in
      ap (λ (t : List ℕ). rate_opened t k q o u v) cut ∙ file-rate whole-recording rate-small c most k q o u v (sym (ap (λ (t : List ℕ). done (say_open t k q o u v)) cut) ∙ h)
