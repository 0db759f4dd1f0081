-- What follows of a file that was cut anywhere: opening it is done, 7 or 10, so never 8, 9, 11, 12 or 18; the whole file gives the samples, and nothing less
-- does. Each of the integer filters.
use mathlib.Core.List.{List}
use mathlib.Core.Logic.{◌⊎◌, inl, inr, ⊎_elim}
use mathlib.Core.Path.{◌≡◌, refl, sym, ap, subst, ◌∙◌}
use Prim.Native.Nat.{ℕ, zero, suc, ◌-◌, ◌≤◌, ◌<◌}
use native.Mathlib.Omega.{arith}
use lib.ListN.{take}
use lib.Seq.{take_all}
use Rattle.std.specs.Prelude.{Err}
use Rattle.base_answers.specs.declared.err.Answer.{Answer}
use Rattle.base_answers.specs.declared.err.Refusal.TheVariants.{CutShort}
use Rattle.base_answers.specs.Answers.{Outcome, told, answer_of}
use Rattle.base_answers.specs.Checks.{first_refusal}
use Rattle.base_order.proofs.Order.{lt-or-le}
use Rattle.base_lengths.specs.Lengths.{approx_length}
use Rattle.base_lengths.specs.Levels.{after_levels, count_at}
use Rattle.levels_filter.specs.declared.filter.Filter.{Filter}
use Rattle.levels_filter.specs.Filters.{width_of}
use Rattle.levels_filter.specs.Pyramids.{approx_at}
use Rattle.file_open.specs.Files.{body_size, file_size}
use Rattle.file_open.specs.Opens.{rooms_for, say_open}
use Rattle.file_open.proofs.Opening.{rooms-say}
use Rattle.law_cuts.specs.Sees.{needed, whole_of, whole_in, level_left, Sampled, Roomy, OpensTo}
use Rattle.law_cuts.proofs.Restored.{whole-all, whole-less, whole-most}
use Rattle.law_cuts.proofs.Filed.{Filed, all-length}
use Rattle.law_cuts.proofs.Whole.{first-most, whole_is}
use Rattle.law_cuts.proofs.Survives.{cut_short, rooms-decide, survives}

-- in a whole file all sections are whole
pub all_whole : (z k l n : ℕ) → whole_of z k l n (file_size z k l n) ≡ l
all_whole z k l n =
    let e : body_size k l n ≡ file_size z k l n - z = omega arith in
    sym (whole_is z k l n (file_size z k l n) (omega (arith, first-most k l n))) ∙ ap (whole_in k l n) (sym e) ∙ whole-all k l n (body_size k l n) (omega arith)

-- "only the whole file gives it": with fewer bytes the level is not 0
pub only-whole : (z k l n b : ℕ) → 1 ≤ l → needed z k l n ≤ b → b < file_size z k l n → 1 ≤ level_left z k l n b
only-whole z k zero n b h c e = omega arith
only-whole z k (suc l) n b h c e =
    omega (arith, whole_is z k (suc l) n b c, whole-less k l n (b - z) (omega arith), whole-most k l (approx_length n) (b - z))

-- the number of an answer is none of those of a file of another width, with a wrong count, for another point, with bytes behind it, or without the rate that its kind has
pub record Unmixed (r : Answer) : Type 0 where
  pub no-width : r.number ≡ 8 → ⊥
  pub no-count : r.number ≡ 9 → ⊥
  pub no-point : r.number ≡ 11 → ⊥
  pub no-trail : r.number ≡ 12 → ⊥
  pub no-rate : r.number ≡ 18 → ⊥

-- done, no room, or cut short
abbrev pub Plain : Answer → Type 0
Plain r = (r.number ≡ 0) ⊎ ((r.number ≡ 7) ⊎ (r.number ≡ 10))

plain-is : (s t : Outcome) → s ≡ t → Plain (answer_of t) → Plain (answer_of s)
plain-is s t e h = subst (λ (a : Outcome). Plain (answer_of a)) (sym e) h

rooms-plain : (k c o u v i : ℕ) → Plain (answer_of (first_refusal (rooms_for k c o u v) (told i c)))
rooms-plain k c o u v i = ⊎_elim inl (λ e. inr (inl e)) (rooms-say k c o u v i)

module _ {z : ℕ} {f : Filter} {l n p : ℕ} {x s : List ℕ} (d : Filed z f l n p x s) {o u v : ℕ} (a : Sampled (width_of f) o u v) where
  abbrev k : ℕ
  k = width_of f

  -- the whole file, with room for the samples: level 0, and the samples
  pub opens-whole : Roomy k n o u v → OpensTo s k p o u v 0 n x
  unfolding after_levels
  opens-whole g =
      let b = file_size z k l n in
      let e : take b s ≡ s = take_all b s (omega (arith, all-length d)) in
      let q : level_left z k l n b ≡ 0 = omega (arith, all_whole z k l n) in
      let room : Roomy k (count_at (level_left z k l n b) n) o u v = subst (λ (m : ℕ). Roomy k (count_at m n) o u v) (sym q) g in
      let i = survives d a b (omega (arith, first-most k l n)) (omega arith) room in
      subst (λ (t : List ℕ). OpensTo t k p o u v 0 n x) e (subst (λ (m : ℕ). OpensTo (take b s) k p o u v m (count_at m n) (approx_at f m x)) q i)

  -- whatever the room, opening is done, 7 or 10
  pub plain : (b : ℕ) → b ≤ file_size z k l n → Plain (answer_of (say_open (take b s) k p o u v))
  plain b e =
      let i = level_left z k l n b in
      ⊎_elim
      (λ (h : b < needed z k l n). plain-is (say_open (take b s) k p o u v) (Err (CutShort b)) (cut_short d a b h) (inr (inr refl)))
      (λ (h : needed z k l n ≤ b).
      plain-is (say_open (take b s) k p o u v) (first_refusal (rooms_for k (count_at i n) o u v) (told i (count_at i n))) (rooms-decide d a b h e) (rooms-plain k (count_at i n) o u v i))
      (lt-or-le b (needed z k l n))

  -- and never refused as a file that is not this one
  pub never_other : (b : ℕ) → b ≤ file_size z k l n → Unmixed (answer_of (say_open (take b s) k p o u v))
  never_other b e =
      ⊎_elim
      (λ z. record { no-width = λ h. omega arith; no-count = λ h. omega arith; no-point = λ h. omega arith; no-trail = λ h. omega arith; no-rate = λ h. omega arith })
      (⊎_elim
      (λ z. record { no-width = λ h. omega arith; no-count = λ h. omega arith; no-point = λ h. omega arith; no-trail = λ h. omega arith; no-rate = λ h. omega arith })
      (λ z. record { no-width = λ h. omega arith; no-count = λ h. omega arith; no-point = λ h. omega arith; no-trail = λ h. omega arith; no-rate = λ h. omega arith }))
      (plain b e)
