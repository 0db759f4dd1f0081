-- "The reason named is the opener's own, and everything before it passed": about the calls. r is what the reason's call returned, a what opening answered.
use mathlib.Core.Bool.{Bool, true, false, cond}
use mathlib.Core.List.{List, ◌++◌}
use mathlib.Core.Logic.{◌⊎◌}
use mathlib.Core.Path.{◌≡◌, refl, sym, ap, subst, ◌∙◌}
use Prim.Native.Nat.{ℕ, ◌+◌, ◌-◌, ◌/◌, ◌≤◌}
use native.Mathlib.Omega.{arith}
use borrow.Author.Tests.{le-ltb, eqb-true, eqb-false}
use lib.Dec.{eqb}
use lib.ListN.{length}
use Rattle.std.specs.Prelude.{Ok, Err}
use Rattle.base_answers.specs.declared.err.Answer.{Answer}
use Rattle.base_answers.specs.Answers.{Outcome, told, answer_of, say, done}
use Rattle.base_answers.specs.Checks.{first_refusal}
use Rattle.base_answers.proofs.Endings.{is-done, not_done}
use Rattle.base_answers.proofs.Passed.{Passing, passing, pass_on, through, off}
use Rattle.base_lengths.proofs.Counts.{count-at-le}
use Rattle.file_open.specs.declared.head.Head.{Head}
use Rattle.file_open.specs.declared.open.OpenAnswer.{OpenAnswer}
use Rattle.file_open.specs.Opens.{head_in, start_checks, file_checks, level_in, count_in, area_checks, rooms_for, WholeAreas, say_file, say_open, OpenGives}
use Rattle.file_open.proofs.Opening.{start-passes, file-says, file-rest, file-stop, whole-areas-pass, rooms-say}
use Rattle.file_why.specs.declared.Reason.{Reason}
use Rattle.file_why.specs.Laws.{among, section_numbers, field_numbers, StoppedBy, answer_by, Room}
use Rattle.file_why.specs.Reasons.{nothing, cut_in, reason_by, say_start, reason_of}
use Rattle.file_why.proofs.Stops.{stopped}
use Rattle.file_why.proofs.Says.{start-by, start-stops, reason_early, reason_later, later-by, says-each, way-ends, way_by}

-- ---- the answer of each case

-- what the opener says, where it refuses, is what the reason stands for
module _ (s : List ℕ) (w p : ℕ) where
  abbrev h : Head
  h = head_in s

  abbrev b : ℕ
  b = length s

  abbrev Told : Bool → Outcome → Type 0
  Told there r = done r ≡ false → answer_of r ≡ answer_by (reason_by there (head_in s) (length s) r)

  early-told : Told false (say_start s)
  early-told = start-by s (Told false) (λ _ _. refl) (λ _ _. refl) (λ _ _ _. refl) (λ _ _ _ _. refl) (λ _ z. off z refl)

  later-told : Passing (start_checks s) → Told true (say_file s w p)
  later-told q =
      later-by s w p (Told true) q
      ((λ _ _. refl), ((λ _ _. refl), ((λ _ _. refl), ((λ _ _. refl), ((λ _ _. refl), ((λ _ _. refl), ((λ _ _. refl), ((λ _ _. refl), tt))))))))
      (λ _. way_by s h (count_in s) (Told true) (start-passes s q).1 (λ i e _ _. ap (λ n. say 12 (b - n) 0) (way-ends s h (start-passes s q).1 i e).0) (λ _ z. off z refl) (λ _ _. refl) (λ _ _ _ z. off z refl)
      (λ _ _ _ _. refl))

  file-told : done (say_file s w p) ≡ false → answer_of (say_file s w p) ≡ answer_by (reason_of s w p)
  file-told d = pick (say_start s) refl
    where
      pick : (r : Outcome) → say_start s ≡ r → answer_of (say_file s w p) ≡ answer_by (reason_of s w p)
      pick (Ok v) e = later-told (passing (start_checks s) (told 0 0) (ap done e)) d ∙ sym (ap answer_by (reason_later s w p (ap done e)))
      pick (Err r) e = ap answer_of (start-stops s w p e) ∙ rw e at early-told refl ∙ sym (ap answer_by (reason_early s w p e))

  -- and its number that of what the opener says, also where it accepts the file
  why-number : (reason_of s w p).number ≡ (answer_of (say_file s w p)).number
  unfolding reason_of
  why-number = pick (done (say_file s w p)) refl
    where
      zero : (j : ℕ) (z : Bool) → (cond z nothing (cut_in h b 0 j)).number ≡ 0
      zero j true = refl
      zero j false = refl

      pick : (z : Bool) → done (say_file s w p) ≡ z → (reason_of s w p).number ≡ (answer_of (say_file s w p)).number
      pick true e =
          let f = file-says s w p e in
          ap (λ r. (reason_by (done (say_start s)) h b r).number) f ∙ zero (h.levels + 2 - level_in s) (eqb (level_in s) 0) ∙ sym (ap (λ r. (answer_of r).number) f)
      pick false e = sym (ap (λ (a : Answer). a.number) (file-told e))

-- ---- about the calls

-- room for all samples that section 0 tells of is enough
pub room-enough : (s : List ℕ) (w o u v : ℕ) → (head_in s).samples ≤ o / w → (head_in s).samples ≤ u / w → (head_in s).samples ≤ v / w → Room s w o u v
room-enough s w o u v a b c = let most = count-at-le (level_in s) (head_in s).samples in (omega (arith, most, a), omega (arith, most, b), omega (arith, most, c))

module _ (s : List ℕ) (w p : ℕ) {r : Reason} (why : r ≡ reason_of s w p) where
  number_is : r.number ≡ (answer_of (say_file s w p)).number
  number_is = ap (λ (r : Reason). r.number) why ∙ why-number s w p

  -- one of these: "7 is never reported"
  pub why-numbers : among (field_numbers ++ section_numbers) r.number ≡ true
  why-numbers =
      subst (λ n. among (field_numbers ++ section_numbers) n ≡ true) (sym number_is)
      (says-each s w p (λ q. among (field_numbers ++ section_numbers) (answer_of q).number ≡ true) (λ _ _. refl) (λ _ _. refl) refl refl (λ _ _. refl) (λ _ _. refl) (λ _. refl) (λ _ _. refl)
      (λ _. refl) refl)

  refuses : (r.number ≡ 0 → ⊥) → done (say_file s w p) ≡ false
  refuses n = not_done (say_file s w p) _ refl (λ e. n (number_is ∙ e))

  -- the check of the opener's list that stopped it: its number is the reason's, its test refuses, and all checks before it pass
  pub why-first : (r.number ≡ 0 → ⊥) → (r.number ≡ (answer_of (say_file s w p)).number) × StoppedBy (file_checks s w p) (say_file s w p)
  unfolding say_file
  why-first n = (number_is, stopped (file_checks s w p) (told (level_in s) (count_in s)) refl (refuses n))

  -- opening with areas of whole samples
  module _ {o u v : List ℕ} {a : OpenAnswer} {o' u' v' : List ℕ} (opens : OpenGives s w p o u v a o' u' v') (whole : WholeAreas w (length o) (length u) (length v)) where
    abbrev said : Outcome
    said = say_open s w p (length o) (length u) (length v)

    past : said ≡ first_refusal (file_checks s w p ++ rooms_for w (count_in s) (length o) (length u) (length v)) (told (level_in s) (count_in s))
    unfolding say_open
    past =
        pass_on (area_checks w (length o) (length u) (length v)) (file_checks s w p ++ rooms_for w (count_in s) (length o) (length u) (length v)) (told (level_in s) (count_in s))
        (whole-areas-pass w (length o) (length u) (length v) whole)

    -- is refused with the reason's number, if that is not 0, whatever room there is; and its whole answer can be read off the reason
    pub why-answer : (r.number ≡ 0 → ⊥) → a.answer ≡ answer_by r
    why-answer n =
        let e = past ∙ file-stop s w p (rooms_for w (count_in s) (length o) (length u) (length v)) (told (level_in s) (count_in s)) (refuses n) in
        opens.call.answer ∙ ap answer_of e ∙ file-told s w p (refuses n) ∙ sym (ap answer_by why)

    rest : r.number ≡ 0 → a.answer ≡ answer_of (first_refusal (rooms_for w (count_in s) (length o) (length u) (length v)) (told (level_in s) (count_in s)))
    rest z =
        opens.call.answer
        ∙ ap answer_of (past ∙ file-rest s w p (rooms_for w (count_in s) (length o) (length u) (length v)) (told (level_in s) (count_in s)) (is-done (say_file s w p) _ refl (sym number_is ∙ z)))

    -- else there is too little room, or it opens
    pub why-room : r.number ≡ 0 → (a.answer.number ≡ 0) ⊎ (a.answer.number ≡ 7)
    why-room z = subst (λ (a : Answer). (a.number ≡ 0) ⊎ (a.number ≡ 7)) (sym (rest z)) (rooms-say w (count_in s) (length o) (length u) (length v) (level_in s))

    -- or, with room for the samples that it gives back, opens
    pub why-opens : r.number ≡ 0 → Room s w (length o) (length u) (length v) → a.answer ≡ say 0 (level_in s) (count_in s)
    why-opens z room =
        rest z
        ∙ ap answer_of
        (through (rooms_for w (count_in s) (length o) (length u) (length v)) (told (level_in s) (count_in s))
        (le-ltb (length o / w) (count_in s) room.0, (le-ltb (length u / w) (count_in s) room.1, (le-ltb (length v / w) (count_in s) room.2, tt))))

    -- so with such room opening answers the reason's number, and is done exactly where that is 0
    pub why-own : (r.number ≡ 0 → Room s w (length o) (length u) (length v)) → a.answer.number ≡ r.number
    why-own room = pick (eqb r.number 0) refl
      where
        pick : (t : Bool) → eqb r.number 0 ≡ t → a.answer.number ≡ r.number
        pick true e = let z = eqb-true r.number 0 e in ap (λ (a : Answer). a.number) (why-opens z (room z)) ∙ sym z
        pick false e = ap (λ (a : Answer). a.number) (why-answer (eqb-false r.number 0 e))
