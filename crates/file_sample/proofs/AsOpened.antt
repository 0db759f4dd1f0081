-- Beside opening: where opening is done, the sample at each place that it gives back, and 13 at every other; where it says 7, the places that it counts; where it
-- is refused for the file, the same refusal.
-- For every file, whole, cut or damaged, and every width, point and place.
use mathlib.Core.Bool.{Bool, true, false, cond}
use mathlib.Core.List.{List, [], ◌∷◌, ◌++◌}
use mathlib.Core.Logic.{⊎_elim}
use mathlib.Core.Path.{◌≡◌, refl, sym, ap, ◌∙◌}
use Prim.Native.Nat.{ℕ, ◌*◌, ◌^◌, ◌≤◌, ◌<◌}
use lib.IntN.{pos}
use lib.ListN.{length, drop}
use lib.Seq.{take_at}
use Rattle.base_answers.specs.declared.err.Answer.{Answer}
use Rattle.base_answers.specs.Answers.{Outcome, told, say, answer_of, says, done}
use Rattle.base_answers.specs.Checks.{Check, first_refusal, ragged}
use Rattle.base_answers.proofs.Endings.{is-done, not_done, said-number, left-done}
use Rattle.base_answers.proofs.Passed.{off, Passing, Without, passed-before, pass_on, through}
use Rattle.base_samples.specs.Words.{word_at}
use Rattle.base_samples.specs.Integers.{is_width, val}
use Rattle.base_samples.proofs.Words.{word-take}
use Rattle.file_open.specs.declared.walk.Way.{Way}
use Rattle.file_open.specs.declared.walk.Way.TheVariants.{Went, Short, Wrong}
use Rattle.file_open.specs.Opens.{head_in, head_checks, way_in, way_checks, level_in, count_in, samples_in, area_checks, WholeAreas, file_checks, rooms_for, say_file, say_open, Open}
use Rattle.file_open.proofs.Opening.{whole-areas-pass, rooms-say, rooms-count, file-rest, file-stop, open-taken, open-says}
use Rattle.file_sample.specs.declared.PeekAnswer.{PeekAnswer}
use Rattle.file_sample.specs.Peeks.{Peek}
use Rattle.file_sample.proofs.OneSample.{restored-length}
use Rattle.file_sample.proofs.Peeking.{levels_restored, say-refused, say-past, say-done, peek-none, peek-some, file-stands, file-samples}

-- two results that the statement allows are equal
pub peek-decides : {s : List ℕ} {w p j : ℕ} {r q : PeekAnswer} → Peek s w p j r → Peek s w p j q → r ≡ q
peek-decides m n = λ i. record { answer = (m.answer ∙ sym n.answer) i; sample = (m.sample ∙ sym n.sample) i }

-- word j of what stands in front
front-word : (k : ℕ) (a b : List ℕ) (n j : ℕ) → length a ≡ k * n → j < n → word_at k (a ++ b) j ≡ word_at k a j
front-word k a b n j e h = sym (word-take k (a ++ b) n j h) ∙ ap (λ (t : List ℕ). word_at k t j) (take_at a b (k * n) e)

-- 7 is said of areas alone
without_both : (n : ℕ) (l m : List Check) → Without n l → Without n m → Without n (l ++ m)
without_both n [] m h g = g
without_both n (p ∷ l) m h g = (h.0, without_both n l m h.1 g)

areas-never : (w o u v : ℕ) → Without 7 (area_checks w o u v)
areas-never w o u v = pick (is_width w)
  where
    pick : (b : Bool) → Without 7 (cond b (ragged w o ∷ ragged w u ∷ ragged w v ∷ []) [])
    pick true = (refl, (refl, (refl, tt)))
    pick false = tt

way_never : (v : Way) (b : ℕ) → Without 7 (way_checks v b)
way_never (Went p) b = (refl, tt)
way_never (Short j) b = (refl, tt)
way_never (Wrong j found) b = (refl, tt)

file-never : (s : List ℕ) (w p : ℕ) → Without 7 (file_checks s w p)
file-never s w p =
    without_both 7 (head_checks s w p) (way_checks (way_in s (head_in s)) (length s))
    (refl, (refl, (refl, (refl, (refl, (refl, (refl, (refl, (refl, (refl, (refl, (refl, tt))))))))))))
    (way_never (way_in s (head_in s)) (length s))

module _ (s : List ℕ) (w p : ℕ) where
  -- an opening that says 7 has taken the file, and tells its count
  no-room-file : (o u v : ℕ) → let r = say_open s w p o u v in says 7 r ≡ true → (done (say_file s w p) ≡ true) × ((answer_of r).second ≡ count_in s)
  unfolding say_open say_file
  no-room-file o u v h =
      let rooms = rooms_for w (count_in s) o u v in
      let all = told (level_in s) (count_in s) in
      let a = passed-before 7 (area_checks w o u v) (file_checks s w p ++ rooms) all (areas-never w o u v) h in
      let q = passed-before 7 (file_checks s w p) rooms all (file-never s w p) a.1 in (
        ap done (through (file_checks s w p) all q.0),
        ap (λ (x : Outcome). (answer_of x).second) (pass_on (area_checks w o u v) (file_checks s w p ++ rooms) all a.0 ∙ pass_on (file_checks s w p) rooms all q.0)
            ∙ rooms-count w (count_in s) o u v (level_in s),
      )

  -- what opening gives back is as many samples as it says
  samples-length : done (say_file s w p) ≡ true → length (samples_in s) ≡ w * count_in s
  samples-length h = sym (ap length (file-samples s w p h)) ∙ restored-length (levels_restored s) (count_in s) (head_in s).body s (file-stands s w p h)

  -- an opening that is refused, and not for its areas, is refused for the file
  refused-file : (o u v : ℕ) → Passing (area_checks w o u v) → let r = say_open s w p o u v in done r ≡ false → ((answer_of r).number ≡ 7 → ⊥) → (done (say_file s w p) ≡ false) × (r ≡ say_file s w p)
  unfolding say_open
  refused-file o u v a h n = pick (done (say_file s w p)) refl
    where
      rooms : List Check
      rooms = rooms_for w (count_in s) o u v

      e : first_refusal (area_checks w o u v ++ (file_checks s w p ++ rooms)) (told (level_in s) (count_in s)) ≡ first_refusal (file_checks s w p ++ rooms) (told (level_in s) (count_in s))
      e = pass_on (area_checks w o u v) (file_checks s w p ++ rooms) (told (level_in s) (count_in s)) a

      pick : (b : Bool) → done (say_file s w p) ≡ b → (done (say_file s w p) ≡ false) × (first_refusal (area_checks w o u v ++ (file_checks s w p ++ rooms)) (told (level_in s) (count_in s)) ≡ say_file s w p)
      pick false q = (q, e ∙ file-stop s w p rooms (told (level_in s) (count_in s)) q)
      pick true q =
          let f = e ∙ file-rest s w p rooms (told (level_in s) (count_in s)) q in
          let number = ap (λ (x : Outcome). (answer_of x).number) f in
          ⊎_elim (λ y. off h (is-done _ _ refl (number ∙ y))) (λ y. absurd (n (number ∙ y))) (rooms-say w (count_in s) o u v (level_in s))

module _ (s : List ℕ) (w p : ℕ) {o u v : List ℕ} {r : Answer} {o' u' v' : List ℕ} (call : Open s w p o u v r o' u' v') where
  abbrev said : Outcome
  said = say_open s w p (length o) (length u) (length v)

  -- past the count of a file that is taken
  past : done (say_file s w p) ≡ true → r.second ≡ count_in s → (j : ℕ) → r.second ≤ j → (q : PeekAnswer) → Peek s w p j q → (q.answer ≡ say 13 j r.second) × (q.sample ≡ pos 0)
  past t n j h q m =
      let e = say-past s w p j t (rw n at h) in
      (m.answer ∙ ap answer_of e ∙ ap (say 13 j) (sym n), m.sample ∙ peek-none s w p j (ap done e))

  -- opening is done
  module _ (z : r.number ≡ 0) where
    is_done : done said ≡ true
    is_done = is-done said r call.answer z

    taken : done (say_file s w p) ≡ true
    taken = ap done (open-taken s w p (length o) (length u) (length v) is_done)

    count : r.second ≡ count_in s
    count = ap (λ (a : Answer). a.second) (call.answer ∙ ap answer_of (open-says s w p (length o) (length u) (length v) is_done).0)

    output : o' ≡ samples_in s ++ drop (w * count_in s) o
    output = call.output ∙ left-done said (samples_in s ++ drop (w * count_in s) o) o is_done

    -- the sample at each place that it gives back
    pub as-opened : (j : ℕ) → j < r.second → (q : PeekAnswer) → Peek s w p j q → (q.answer ≡ say 0 0 0) × (q.sample ≡ val (256 ^ w) (word_at w o' j))
    as-opened j h q m =
        let l : j < count_in s = rw count at h in
        let d = say-done s w p j taken l in
        let word : word_at w o' j ≡ word_at w (samples_in s) j = ap (λ (t : List ℕ). word_at w t j) output ∙ front-word w (samples_in s) (drop (w * count_in s) o) (count_in s) j (samples-length s w p taken) l in
        (m.answer ∙ ap answer_of d, m.sample ∙ peek-some s w p j d ∙ sym (ap (val (256 ^ w)) word))

    -- and 13 past them
    pub past-count : (j : ℕ) → r.second ≤ j → (q : PeekAnswer) → Peek s w p j q → (q.answer ≡ say 13 j r.second) × (q.sample ≡ pos 0)
    past-count j h q m = past taken count j h q m

  -- opening is refused with 7, for the room of its count: the same places are there
  module _ (z : r.number ≡ 7) where
    probed : (done (say_file s w p) ≡ true) × (r.second ≡ count_in s)
    probed =
        let f = no-room-file s w p (length o) (length u) (length v) (said-number 7 said r call.answer z) in
        (f.0, ap (λ (a : Answer). a.second) call.answer ∙ f.1)

    pub as-probed : (j : ℕ) → j < r.second → (q : PeekAnswer) → Peek s w p j q → (q.answer ≡ say 0 0 0) × (q.sample ≡ val (256 ^ w) (word_at w (samples_in s) j))
    as-probed j h q m =
        let d = say-done s w p j probed.0 (rw probed.1 at h) in
        (m.answer ∙ ap answer_of d, m.sample ∙ peek-some s w p j d)

    pub past-probed : (j : ℕ) → r.second ≤ j → (q : PeekAnswer) → Peek s w p j q → (q.answer ≡ say 13 j r.second) × (q.sample ≡ pos 0)
    past-probed j h q m = past probed.0 probed.1 j h q m

  -- opening is refused, its areas being whole samples where the width is one, and not with 7: the same refusal, and no sample
  pub as-refused : WholeAreas w (length o) (length u) (length v) → (r.number ≡ 0 → ⊥) → (r.number ≡ 7 → ⊥)
      → (j : ℕ) (q : PeekAnswer) → Peek s w p j q → (q.answer ≡ r) × (q.sample ≡ pos 0)
  as-refused a z n j q m =
      let h = not_done said r call.answer z in
      let f = refused-file s w p (length o) (length u) (length v) (whole-areas-pass w (length o) (length u) (length v) a) h (λ e. n (ap (λ (a : Answer). a.number) call.answer ∙ e)) in
      let e = say-refused s w p j f.0 in
      (m.answer ∙ ap answer_of (e ∙ sym f.1) ∙ sym call.answer, m.sample ∙ peek-none s w p j (ap done e ∙ f.0))
