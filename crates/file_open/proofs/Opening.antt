-- Opening: what each part of the checks leaves when it passes, and that the levels which a cut left can be restored.
use mathlib.Core.Bool.{Bool, true, false, cond, ◌||◌}
use mathlib.Core.List.{List, [], ◌∷◌, ◌++◌}
use mathlib.Core.Logic.{◌⊎◌, inl, inr, ⊎_elim}
use mathlib.Core.Path.{◌≡◌, refl, sym, ap, ◌∙◌}
use Prim.Native.Nat.{ℕ, suc, ◌+◌, ◌-◌, ◌*◌, ◌/◌, ◌%◌, ◌≤◌, ◌<◌}
use native.Mathlib.Nat.{mul-le-mul_left}
use native.Mathlib.Omega.{arith}
use borrow.Author.Tests.{eqb-true, eqb-false, not-false}
use lib.Dec.{ltb, eqb}
use lib.ListN.{length, drop}
use Rattle.std.specs.Prelude.{Result, Ok, Err}
use Rattle.base_answers.specs.declared.err.Refusal.{Refusal}
use Rattle.base_answers.specs.declared.err.Refusal.TheVariants.{NoRoom}
use Rattle.base_answers.specs.Answers.{Outcome, told, answer_of, done}
use Rattle.base_answers.specs.Checks.{ragged, Check, first_refusal, passes}
use Rattle.base_answers.proofs.Chain.{same}
use Rattle.base_answers.proofs.Tells.{same_told}
use Rattle.base_answers.proofs.Endings.{call-decides}
use Rattle.base_answers.proofs.Passed.{off, Passing, passing, both-pass, whole, roomy, right, through, pass_on, stops, passed, joined, and_then, asked, in_turn}
use Rattle.base_lengths.specs.declared.Wavelet.TheVariants.{Cdf53}
use Rattle.base_lengths.specs.Lengths.{most_samples, approx_length}
use Rattle.base_lengths.specs.Levels.{after_levels, count_at, depth_of}
use Rattle.base_lengths.proofs.Counts.{after_last, count-at-le}
use Rattle.base_lengths.proofs.Depths.{depth-rest}
use Rattle.base_samples.specs.Le.{le_at}
use Rattle.base_samples.specs.Integers.{is_width}
use Rattle.base_samples.proofs.IntegerLaws.{width-of}
use Rattle.levels_filter.specs.declared.filter.Filter.TheVariants.{Cdf53I8, Cdf53I16, Cdf53I32}
use Rattle.levels_filter.specs.declared.filter.Filter.{Filter}
use Rattle.levels_filter.specs.Filters.{width_of, wavelet_of, Integers}
use Rattle.levels_filter.proofs.Integers.{own-depth}
use Rattle.file_open.specs.declared.open.OpenAnswer.{OpenAnswer}
use Rattle.file_open.specs.declared.walk.Way.{Way}
use Rattle.file_open.specs.declared.walk.Way.TheVariants.{Went, Short, Wrong}
use Rattle.file_open.specs.Files.{old_count, new_count, is_count, common_size, body_size}
use Rattle.file_open.specs.Walks.{walk_of, restored_at}
use Rattle.file_open.specs.Opens.{filter_of, head_in, start_checks, field_checks, rate_checks, head_checks, way_in, way_checks, whole_details, level_in, count_in, area_checks, WholeAreas, rooms_for, samples_in, say_open, file_checks, say_file, rate_in, rate_opened, OpenGives}
use Rattle.file_open.proofs.Ways.{walk-size, walk-stops}

-- the integer filter of a width has that width
pub filter-width : (w : ℕ) → is_width w ≡ true → width_of (filter_of w) ≡ w
filter-width w h =
    ⊎_elim (λ (e : w ≡ 1). rw e refl) (⊎_elim (λ (e : w ≡ 2). rw e refl) (λ (e : w ≡ 4). rw e refl)) (width-of w h).which

pub ruleset filters = (filter-width)

-- and is one of integers, whatever the width
pub filter-integers : (w : ℕ) → Integers (filter_of w)
filter-integers w = pick (eqb w 1) (eqb w 2)
  where
    pick : (a b : Bool) → Integers (cond a Cdf53I8 (cond b Cdf53I16 Cdf53I32))
    pick true b = tt
    pick false true = tt
    pick false false = tt

-- the two counts of section 0
pub which-count : (c : ℕ) → is_count c ≡ true → (c ≡ old_count) ⊎ (c ≡ new_count)
which-count c = pick (eqb c old_count) (eqb c new_count) refl refl
  where
    pick : (a b : Bool) → eqb c old_count ≡ a → eqb c new_count ≡ b → (a || b) ≡ true → (c ≡ old_count) ⊎ (c ≡ new_count)
    pick true b ea eb h = inl (eqb-true c old_count ea)
    pick false true ea eb h = inr (eqb-true c new_count eb)
    pick false false ea eb h = off refl h

-- what section 0 tells when its checks pass
pub record Headed (s : List ℕ) (w : ℕ) : Type 0 where
  pub common : common_size ≤ length s
  pub there : (head_in s).body ≤ length s
  pub width : (head_in s).width ≡ w
  pub known : is_width w ≡ true
  pub short : (head_in s).samples ≤ most_samples
  pub deep : (head_in s).levels ≤ depth_of Cdf53 (head_in s).samples

-- once the start has passed, section 0 is there, of one of the two kinds
pub start-count : (s : List ℕ) → Passing (start_checks s) → is_count (le_at 4 s 0) ≡ true
start-count s q = not-false (is_count (le_at 4 s 0)) q.1.1.0

pub start-passes : (s : List ℕ) → Passing (start_checks s) → (common_size ≤ length s) × ((head_in s).body ≤ length s)
start-passes s q =
    let there = roomy (length s) (head_in s).body q.1.1.1.0 in
    (⊎_elim (λ (e : le_at 4 s 0 ≡ old_count). omega arith) (λ (e : le_at 4 s 0 ≡ new_count). omega arith) (which-count (le_at 4 s 0) (start-count s q)), there)

-- what the three parts of the list have passed
pub head-parts : (s : List ℕ) (w p : ℕ) → Passing (head_checks s w p) → Passing (start_checks s) × Passing (field_checks (head_in s) w p) × Passing (rate_checks s)
head-parts s w p q =
    let b = both-pass (start_checks s) (field_checks (head_in s) w p ++ rate_checks s) q in
    let c = both-pass (field_checks (head_in s) w p) (rate_checks s) b.1 in
    (b.0, c.0, c.1)

pub head-passes : (s : List ℕ) (w p : ℕ) → Passing (head_checks s w p) → Headed s w
head-passes s w p q =
    let b = head-parts s w p q in
    let f = b.1 in
    let there = start-passes s b.0 in
    record {
      common = there.0;
      there = there.1;
      width = right (head_in s).width w f.0;
      known = not-false (is_width w) f.1.0;
      short = roomy most_samples (head_in s).samples f.1.1.1.0;
      deep = roomy (depth_of Cdf53 (head_in s).samples) (head_in s).levels f.1.1.1.1.1.0;
    }

-- the way passes: the detail sections that are whole are some of all, and they and section 1 are in the file
pub way-passes : (s : List ℕ) (k l n at : ℕ) (v : Way) → v ≡ walk_of s k l n at → at ≤ length s → Passing (way_checks v (length s))
    → let m = whole_details v l in (m ≤ l) × (at + body_size k m (count_at (l - m) n) ≤ length s)
unfolding after_levels
way-passes s k l n at (Went p) e h q =
    let i = walk-size l s k n at p h (sym e) in
    let z : l - l ≡ 0 = omega arith in
    (omega arith, rw z (omega (arith, i)))
way-passes s k l n at (Short j) e h q =
    let i = walk-stops l s k n at j (Short j) h (sym e) refl in
    let two : 2 ≤ j = omega (arith, i.some, eqb-false j 1 q.0) in
    let z = walk-size (j - 2) s k (approx_length (count_at (l + 1 - j) n)) at _ h (i.before two) in
    let a : l - (j - 2) ≡ suc (l + 1 - j) = omega (arith, i.most, two) in
    let up : count_at (l - (j - 2)) n ≡ approx_length (count_at (l + 1 - j) n) = ap (λ d. count_at d n) a ∙ after_last approx_length (l + 1 - j) n in
    (omega (arith, i.most, two), rw up (omega (arith, z)))
way-passes s k l n at (Wrong j found) e h q = off q.0 refl

-- ---- the file alone

-- what is said of it, as the code asks: section 0, then the way
pub file_in_turn : (s : List ℕ) (w p : ℕ)
    → say_file s w p ≡ and_then (passes (head_checks s w p)) (λ _. and_then (passes (way_checks (way_in s (head_in s)) (length s))) (λ _. told (level_in s) (count_in s)))
unfolding say_file
file_in_turn s w p =
    let said : Unit {0} → Outcome = λ _. told (level_in s) (count_in s) in
    let m = way_checks (way_in s (head_in s)) (length s) in
    in_turn (head_checks s w p) m tt (said tt) ∙ ap (λ (r : Outcome). and_then (passes (head_checks s w p)) (λ _. r)) (asked m tt said)

-- the detail sections that are whole are some of all
pub file_kept : (s : List ℕ) (w p : ℕ) → passes (head_checks s w p) ≡ Ok tt → passes (way_checks (way_in s (head_in s)) (length s)) ≡ Ok tt
    → whole_details (way_in s (head_in s)) (head_in s).levels ≤ (head_in s).levels
file_kept s w p e q =
    let h = head_in s in
    (way-passes s h.width h.levels h.samples h.body (way_in s h) refl (head-passes s w p (passed (head_checks s w p) tt e)).there (passed (way_checks (way_in s h) (length s)) tt q)).0

-- what its checks leave: section 0, and that the detail sections which are whole can be restored
pub record Restorable (s : List ℕ) (w : ℕ) : Type 0 where
  pub head : Headed s w
  pub some : whole_details (way_in s (head_in s)) (head_in s).levels ≤ (head_in s).levels
  pub deep : whole_details (way_in s (head_in s)) (head_in s).levels ≤ depth_of Cdf53 (count_in s)
  pub short : count_in s ≤ most_samples
  pub held : (head_in s).body + body_size w (whole_details (way_in s (head_in s)) (head_in s).levels) (count_in s) ≤ length s

module _ (s : List ℕ) (w p : ℕ) where
  file-passes : done (say_file s w p) ≡ true → Passing (file_checks s w p)
  unfolding say_file
  file-passes h = passing (file_checks s w p) (told (level_in s) (count_in s)) h

  -- a file that is taken: what is said of it, what is known of it, and that the rest of a list decides
  pub file-says : done (say_file s w p) ≡ true → say_file s w p ≡ told (level_in s) (count_in s)
  unfolding say_file
  file-says h = through (file_checks s w p) (told (level_in s) (count_in s)) (file-passes h)

  restorable : Passing (file_checks s w p) → Restorable s w
  restorable q =
      let qw = both-pass (head_checks s w p) (way_checks (way_in s (head_in s)) (length s)) q in
      let hd = head-passes s w p qw.0 in
      let l = (head_in s).levels in
      let n = (head_in s).samples in
      let m = whole_details (way_in s (head_in s)) l in
      let wy = way-passes s (head_in s).width l n (head_in s).body (way_in s (head_in s)) refl hd.there qw.1 in
      let left : l - (l - m) ≡ m = omega (arith, wy.0) in
      let dp = depth-rest Cdf53 (l - m) l n (omega arith) hd.deep in
      record {
        head = hd;
        some = wy.0;
        deep = omega (arith, left, dp);
        short = omega (arith, count-at-le (l - m) n, hd.short);
        held = omega (arith, ap (λ (j : ℕ). body_size j m (count_in s)) hd.width, wy.1);
      }

  pub file-restorable : done (say_file s w p) ≡ true → Restorable s w
  file-restorable h = restorable (file-passes h)

  -- a sample has bytes
  pub file_some : (t : ℕ × ℕ) → say_file s w p ≡ Ok t → 0 < w
  file_some t h = (width-of w (file-restorable (ap done h)).head.known).some

  pub file-rest : {A : Type 0} (m : List Check) (e : Result A Refusal) → done (say_file s w p) ≡ true → first_refusal (file_checks s w p ++ m) e ≡ first_refusal m e
  file-rest m e h = pass_on (file_checks s w p) m e (file-passes h)

  -- a file that is refused: that is what is said
  pub file-stop : (m : List Check) (e : Outcome) → done (say_file s w p) ≡ false → first_refusal (file_checks s w p ++ m) e ≡ say_file s w p
  unfolding say_file
  file-stop m e h = pick (say_file s w p) refl h
    where
      pick : (r : Outcome) → say_file s w p ≡ r → done r ≡ false → first_refusal (file_checks s w p ++ m) e ≡ r
      pick (Ok v) q h = off h refl
      pick (Err r) q h = stops (file_checks s w p) m (level_in s, count_in s) e q

-- the areas and their room
area-passes : (w o u v : ℕ) → is_width w ≡ true → Passing (area_checks w o u v) → (o ≡ w * (o / w)) × (u ≡ w * (u / w)) × (v ≡ w * (v / w))
area-passes w o u v h q = let r = rw h at q in (whole w o r.0, whole w u r.1.0, whole w v r.1.1.0)

pub whole-areas-pass : (w o u v : ℕ) → WholeAreas w o u v → Passing (area_checks w o u v)
whole-areas-pass w o u v h = pick (is_width w) refl
  where
    pick : (b : Bool) → is_width w ≡ b → Passing (cond b (ragged w o ∷ ragged w u ∷ ragged w v ∷ []) [])
    pick true e = let a = h e in (same (o % w) 0 a.0, (same (u % w) 0 a.1, (same (v % w) 0 a.2, tt)))
    pick false e = tt

-- what is said of room is done or 7, and tells the count
rooms-by : (w c o u v l : ℕ) (P : Outcome → Type 0) → ((have : ℕ) → P (Err (NoRoom have c))) → P (told l c) → P (first_refusal (rooms_for w c o u v) (told l c))
rooms-by w c o u v l P tight full = pick (ltb (o / w) c) (ltb (u / w) c) (ltb (v / w) c)
  where
    pick : (a b d : Bool) → P (cond a (Err (NoRoom (o / w) c)) (cond b (Err (NoRoom (u / w) c)) (cond d (Err (NoRoom (v / w) c)) (told l c))))
    pick true b d = tight (o / w)
    pick false true d = tight (u / w)
    pick false false true = tight (v / w)
    pick false false false = full

pub rooms-say : (w c o u v l : ℕ) → let r = answer_of (first_refusal (rooms_for w c o u v) (told l c)) in (r.number ≡ 0) ⊎ (r.number ≡ 7)
rooms-say w c o u v l = rooms-by w c o u v l (λ r. ((answer_of r).number ≡ 0) ⊎ ((answer_of r).number ≡ 7)) (λ _. inr refl) (inl refl)

pub rooms-count : (w c o u v l : ℕ) → (answer_of (first_refusal (rooms_for w c o u v) (told l c))).second ≡ c
rooms-count w c o u v l = rooms-by w c o u v l (λ r. (answer_of r).second ≡ c) (λ _. refl) refl

-- what opening says, as the code asks: the areas, the file, and the room for what it gives back
pub open_in_turn : (s : List ℕ) (w p o u v : ℕ)
    → say_open s w p o u v ≡ and_then (passes (area_checks w o u v)) (λ _. and_then (say_file s w p) (λ (t : ℕ × ℕ). first_refusal (rooms_for w t.1 o u v) (Ok t)))
unfolding say_open say_file
open_in_turn s w p o u v =
    let file = file_checks s w p in
    let rooms = rooms_for w (count_in s) o u v in
    let t = told (level_in s) (count_in s) in
    let rest : ℕ × ℕ → Outcome = λ t. first_refusal (rooms_for w t.1 o u v) (Ok t) in
    in_turn (area_checks w o u v) (file ++ rooms) tt t
    ∙ ap (λ (r : Outcome). and_then (passes (area_checks w o u v)) (λ _. r)) (joined file rooms t ∙ asked file (level_in s, count_in s) rest)

-- what all checks leave: the levels can be restored, and there is room
pub record Opening (s : List ℕ) (w o u v : ℕ) : Type 0 where
  pub file : Restorable s w
  pub output : w * count_in s ≤ o
  pub first : w * count_in s ≤ u
  pub second : w * count_in s ≤ v

module _ (s : List ℕ) (w p o u v : ℕ) (h : done (say_open s w p o u v) ≡ true) where
  abbrev areas : List Check
  areas = area_checks w o u v

  abbrev file : List Check
  file = file_checks s w p

  abbrev rooms : List Check
  rooms = rooms_for w (count_in s) o u v

  -- all checks pass
  all-pass : Passing (areas ++ (file ++ rooms))
  unfolding say_open
  all-pass = passing (areas ++ (file ++ rooms)) (told (level_in s) (count_in s)) h

  -- so do those of the file, and those of section 0
  pub open-file : Passing (file_checks s w p)
  open-file = (both-pass file rooms (both-pass areas (file ++ rooms) all-pass).1).0

  pub open-head : Passing (head_checks s w p)
  open-head = (both-pass (head_checks s w p) (way_checks (way_in s (head_in s)) (length s)) open-file).0

  pub open-ready : Opening s w o u v
  open-ready =
      let qa = both-pass areas (file ++ rooms) all-pass in
      let qf = both-pass file rooms qa.1 in
      let room = qf.1 in
      let rs = restorable s w p qf.0 in
      let ar = area-passes w o u v rs.head.known qa.0 in
      let lo = mul-le-mul_left w (roomy (o / w) (count_in s) room.0) in
      let lu = mul-le-mul_left w (roomy (u / w) (count_in s) room.1.0) in
      let lv = mul-le-mul_left w (roomy (v / w) (count_in s) room.1.1.0) in
      record { file = rs; output = omega (arith, lo, ar.0); first = omega (arith, lu, ar.1); second = omega (arith, lv, ar.2) }

  -- the file is taken
  pub open-taken : say_file s w p ≡ told (level_in s) (count_in s)
  unfolding say_file
  open-taken = through file (told (level_in s) (count_in s)) open-file

  -- a call that is done says the level and the count, for which there is room
  pub open-says : (say_open s w p o u v ≡ told (level_in s) (count_in s)) × (count_in s ≤ o / w)
  unfolding say_open
  open-says =
      let room = (both-pass file rooms (both-pass areas (file ++ rooms) all-pass).1).1 in
      (through (areas ++ (file ++ rooms)) (told (level_in s) (count_in s)) all-pass, roomy (o / w) (count_in s) room.0)

  -- and gives the file's rate
  pub open-rate : rate_opened s w p o u v ≡ rate_in s
  unfolding rate_opened
  open-rate = rw h

-- what section 0 of a file that opens is read for
pub open_read : (s : List ℕ) (w p o u v : ℕ) (t : ℕ × ℕ) → say_open s w p o u v ≡ Ok t → (common_size ≤ length s) × ((head_in s).body ≤ length s) × (t.0 ≤ (head_in s).levels)
open_read s w p o u v t h =
    let d = ap done h in
    let r = (open-ready s w p o u v d).file in
    (r.head.common, r.head.there, omega (arith, same_told (sym h ∙ (open-says s w p o u v d).0)))

-- a call that says level l and n samples, in the terms of the code that restores them
module _ (s : List ℕ) (w p o u v l n : ℕ) (h : say_open s w p o u v ≡ told l n) where
  ready : Opening s w o u v
  ready = open-ready s w p o u v (ap done h)

  abbrev f : Filter
  f = filter_of w

  abbrev kept : ℕ
  kept = (head_in s).levels - l

  counts : (l ≡ level_in s) × (n ≡ count_in s)
  counts = same_told (sym h ∙ (open-says s w p o u v (ap done h)).0)

  width : width_of f ≡ w
  width = filter-width w ready.file.head.known

  details : kept ≡ whole_details (way_in s (head_in s)) (head_in s).levels
  details = omega (arith, counts, ready.file.some)

  pub open-held : (head_in s).body + body_size (width_of f) kept n ≤ length s
  open-held = rw (details, counts.1, width) ready.file.held

  pub open-size : width_of f * n ≡ w * count_in s
  open-size = rw (width, counts.1)

  pub open-made : restored_at (width_of f) s kept n (head_in s).body ≡ samples_in s
  unfolding samples_in
  open-made = rw (details, counts.1, width, ready.file.head.width)

  -- the levels run, and there is room
  pub room-deep : kept ≤ depth_of (wavelet_of f) n
  room-deep = rw (details, counts.1) (own-depth f (filter-integers w) _ _ ready.file.deep)

  pub room-short : n ≤ most_samples
  room-short = rw counts.1 ready.file.short

  pub room-first : width_of f * n ≤ o
  room-first = omega (arith, open-size, ready.output)

  pub room-second : width_of f * n ≤ u
  room-second = omega (arith, open-size, ready.first)

-- for the code that opens
pub ruleset opened = (open_read, room-deep, room-short, room-first, room-second, open-held, open-size, open-made)

-- a call that is refused gives 0
pub refused-rate : (s : List ℕ) (w p o u v : ℕ) → done (say_open s w p o u v) ≡ false → rate_opened s w p o u v ≡ 0
unfolding rate_opened
refused-rate s w p o u v h = rw h

-- two results that the statement allows are equal, the fronts of the work areas apart
pub open-decides : {s : List ℕ} {w p : ℕ} {o u v : List ℕ} {a b : OpenAnswer} {o₁ u₁ v₁ o₂ u₂ v₂ : List ℕ} → OpenGives s w p o u v a o₁ u₁ v₁ → OpenGives s w p o u v b o₂ u₂ v₂
    → let m = cond (done (say_open s w p (length o) (length u) (length v))) (w * count_in s) 0 in (a ≡ b) × (o₁ ≡ o₂) × (drop m u₁ ≡ drop m u₂) × (drop m v₁ ≡ drop m v₂)
open-decides g h = let c = call-decides g.call h.call in (λ i. record { answer = c.0 i; rate = (g.rate ∙ sym h.rate) i }, c.1, c.2, c.3)
