-- Looking a section up: what its checks leave, and that the part lies in the file.
use mathlib.Core.Bool.{true}
use mathlib.Core.List.{List, ◌++◌}
use mathlib.Core.Path.{◌≡◌, refl, sym, ap, ◌∙◌}
use Prim.Native.Nat.{ℕ, ◌+◌, ◌-◌, ◌≤◌}
use native.Mathlib.Nat.{add_comm, mul-le-mul_left}
use native.Mathlib.Omega.{arith}
use lib.ListN.{length, take, drop}
use denote.Ref.{Bor}
use Rattle.base_answers.specs.Answers.{Outcome, told, done}
use Rattle.base_answers.specs.Checks.{Check, first_refusal, passes}
use Rattle.base_answers.proofs.Tells.{same_told}
use Rattle.base_answers.proofs.Passed.{off, Passing, passing, through, both-pass, passed, in_turn, and_then}
use Rattle.file_open.specs.declared.head.Head.{Head}
use Rattle.file_open.specs.declared.walk.Way.{Way}
use Rattle.file_open.specs.declared.walk.Way.TheVariants.{Went, Short, Wrong}
use Rattle.file_open.specs.Opens.{head_in, head_checks, samples_to, way_to, section_checks, number_checks, length_of, start_of, end_by, say_section, section_in, section_at}
use Rattle.file_open.proofs.Ways.{last-most, walk-size}
use Rattle.file_open.proofs.Opening.{head-passes}

-- a way that went through section j ends behind its bytes, in the file
pub ends : (s : List ℕ) (h : Head) (j q : ℕ) → h.body ≤ length s → way_to s h j ≡ Went q → (length_of h j ≤ q) × (q ≤ length s)
ends s h j q b e =
    let n = samples_to h j in
    let z = walk-size (j - 1) s h.width n h.body q b e in
    let m = mul-le-mul_left h.width (last-most (j - 1) n) in
    (omega (arith, z.0, m), z.1)

-- what the lookup says where it is done, and that the part lies in the file
went : (s : List ℕ) (h : Head) (j : ℕ) (v : Way) → way_to s h j ≡ v → h.body ≤ length s → Passing (section_checks v (length s)) → end_by v - length_of h j + length_of h j ≤ length s
went s h j (Went q) e b r = let z = ends s h j q b e in omega (arith, z)
went s h j (Short i) e b r = off r.0 refl
went s h j (Wrong i found) e b r = off r.0 refl

module _ (s : List ℕ) (w p j : ℕ) where
  abbrev start : ℕ
  start = start_of s (head_in s) j

  abbrev size : ℕ
  size = length_of (head_in s) j

  abbrev number : List Check
  number = number_checks j (head_in s).levels

  abbrev ways : List Check
  ways = section_checks (way_to s (head_in s) j) (length s)

  -- what the lookup says, as the code asks: section 0, the number, then the way
  pub section_in_turn : say_section s w p j ≡ and_then (passes (head_checks s w p)) (λ _. and_then (passes number) (λ _. first_refusal ways (told start size)))
  unfolding say_section
  section_in_turn =
      in_turn (head_checks s w p) (number ++ ways) tt (told start size)
      ∙ ap (λ (r : Outcome). and_then (passes (head_checks s w p)) (λ _. r)) (in_turn number ways tt (told start size))

  -- where it is done it tells the part's place and length, and the part lies in the file
  pub section_tells : (a n : ℕ) → say_section s w p j ≡ told a n → (a ≡ start) × (n ≡ size) × (a + n ≤ length s)
  unfolding say_section
  section_tells a n e =
      let all = head_checks s w p ++ (number ++ ways) in
      let q = passed all (start, size) e in
      let qh = both-pass (head_checks s w p) (number ++ ways) q in
      let within = went s (head_in s) j (way_to s (head_in s) j) refl (head-passes s w p qh.0).there (both-pass number ways qh.1).1 in
      let same = same_told (sym e ∙ through all (told start size) q) in
      (same.0, same.1, omega arith)

  pub section-is : done (say_section s w p j) ≡ true → (say_section s w p j ≡ told start size) × (start + size ≤ length s)
  unfolding say_section
  section-is h =
      let all = head_checks s w p ++ (number ++ ways) in
      let q = passing all (told start size) h in
      let qh = both-pass (head_checks s w p) (number ++ ways) q in
      (through all (told start size) q, went s (head_in s) j (way_to s (head_in s) j) refl (head-passes s w p qh.0).there (both-pass number ways qh.1).1)

  -- the part, by its place and length
  pub section_part : (a n : ℕ) → say_section s w p j ≡ told a n → take (a + n - a) (drop a s) ≡ section_in s w p j
  unfolding section_in
  section_part a n h =
      let t = section_tells a n h in
      let e : a + n - a ≡ size = omega arith in
      rw h (ap (λ (i : ℕ). take i (drop a s)) e ∙ ap (λ (i : ℕ). take size (drop i s)) t.0)

-- and where it lies, in bytes that stand at r
pub section_stands : (s : Bor (List ℕ)) (w p j a n : ℕ) → say_section s.now w p j ≡ told a n → (s.ref_ptr.0, a + s.ref_ptr.1) ≡ section_at s w p j
unfolding section_at
section_stands s w p j a n h = rw h (ap (λ (i : ℕ). (s.ref_ptr.0, i)) (add_comm a s.ref_ptr.1 ∙ ap (λ (i : ℕ). s.ref_ptr.1 + i) (section_tells s.now w p j a n h).0))
