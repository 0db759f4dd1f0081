-- "Wanted is the bytes that would complete the part being read": what a cut's reason becomes when so many bytes more are there, whatever they are.
use Rattle.std.specs.Prelude.{Bool, cond, List, ◌⊎◌, ◌≡◌, ℕ, zero, suc, ◌+◌, ◌-◌, ◌≤◌, ◌<◌, eqb, length}
use Rattle.base_samples.specs.Le.{le_at}
use Rattle.file_open.specs.declared.head.Head.{Head}
use Rattle.file_open.specs.Files.{is_count}
use Rattle.file_open.specs.Opens.{count_of}
use Rattle.file_why.specs.declared.Reason.{Reason}
use Rattle.file_why.specs.Reasons.{because, nothing, end_of, place_of, wanted_of}
use Rattle.file_why.specs.Laws.{OfField}

-- r is a cut: one that is refused, or one that is accepted
abbrev pub Cut : Reason → Type 0
Cut r = (r.number ≡ 10) ⊎ ((r.number ≡ 0) × (1 ≤ r.section))

-- whether the count of section j is one that it can have, in a file t whose section 0 says h
abbrev pub right_count : Head → List ℕ → ℕ → Bool
right_count h t zero = is_count (le_at 4 t 0)
right_count h t (suc j) = eqb (le_at 4 t (place_of h (suc j))) (count_of h (suc j))

-- the reason m of a file t that ends where its section j does: the next count is missing or, behind the last section, the file is whole. Once section 0 is there, one of its
-- fields may be refused
abbrev pub Ends : Head → List ℕ → ℕ → Reason → Type 0
Ends h t zero m = (m ≡ because 10 1 (length t) 4 0) ⊎ OfField t m
Ends h t (suc j) m = m ≡ cond (eqb (suc j) (h.levels + 1)) nothing (because 0 (suc j + 1) (length t) 4 0)

-- r is the reason of a cut, and m that of the file t, which has the wanted bytes more and whose section 0 says h
pub record Completed (h : Head) (t : List ℕ) (r m : Reason) : Type 0 where
  -- a count that was broken is whole: where it is right, the bytes behind it are missing; else it is 9
  pub count : r.place < place_of h r.section + 4
      → (length t ≡ place_of h r.section + 4)
      × (m
      ≡ cond (right_count h t r.section) (because r.number r.section (length t) (end_of h r.section - length t) 0)
      (because 9 r.section (place_of h r.section) (wanted_of h r.section) (le_at 4 t (place_of h r.section))))
  -- else the section is whole
  pub section : place_of h r.section + 4 ≤ r.place → (length t ≡ end_of h r.section) × Ends h t r.section m
