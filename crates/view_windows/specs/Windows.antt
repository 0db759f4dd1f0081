-- Band windows, from document 01: "a stretch of the approximations or of the details, whichever band was asked for, by start and count".
-- Start and count are in samples of k bytes, the lengths a and d of the two bands in bytes.
use Rattle.std.specs.Prelude.{cond, List, [], ◌∷◌, ℕ, ◌+◌, ◌*◌, ◌/◌, ltb, eqb, length, take, drop}
use Rattle.std.specs.Borrow.{Bor}
use Rattle.base_answers.specs.declared.err.Refusal.TheVariants.{NoSuchPlace}
use Rattle.base_answers.specs.Answers.{Outcome, told, done}
use Rattle.base_answers.specs.Checks.{Check, first_refusal, ragged}
use Rattle.view_windows.specs.declared.window.SampleWidth.{SampleWidth}
use Rattle.view_windows.specs.declared.window.SampleWidth.TheVariants.{One, Two, Four, Eight}

-- how many bytes a sample has: integers of 8, 16 and 32 bits, floats of 32 and 64
abbrev pub bytes_each : SampleWidth → ℕ
bytes_each One = 1
bytes_each Two = 2
bytes_each Four = 4
bytes_each Eight = 8

-- "whichever band was asked for": 0 is the approximations, any other number the details
abbrev pub band_of : {A : Type 0} → ℕ → A → A → A
band_of band a d = cond (eqb band 0) a d

-- "a count of 0, or one that runs past the end, is 13 (start, band length)", of m samples
abbrev pub stretch_checks : ℕ → ℕ → ℕ → List Check
stretch_checks m start count = (eqb count 0, NoSuchPlace start m) ∷ (ltb m (start + count), NoSuchPlace start m) ∷ []

-- the same by byte lengths, after "this 9 comes before all else (.. approximations before details ..)"; done: place and length, in bytes
unfoldable pub say_window : ℕ → ℕ → ℕ → ℕ → ℕ → ℕ → Outcome
say_window k a d band start count =
    first_refusal (ragged k a ∷ ragged k d ∷ stretch_checks (band_of band a d / k) start count) (told (k * start) (k * count))

-- the stretch of the band; "when refused, .. an empty stretch"
unfoldable pub window_in : ℕ → List ℕ → List ℕ → ℕ → ℕ → ℕ → List ℕ
window_in k a d band start count =
    cond (done (say_window k (length a) (length d) band start count)) (take (k * count) (drop (k * start) (band_of band a d))) []

-- "a stretch of the approximations or of the details" themselves: the block and the offset where it lies are those of the band's own bytes, k * start on. An empty one lies at the band's start
unfoldable pub window_at : ℕ → Bor (List ℕ) → Bor (List ℕ) → ℕ → ℕ → ℕ → ℕ × ℕ
window_at k a d band start count =
    let s = band_of band a d in
    (s.ref_ptr.0, s.ref_ptr.1 + cond (done (say_window k (length a.now) (length d.now) band start count)) (k * start) 0)
