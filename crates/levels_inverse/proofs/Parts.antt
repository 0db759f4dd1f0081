-- The checks of `multi_idwt` in the parts that `?` asks one after the other.
use mathlib.Core.List.{List, [], ◌∷◌, ◌++◌}
use mathlib.Core.Path.{◌≡◌, ap, ◌∙◌}
use Prim.Native.Nat.{ℕ, ◌+◌, ◌/◌}
use lib.ListN.{length}
use Rattle.std.specs.Prelude.{Result, Ok}
use Rattle.base_answers.specs.declared.err.Refusal.{Refusal}
use Rattle.base_answers.specs.Answers.{Outcome, told}
use Rattle.base_answers.specs.Checks.{passes}
use Rattle.base_answers.proofs.Passed.{and_then, asked, in_turn}
use Rattle.base_samples.specs.Words.{words_of}
use Rattle.base_samples.proofs.Words.{length-words}
use Rattle.levels_filter.specs.declared.filter.Filter.{Filter}
use Rattle.levels_filter.specs.Filters.{width_of, wavelet_of}
use Rattle.levels_filter.specs.Calls.{room_checks}
use Rattle.levels_filter.specs.Backward.{size_checks, sum_check, band_checks, whole_checks, back_checks, say_back}

-- by samples: the limits, the sum, the levels, the room
pub back_parts : (f : Filter) (a d : ℕ) (ls : List ℕ) (n u v : ℕ)
    → passes (back_checks f a d (words_of 4 ls) n u v)
    ≡ and_then (passes (size_checks a d (length ls / 4) n))
    (λ _. and_then (passes (sum_check d (words_of 4 ls) ∷ [])) (λ _. and_then (passes (band_checks (wavelet_of f) a (words_of 4 ls))) (λ _. passes (room_checks (a + d) n u v))))
back_parts f a d ls n u v =
    let ms = words_of 4 ls in
    let bands = band_checks (wavelet_of f) a ms in
    let room = room_checks (a + d) n u v in
    let ok : Result (Unit {0}) Refusal = Ok tt in
    in_turn (size_checks a d (length ms) n) (sum_check d ms ∷ (bands ++ room)) tt ok
    ∙ ap (λ (r : Result (Unit {0}) Refusal). and_then (passes (size_checks a d (length ms) n)) (λ _. r))
    (in_turn (sum_check d ms ∷ []) (bands ++ room) tt ok ∙ ap (λ (r : Result (Unit {0}) Refusal). and_then (passes (sum_check d ms ∷ [])) (λ _. r)) (in_turn bands room tt ok))
    ∙ ap (λ (i : ℕ). and_then (passes (size_checks a d i n)) (λ _. and_then (passes (sum_check d ms ∷ [])) (λ _. and_then (passes bands) (λ _. passes room)))) (length-words 4 ls)

-- by byte lengths
pub said_parts : (f : Filter) (a d : ℕ) (ls : List ℕ) (n u v : ℕ)
    → let k = width_of f in
    say_back f a d ls n u v
    ≡ and_then (passes (whole_checks k a d (length ls) n u v)) (λ _. and_then (passes (back_checks f (a / k) (d / k) (words_of 4 ls) (n / k) (u / k) (v / k))) (λ _. told 0 0))
unfolding say_back
said_parts f a d ls n u v =
    let k = width_of f in
    let m = back_checks f (a / k) (d / k) (words_of 4 ls) (n / k) (u / k) (v / k) in
    in_turn (whole_checks k a d (length ls) n u v) m tt (told 0 0) ∙ ap (λ (r : Outcome). and_then (passes (whole_checks k a d (length ls) n u v)) (λ _. r)) (asked m tt (λ _. told 0 0))
