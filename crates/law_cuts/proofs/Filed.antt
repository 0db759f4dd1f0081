-- A file of a recording: a section 0 of z bytes that says so, and the sections of its levels. What the laws of a file that was cut ask of section 0 is here;
-- `WrittenHead` has that a file of either kind is such a one.
use mathlib.Core.List.{List, [], ◌++◌, append-nil}
use mathlib.Core.Path.{◌≡◌, sym, ap, ◌∙◌}
use Prim.Native.Nat.{ℕ, ◌+◌, ◌-◌, ◌*◌, ◌^◌, ◌≤◌, ◌<◌}
use native.Mathlib.Omega.{arith}
use lib.ListN.{length, take}
use lib.Seq.{length-take-le, take-append-add}
use Rattle.std.specs.Prelude.{Err}
use Rattle.base_answers.specs.Answers.{Outcome}
use Rattle.base_answers.specs.declared.err.Refusal.TheVariants.{CutShort}
use Rattle.base_answers.specs.Checks.{Check, first_refusal}
use Rattle.base_answers.proofs.Passed.{Passing}
use Rattle.base_lengths.specs.declared.Wavelet.TheVariants.{Cdf53}
use Rattle.base_lengths.specs.Lengths.{most_samples}
use Rattle.base_lengths.specs.Levels.{depth_of}
use Rattle.base_samples.specs.Le.{Bytes}
use Rattle.levels_filter.specs.declared.filter.Filter.{Filter}
use Rattle.levels_filter.specs.Filters.{width_of, Integers}
use Rattle.file_open.specs.Files.{body_of, file_size}
use Rattle.file_open.specs.Opens.{head_in, head_checks}
use Rattle.law_cuts.proofs.Sized.{file-length}

-- a recording that can be written: x are the bytes of n samples of an integer filter f, for l levels and for point p
pub record Recording (f : Filter) (l n p : ℕ) (x : List ℕ) : Type 0 where
  pub integers : Integers f
  pub bytes : Bytes x
  pub size : length x ≡ width_of f * n
  pub least : 3 ≤ n
  pub most : n ≤ most_samples
  pub some : 1 ≤ l
  pub deep : l ≤ depth_of Cdf53 n
  pub point : p < 2 ^ 32

-- s is a file of a recording
pub record Filed (z : ℕ) (f : Filter) (l n p : ℕ) (x s : List ℕ) : Type 0 where
  pub recording : Recording f l n p x
  pub front : List ℕ
  pub long : length front ≡ z
  pub parts : s ≡ front ++ body_of f l n x
  -- cut after section 0, it still says what was recorded, and the checks of section 0 pass
  pub head : (b : ℕ) → z ≤ b → head_in (take b s) ≡ record { width = width_of f; levels = l; samples = n; point = p; body = z }
  pub passes : (b : ℕ) → z ≤ b → b ≤ file_size z (width_of f) l n → Passing (head_checks (take b s) (width_of f) p)
  -- cut in section 0 it is 10, whatever else is checked
  pub early : (b : ℕ) → b < z → (m : List Check) (e : Outcome) → first_refusal (head_checks (take b s) (width_of f) p ++ m) e ≡ Err (CutShort b)

module _ {z : ℕ} {f : Filter} {l n p : ℕ} {x s : List ℕ} (d : Filed z f l n p x s) where
  -- what is left of a file that was cut after section 0: section 0, and of the rest so many bytes less
  pub cut_parts : (b : ℕ) → z ≤ b → take b s ≡ d.front ++ take (b - z) (body_of f l n x ++ [])
  cut_parts b c =
      let front = d.front in
      let body = body_of f l n x in
      let q : b ≡ length front + (b - z) = omega (arith, d.long) in
      ap (take b) d.parts
      ∙ ap (λ (i : ℕ). take i (front ++ body)) q
      ∙ take-append-add front body (b - z)
      ∙ ap (λ (t : List ℕ). front ++ take (b - z) t) (sym (append-nil body))

  -- how long it is, and how much is left of it
  pub all-length : length s ≡ file_size z (width_of f) l n
  all-length = file-length f l n z x d.front s d.recording.size d.long d.parts

  pub cut-length : (b : ℕ) → b ≤ file_size z (width_of f) l n → length (take b s) ≡ b
  cut-length b c = length-take-le b s (omega (arith, all-length))
