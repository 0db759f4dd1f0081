-- The state between two pieces of a recording, from C-15: what is kept of the samples so far, which states are possible, what a state stands for, and the coefficients that a piece then fixes and the end writes. Over k bytes a sample.
use Rattle.std.specs.Prelude.{Bool, cond, List, ◌++◌, ℕ, ◌+◌, ◌-◌, ◌*◌, ◌/◌, ◌^◌, ◌≤◌, ◌<◌, ltb, eqb, ◌+ℤ◌, length, take}
use Rattle.std.proofs.Math.Seq.{slice}
use Rattle.base_lengths.specs.Lengths.{most_samples}
use Rattle.base_samples.specs.Words.{tabulate, word_at, bytes_of}
use Rattle.base_samples.specs.Integers.{val, residue}
use Rattle.filter_cdf53i.specs.Lift.{floor_div}
use Rattle.filter_cdf53i.specs.Bands.{high}
use Rattle.stream_pieces.specs.declared.recorder.Recorder.{Recorder}

-- "after t samples, t at least 1, floor((t-1)/2) of each band have been written in total, and none at t = 0" (0 - 1 is 0 here)
abbrev pub fixed : ℕ → ℕ
fixed t = (t - 1) / 2

-- how many of the t samples wait for the next: none, an even one, or an even one and the odd one after it
abbrev pub waiting : ℕ → ℕ
waiting t = t - 2 * fixed t

-- what the samples in x leave: how many they are, those that wait, two at most, and the last detail that is written. Past its end a list reads as 0
unfoldable pub state_of : ℕ → List ℕ → Recorder
state_of k x =
    let t = length x / k in
    let m = fixed t in
    record {
      total = t;
      even = word_at k x (2 * m);
      odd = word_at k x (2 * m + 1);
      detail = word_at k (take (k * m) (high k x)) (m - 1);
    }

-- ---- which states are possible

-- what a kept number is below: a word of k bytes where one is kept, and 0 alone where none is
abbrev pub bound : ℕ → Bool → ℕ
bound k kept = cond kept (256 ^ k) 1

-- a state whose numbers fit the samples that it counts: what `could_be` tests of the 16 bytes, crate stream_calls, StateBytes.antt
pub record Possible (k : ℕ) (s : Recorder) : Type 0 where
  pub few : s.total ≤ most_samples
  pub even : s.even < bound k (ltb 0 (waiting s.total))
  pub odd : s.odd < bound k (ltb 1 (waiting s.total))
  pub detail : s.detail < bound k (ltb 0 (fixed s.total))

-- ---- what a state stands for

-- sample j of a recording that leaves the state s, where s is possible: zeros, then the odd sample that has the kept detail between a 0 and the even one that waits, then what waits
unfoldable pub stand_word : ℕ → Recorder → ℕ → ℕ
stand_word k s j =
    let m = fixed s.total in
    let q = residue (256 ^ k) (val (256 ^ k) s.detail +ℤ floor_div (val (256 ^ k) 0 +ℤ val (256 ^ k) s.even) 2) in
    cond (eqb (j + 1) (2 * m)) q (cond (eqb j (2 * m)) s.even (cond (eqb j (2 * m + 1)) s.odd 0))

-- that recording. Whichever one was sent, the coefficients from here on are the same: crate law_stream, Onward.antt
unfoldable pub stand_in : ℕ → Recorder → List ℕ
stand_in k s = bytes_of k (tabulate s.total (stand_word k s))

-- ---- the coefficients that come

-- coefficients i to j - 1 of a band
abbrev pub between : ℕ → ℕ → ℕ → List ℕ → List ℕ
between k i j band = slice (k * i) (k * j) band

-- the coefficients of a band that the piece y fixes: `band` is low or high
abbrev pub fixed_by : (ℕ → List ℕ → List ℕ) → ℕ → Recorder → List ℕ → List ℕ
fixed_by band k s y = between k (fixed s.total) (fixed (s.total + length y / k)) (band k (stand_in k s ++ y))

-- what the end writes of a band: its coefficients that are not written yet
abbrev pub rest_of : (ℕ → List ℕ → List ℕ) → (ℕ → ℕ) → ℕ → Recorder → List ℕ
rest_of band count k s = between k (fixed s.total) (count s.total) (band k (stand_in k s))
