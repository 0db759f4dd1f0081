-- Writing on lengths that fit is done: no check is left that levels within the depth and areas with room could fail.
use mathlib.Core.List.{◌∷◌}
use mathlib.Core.Path.{◌≡◌}
use Prim.Native.Nat.{ℕ, ◌*◌, ◌/◌, ◌≤◌}
use native.Mathlib.Omega.{arith}
use native.Mathlib.Nat.{le_of_mul-le-mul_left}
use borrow.Author.Tests.{le-ltb, ne_eqb}
use lib.Dec.{eqb}
use Rattle.base_answers.specs.declared.err.Refusal.TheVariants.{NoRate}
use Rattle.base_answers.specs.Answers.{told}
use Rattle.base_answers.specs.Checks.{ragged}
use Rattle.base_answers.proofs.Passed.{through}
use Rattle.base_lengths.specs.Lengths.{most_samples}
use Rattle.base_lengths.specs.Levels.{depth_of, levels_of}
use Rattle.base_lengths.proofs.OneLevel.{whole-passes, count-is}
use Rattle.levels_filter.specs.declared.filter.Filter.{Filter}
use Rattle.levels_filter.specs.Filters.{width_of, wavelet_of}
use Rattle.levels_filter.specs.Calls.{Ready}
use Rattle.levels_filter.proofs.Cuts.{width-pos}
use Rattle.file_open.specs.Files.{new_size, file_size}
use Rattle.file_open.specs.Writes.{write_checks, say_write}

-- n samples that have the levels, a rate, a file area of b bytes with room for the file, and work areas of p and q samples
pub write-fits : (f : Filter) (l n rate p q x b u v : ℕ) → Ready f (levels_of l) n x u v → file_size new_size (width_of f) (levels_of l) n ≤ b → 1 ≤ rate → u ≡ width_of f * p → v ≡ width_of f * q
    → say_write f l rate x b u v ≡ told 0 0
unfolding say_write
write-fits f l n rate p q x b u v r room some eu ev =
    let k = width_of f in
    let kp = width-pos f in
    let up : n ≤ p = le_of_mul-le-mul_left (rw eu at r.first) kp in
    let vp : n ≤ q = le_of_mul-le-mul_left (rw ev at r.second) kp in
    through (ragged k x ∷ ragged k u ∷ ragged k v ∷ (eqb rate 0, NoRate) ∷ write_checks f l (x / k) b (u / k) (v / k)) (told 0 0)
    (rw (count-is k n x kp r.whole, count-is k p u kp eu, count-is k q v kp ev) (
      whole-passes k n x r.whole,
      (
        whole-passes k p u eu,
        (
          whole-passes k q v ev,
          (
            ne_eqb rate 0 (λ z. omega arith),
            (
              le-ltb most_samples n r.short,
              (
                le-ltb (depth_of (wavelet_of f) n) (levels_of l) r.deep,
                (le-ltb b (file_size new_size k (levels_of l) n) room, (le-ltb p n up, (le-ltb q n vp, tt))),
              ),
            ),
          ),
        ),
      ),
    ))
