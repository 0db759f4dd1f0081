-- `lay_level` meets its contract: a count, and the two bands, each in its place. Looks into no filter.
use mathlib.Core.Bool.{Bool}
use mathlib.Core.List.{List, ◌++◌}
use mathlib.Core.Path.{◌≡◌, ap, ap₂, sym, ◌∙◌}
use Prim.Native.Nat.{ℕ, ◌+◌, ◌-◌, ◌*◌, ◌<◌}
use native.Mathlib.Omega.{arith}
use lib.ListN.{length, take, drop}
use lib.Seq.{length-take-le}
use Rattle.base_samples.specs.Le.{le_bytes}
use Rattle.base_lengths.specs.Lengths.{approx_length, details_length}
use Rattle.levels_filter.specs.Filters.{width_of, wavelet_of}
use Rattle.levels_filter.specs.Pyramids.{count_size, laid_size}
use Rattle.levels_filter.proofs.Cuts.{few-levels}
use Rattle.levels_filter.proofs.Lists.{length-end}
use Rattle.levels_filter.proofs.Rooms.{ready-room, level-at}
use Rattle.levels_forward.proofs.Laying.{count-laid, size-more}
use Rattle.levels_forward.proofs.bands.lay_level.Goals as goal

-- the bytes from the place r of the count on
after : (b : Bool) (k l n r o : ℕ) → 0 < l → o ≡ laid_size (count_size b) k l n → r ≡ laid_size (count_size b) k (l - 1) (approx_length n) → o ≡ r + count_size b + k * details_length n
after b k l n r o p s e = omega (arith, s, e, size-more b k l n p)

pub laid_size-at-requires : goal.laid_size-at-requires
laid_size-at-requires c =
    let a = c.args in
    let r = c.requires.ready in
    (omega (arith, few-levels (wavelet_of a.f) a.levels a.n r.deep r.short), omega (arith, c.approx_length.ensures, r.short))

-- the two bands that are lent have their lengths
pub forward-requires : goal.forward-requires
forward-requires c =
    let a = c.args in
    let cu = c.cut_of-cut in
    let pc = c.put_count-start in
    let r = c.requires.ready in
    let at = c.laid_size-at.result in
    let place = rw c.approx_length.ensures at c.laid_size-at.ensures in
    let size = after a.counted (width_of a.f) a.levels a.n at (length a.out.now) r.some c.requires.out_len place in
    level-at a.f (ready-room a.f r) r.some r.whole (
      length-take-le cu.result a.to.now (omega (arith, cu.ensures, r)) ∙ cu.ensures.place,
      length-end pc.result pc.new.out ∙ omega (arith, pc.auto.out, size, pc.ensures.0),
    )

pub returns : goal.returns
returns c =
    let a = c.args in
    let cu = c.cut_of-cut in
    let pc = c.put_count-start in
    let fw = c.forward in
    let at = c.laid_size-at.result in
    let place = rw c.approx_length.ensures at c.laid_size-at.ensures in
    let size = after a.counted (width_of a.f) a.levels a.n at (length a.out.now) c.requires.ready.some c.requires.out_len place in
    record {
      place = place;
      approx = ap₂ (λ (l : List ℕ) (j : ℕ). l ++ drop j a.to.now) fw.ensures.0 cu.ensures.place;
      details =
          count-laid (count_size a.counted) a.out.now pc.new.out fw.new.details at (details_length a.n) pc.result pc.ensures.0 (omega (arith, size))
          (rw c.details_length.ensures at pc.ensures.1)
          ∙ ap (λ (y : List ℕ). take at a.out.now ++ (le_bytes (count_size a.counted) (details_length a.n) ++ y)) fw.ensures.1;
      long = ap length (sym fw.ensures.0) ∙ fw.auto.approx ∙ length-take-le cu.result a.to.now (omega (arith, cu.ensures, c.requires.ready)) ∙ cu.ensures.place;
    }
