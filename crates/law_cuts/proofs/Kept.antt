-- The calls, by what they promise: every front of a file that was written opens as `Openings` says; and two writes of one recording are the same bytes. Each of
-- the integer filters.
use mathlib.Core.Bool.{true}
use mathlib.Core.List.{List, ◌++◌}
use mathlib.Core.Path.{◌≡◌, sym, ap, subst, ◌∙◌}
use Prim.Native.Nat.{ℕ, ◌/◌, ◌^◌, ◌≤◌, ◌<◌}
use native.Mathlib.Omega.{arith}
use lib.ListN.{length, take, drop}
use lib.Seq.{take_at, take-take}
use Rattle.base_answers.specs.declared.err.Answer.{Answer}
use Rattle.base_answers.specs.Answers.{done}
use Rattle.base_answers.proofs.Endings.{is-done, left-done}
use Rattle.base_lengths.specs.declared.Wavelet.{Wavelet}
use Rattle.base_lengths.specs.declared.Wavelet.TheVariants.{Cdf53}
use Rattle.base_lengths.specs.Levels.{depth_of, levels_of}
use Rattle.base_lengths.proofs.Depths.{step}
use Rattle.base_samples.specs.Le.{le_at, Bytes}
use Rattle.base_samples.proofs.LeLaws.{le_at-take}
use Rattle.levels_filter.proofs.Integers.{wavelet-is}
use Rattle.levels_filter.specs.declared.filter.Filter.{Filter}
use Rattle.levels_filter.specs.Filters.{width_of, Integers}
use Rattle.file_open.specs.Files.{new_count, new_size, file_of, file_size}
use Rattle.file_open.specs.Opens.{Open}
use Rattle.file_open.specs.Writes.{say_write, Write}
use Rattle.file_open.proofs.Writing.{new-kind, new-size, write-ready}
use Rattle.law_cuts.specs.Sees.{Openings}
use Rattle.law_cuts.proofs.Filed.{Recording, Filed, all-length}
use Rattle.law_cuts.proofs.WrittenHead.{filed, count-read}
use Rattle.law_cuts.proofs.Opened.{openings}

-- samples that were written are a recording
pub recorded : (f : Filter) (l p rate : ℕ) (x : List ℕ) (b u v : ℕ) → Integers f → Bytes x → p < 2 ^ 32 → done (say_write f l rate (length x) b u v) ≡ true
    → Recording f (levels_of l) (length x / width_of f) p x
recorded f l p rate x b u v i bx hp h =
    let n = length x / width_of f in
    let r = (write-ready f l rate (length x) b u v h).ready in
    let deep : levels_of l ≤ depth_of Cdf53 n = subst (λ (y : Wavelet). levels_of l ≤ depth_of y n) (wavelet-is f i) r.deep in
    let st = step 3 (omega arith) 0 n (omega (arith, r.some)) in
    record {
      integers = i;
      bytes = bx;
      size = r.whole;
      least = st.0;
      most = r.short;
      some = r.some;
      deep = deep;
      point = hp;
    }

-- a done write: f, l, p, the rate and x are what it was given
module _ (f : Filter) (l p rate : ℕ) (x : List ℕ) (i : Integers f) (bx : Bytes x) (hp : p < 2 ^ 32) (hr : rate < 2 ^ 32) where
  -- what it wrote is a file of the recording
  pub written : (b u v : List ℕ) (a : Answer) (b' u' v' : List ℕ) → Write f l p rate x b u v a b' u' v' → a.number ≡ 0
      → Filed new_size f (levels_of l) (length x / width_of f) p x (file_of f (levels_of l) p rate x)
  written b u v a b' u' v' w z =
      let d = is-done (say_write f l rate (length x) (length b) (length u) (length v)) a w.answer z in
      subst (λ (y : ℕ). Filed y f (levels_of l) (length x / width_of f) p x (file_of f (levels_of l) p rate x)) (new-size rate (write-ready f l rate (length x) (length b) (length u) (length v) d).rate)
      (filed (recorded f l p rate x (length b) (length u) (length v) i bx hp d) hr)

  -- the file is at the front of the file area
  pub file-in : (b u v : List ℕ) (a : Answer) (b' u' v' : List ℕ) → Write f l p rate x b u v a b' u' v' → a.number ≡ 0
      → take (file_size new_size (width_of f) (levels_of l) (length x / width_of f)) b' ≡ file_of f (levels_of l) p rate x
  file-in b u v a b' u' v' w z =
      let k = width_of f in
      let n = length x / k in
      let s = say_write f l rate (length x) (length b) (length u) (length v) in
      let file = file_of f (levels_of l) p rate x in
      let size = file_size new_size k (levels_of l) n in
      let d : done s ≡ true = is-done s a w.answer z in
      ap (take size) (w.output ∙ left-done s (file ++ drop size b) b d) ∙ take_at file (drop size b) size (all-length (written b u v a b' u' v' w z))

  -- and its first c bytes are the file's
  pub front-in : (b u v : List ℕ) (a : Answer) (b' u' v' : List ℕ) → Write f l p rate x b u v a b' u' v' → a.number ≡ 0
      → (c : ℕ) → c ≤ file_size new_size (width_of f) (levels_of l) (length x / width_of f) → take c b' ≡ take c (file_of f (levels_of l) p rate x)
  front-in b u v a b' u' v' w z c e = let size = file_size new_size (width_of f) (levels_of l) (length x / width_of f) in sym (take-take c size b' e) ∙ ap (take c) (file-in b u v a b' u' v' w z)

  -- "writes only the new kind": there is a rate, and the first four bytes are the new count
  pub writes-new : (b u v : List ℕ) (a : Answer) (b' u' v' : List ℕ) → Write f l p rate x b u v a b' u' v' → a.number ≡ 0 → (0 < rate) × (le_at 4 b' 0 ≡ new_count)
  writes-new b u v a b' u' v' w z =
      let d = is-done (say_write f l rate (length x) (length b) (length u) (length v)) a w.answer z in
      let some = (write-ready f l rate (length x) (length b) (length u) (length v) d).rate in
      let r = recorded f l p rate x (length b) (length u) (length v) i bx hp d in (
        some,
        sym (le_at-take 4 4 b' 0 (omega arith)) ∙ ap (λ (s : List ℕ). le_at 4 s 0) (front-in b u v a b' u' v' w z 4 (omega arith)) ∙ count-read r hr 4 (omega arith) ∙ (new-kind rate some).count,
      )

  -- "two writes of one recording are the same bytes", for one rate, whatever stood in what they were lent
  pub same-file : (b u v : List ℕ) (a : Answer) (b' u' v' : List ℕ) → Write f l p rate x b u v a b' u' v' → a.number ≡ 0
      → (c g h : List ℕ) (e : Answer) (c' g' h' : List ℕ) → Write f l p rate x c g h e c' g' h' → e.number ≡ 0
      → take (file_size new_size (width_of f) (levels_of l) (length x / width_of f)) b' ≡ take (file_size new_size (width_of f) (levels_of l) (length x / width_of f)) c'
  same-file b u v a b' u' v' w z c g h e c' g' h' w' z' = file-in b u v a b' u' v' w z ∙ sym (file-in c g h e c' g' h' w' z')

  -- and every front of it opens as `Openings` says
  pub kept : (b u v : List ℕ) (a : Answer) (b' u' v' : List ℕ) → Write f l p rate x b u v a b' u' v' → a.number ≡ 0
      → Openings new_size f (levels_of l) (length x / width_of f) p x b'
  kept b u v a b' u' v' w z = λ c e o g h y room r o' g' h' q.
      openings (written b u v a b' u' v' w z) c e o g h y room r o' g' h' (subst (λ (s : List ℕ). Open s (width_of f) p o g h r o' g' h') (front-in b u v a b' u' v' w z c e) q)
