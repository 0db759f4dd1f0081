-- Opening gives T.800's levels: the bytes of the low-pass coefficients of the level that the whole sections reach, as they are kept.
use mathlib.Core.List.{List, ◌++◌}
use mathlib.Core.Path.{◌≡◌, ap, ◌∙◌}
use Prim.Native.Nat.{ℕ, ◌*◌, ◌^◌, ◌≤◌, ◌<◌}
use native.Mathlib.Omega.{arith}
use lib.ListN.{length, take, drop}
use Rattle.base_answers.specs.declared.err.Answer.{Answer}
use Rattle.base_answers.specs.Answers.{say}
use Rattle.base_lengths.specs.declared.Wavelet.TheVariants.{Cdf53}
use Rattle.base_lengths.specs.Lengths.{most_samples}
use Rattle.base_lengths.specs.Levels.{count_at, depth_of}
use Rattle.base_samples.specs.Le.{Bytes}
use Rattle.base_samples.specs.Integers.{wrap, decode, encode}
use Rattle.law_levels.specs.T800Levels.{lows_at}
use Rattle.levels_filter.proofs.Integers.{own-depth}
use Rattle.levels_filter.specs.declared.filter.Filter.{Filter}
use Rattle.levels_filter.specs.Filters.{width_of, wavelet_of, Integers}
use Rattle.levels_filter.specs.Backward.{Area}
use Rattle.law_levels.proofs.T800Levels.{level-t800}
use Rattle.file_open.specs.Files.{new_size, file_size}
use Rattle.file_open.specs.Opens.{Open}
use Rattle.file_open.specs.Writes.{Write}
use Rattle.law_cuts.specs.Sees.{needed, Sampled, Roomy, level_left, Opened}
use Rattle.law_cuts.proofs.Demand3.{demand3-calls}

-- what an opening gives, where section 1 is whole
pub opened-t800 : (f : Filter) → Integers f → (z L n c : ℕ) (x o : List ℕ) (r : Answer) (o' : List ℕ) → L ≤ depth_of Cdf53 n → Bytes x → length x ≡ width_of f * n
    → Opened z f L n c x o r o' → needed z (width_of f) L n ≤ c
    → o' ≡ encode (width_of f) (lows_at (wrap (width_of f)) (level_left z (width_of f) L n c) (decode (width_of f) x)) ++ drop (width_of f * count_at (level_left z (width_of f) L n c) n) o
opened-t800 f i z L n c x o r o' deep bx size q e =
    let k = width_of f in
    let j = level_left z k L n c in
    let deep' : L ≤ depth_of (wavelet_of f) n = own-depth f i L n deep in
    (q.level e).1 ∙ ap (λ (s : List ℕ). s ++ drop (k * count_at j n) o) (level-t800 f i x n size j bx (omega arith))

-- both calls
pub demand3-t800 : (f : Filter) → Integers f → (L n p rate : ℕ) → 1 ≤ L → L ≤ depth_of Cdf53 n → n ≤ most_samples → p < 2 ^ 32 → 1 ≤ rate → rate < 2 ^ 32 → (x : List ℕ) → Bytes x → length x ≡ width_of f * n
    → (b u v : List ℕ) → file_size new_size (width_of f) L n ≤ length b → Area (width_of f) (length x) u → Area (width_of f) (length x) v
    → (a : Answer) (b' u' v' : List ℕ) → Write f L p rate x b u v a b' u' v'
    → (c : ℕ) → needed new_size (width_of f) L n ≤ c → c ≤ file_size new_size (width_of f) L n
    → (o g h : List ℕ) → Sampled (width_of f) (length o) (length g) (length h) → Roomy (width_of f) (count_at (level_left new_size (width_of f) L n c) n) (length o) (length g) (length h)
    → (r : Answer) (o' g' h' : List ℕ) → Open (take c b') (width_of f) p o g h r o' g' h'
    → (r ≡ say 0 (level_left new_size (width_of f) L n c) (count_at (level_left new_size (width_of f) L n c) n))
    × (o' ≡ encode (width_of f) (lows_at (wrap (width_of f)) (level_left new_size (width_of f) L n c) (decode (width_of f) x)) ++ drop (width_of f * count_at (level_left new_size (width_of f) L n c) n) o)
demand3-t800 f i L n p rate some deep most hp hy hr x bx size b u v file first second a b' u' v' w c e d o g h y room r o' g' h' q =
    let t = (demand3-calls f i L n p rate some deep most hp hy hr x bx size b u v file first second a b' u' v' w).1 c d o g h y (λ z. room) r o' g' h' q in
    ((t.level e).0, opened-t800 f i new_size L n c x o r o' deep bx size t e)
