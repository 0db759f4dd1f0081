-- The exact case of document 01 about the bytes of the calls: `dwt` and `multi_dwt` of the float 5/3 filter, and `multi_idwt` on what that gave. Over the
-- format, and the two formats at the end.
use mathlib.Core.Bool.{true}
use mathlib.Core.List.{List}
use mathlib.Core.Path.{◌≡◌, sym, subst}
use Prim.Native.Nat.{ℕ, suc, ◌-◌, ◌*◌, ◌/◌, ◌^◌, ◌≤◌}
use native.Mathlib.Omega.{arith}
use lib.Ieee.{Format, binary32, binary64, prec}
use lib.ListN.{length}
use Rattle.base_answers.specs.declared.err.Answer.{Answer}
use Rattle.base_answers.specs.Answers.{told, answer_of, done}
use Rattle.base_lengths.specs.Levels.{depth_of, levels_of}
use Rattle.base_samples.specs.Floats.{decode_floats}
use Rattle.levels_filter.specs.declared.filter.Filter.TheVariants.{Cdf53F32, Cdf53F64}
use Rattle.levels_filter.specs.Filters.{width_of, wavelet_of}
use Rattle.levels_filter.specs.Pyramids.{round_trip}
use Rattle.levels_filter.specs.Calls.{say_multi, Multi, say_dwt, Dwt}
use Rattle.levels_filter.specs.Backward.{MultiBack, Area, LengthsIn}
use Rattle.levels_filter.proofs.Multi.{levels-pos}
use Rattle.levels_filter.proofs.LastLevel.{dwt-ready, dwt-gives}
use Rattle.law_levels.proofs.ThereAndBack.{call-depth, call-approx, call-level, trip-call}
use Rattle.law_exact.specs.Exact.{Are, Inputs, details2}
use Rattle.law_exact.specs.Levels.{filter53, most, numbers_at, times, Exact, sample_count, numbers_in, deepest, all_details, ExactLevel, SameNumbers, ExactBytes}
use Rattle.law_exact.proofs.Bytes.{highs-are, samples-exact, level-exact, trip-same}

-- `dwt` is done with x
module _ (f : Format) (j : ℕ) (x : List ℕ) {a d u v : List ℕ} {r : Answer} {a' d' u' v' : List ℕ} (call : Dwt (filter53 f) j x a d u v r a' d' u' v')
    (is_done : done (say_dwt (filter53 f) j (length x) (length a) (length d) (length u) (length v)) ≡ true) where
  -- where x is the exact case for so many levels or more, both bands are the whole numbers
  dwt-level : (levels : ℕ) → Exact f levels (decode_floats f x) (numbers_in f x) → levels_of j ≤ levels → ExactLevel f (levels_of j) x a' d'
  dwt-level levels e h = let gives = dwt-gives (filter53 f) j x a d u v call is_done in rw (gives.0, gives.1) (level-exact f levels x e (levels_of j) (levels-pos j) h)

  -- which it is for inputs that are whole and small enough, whether or not `multi_dwt` is called
  pub exact-dwt : 4 * levels_of j ≤ prec f → Inputs (most f (levels_of j)) (decode_floats f x) → ExactLevel f (levels_of j) x a' d'
  exact-dwt few inputs =
      let ready = (dwt-ready (filter53 f) j (length x) (length a) (length d) (length u) (length v) is_done).0 in
      dwt-level (levels_of j) (samples-exact f (levels_of j) x ready.deep few inputs) (omega arith)

-- `multi_dwt` is done with inputs that are whole and small enough, and `multi_idwt` is called on what it gave
module _ (f : Format) (l : ℕ) (x : List ℕ) {o u v : List ℕ} {r : Answer} {o' u' v' : List ℕ} (call : Multi (filter53 f) l x o u v r o' u' v')
    (is_done : done (say_multi (filter53 f) l (length x) (length o) (length u) (length v)) ≡ true) {ls p s t : List ℕ} {q : Answer} {p' s' t' : List ℕ}
    (lengths : LengthsIn (levels_of l) (sample_count f x) ls) (output : length p ≡ length x) (first : Area (width_of (filter53 f)) (length x) s) (second : Area (width_of (filter53 f)) (length x) t)
    (back : MultiBack (filter53 f) (deepest f (levels_of l) x o') (all_details f (levels_of l) x o') ls p s t q p' s' t')
  where
    -- it is done, and each of the two gives what the exact case promises
    pub exact-call : 4 * levels_of l ≤ prec f → Inputs (most f (levels_of l)) (decode_floats f x) → (q ≡ answer_of (told 0 0)) × ExactBytes f (levels_of l) x o' p'
    exact-call few inputs = (
      trip.0,
      record {
        levels-are = λ j h m z. dwt-level f j x m z (levels_of l) is_exact h;
        deepest-are = rw (call-approx (filter53 f) l x call is_done) (level-exact f (levels_of l) x is_exact (levels_of l) (levels-pos l) (omega arith)).approximations-are;
        details-are = λ i h.
            subst (λ (s : List ℕ). Are (3 * suc i) (2 ^ prec f) (decode_floats f s) (times 4 (details2 (numbers_at i (numbers_in f x))))) (sym (call-level (filter53 f) l x call is_done i h))
            (highs-are f (levels_of l) x (numbers_in f x) is_exact i h);
        back = subst (SameNumbers f x) (sym trip.1) (trip-same f (levels_of l) x is_exact deep.1);
      },
    )
      where
        deep : (levels_of l ≤ depth_of (wavelet_of (filter53 f)) (sample_count f x)) × (length x ≡ width_of (filter53 f) * sample_count f x)
        deep = call-depth (filter53 f) l x call is_done

        is_exact : Exact f (levels_of l) (decode_floats f x) (numbers_in f x)
        is_exact = samples-exact f (levels_of l) x deep.0 few inputs

        trip : (q ≡ answer_of (told 0 0)) × (p' ≡ round_trip (filter53 f) (levels_of l) x)
        trip = trip-call (filter53 f) l x call is_done lengths output first second back

-- ---- in document 01's numbers

-- f32: up to 6 levels of inputs of size at most 2 ^ (24 - 4 L)
pub exact32-call : (l : ℕ) (x : List ℕ) {o u v : List ℕ} {r : Answer} {o' u' v' : List ℕ} → Multi Cdf53F32 l x o u v r o' u' v'
    → done (say_multi Cdf53F32 l (length x) (length o) (length u) (length v)) ≡ true → {ls p s t : List ℕ} {q : Answer} {p' s' t' : List ℕ}
    → LengthsIn (levels_of l) (length x / 4) ls → length p ≡ length x → Area 4 (length x) s → Area 4 (length x) t
    → MultiBack Cdf53F32 (deepest binary32 (levels_of l) x o') (all_details binary32 (levels_of l) x o') ls p s t q p' s' t'
    → levels_of l ≤ 6 → Inputs (2 ^ (24 - 4 * levels_of l)) (decode_floats binary32 x) → (q ≡ answer_of (told 0 0)) × ExactBytes binary32 (levels_of l) x o' p'
exact32-call l x call is_done lengths output first second back few = exact-call binary32 l x call is_done lengths output first second back (omega arith)

-- f64: up to 13 levels of inputs of size at most 2 ^ (53 - 4 L)
pub exact64-call : (l : ℕ) (x : List ℕ) {o u v : List ℕ} {r : Answer} {o' u' v' : List ℕ} → Multi Cdf53F64 l x o u v r o' u' v'
    → done (say_multi Cdf53F64 l (length x) (length o) (length u) (length v)) ≡ true → {ls p s t : List ℕ} {q : Answer} {p' s' t' : List ℕ}
    → LengthsIn (levels_of l) (length x / 8) ls → length p ≡ length x → Area 8 (length x) s → Area 8 (length x) t
    → MultiBack Cdf53F64 (deepest binary64 (levels_of l) x o') (all_details binary64 (levels_of l) x o') ls p s t q p' s' t'
    → levels_of l ≤ 13 → Inputs (2 ^ (53 - 4 * levels_of l)) (decode_floats binary64 x) → (q ≡ answer_of (told 0 0)) × ExactBytes binary64 (levels_of l) x o' p'
exact64-call l x call is_done lengths output first second back few = exact-call binary64 l x call is_done lengths output first second back (omega arith)
