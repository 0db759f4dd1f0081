-- The levels back, from the deepest. Looks into no filter.
use mathlib.Core.Path.{◌≡◌, refl, sym, ap, ◌∙◌}
use mathlib.Core.List.{List, [], ◌∷◌, ◌++◌, append-nil}
use Prim.Native.Nat.{ℕ, ◌+◌, ◌*◌, ◌-◌, ◌≤◌}
use native.Mathlib.Omega.{arith}
use lib.ListN.{length, take, drop, drop_of_length-le}
use lib.Seq.{take_all, take_at}
use Rattle.base_samples.specs.Le.{le_at}
use Rattle.base_samples.specs.Words.{words_of}
use Rattle.levels_filter.specs.declared.filter.Filter.{Filter}
use Rattle.levels_filter.specs.Filters.{width_of, back_of}
use Rattle.levels_filter.specs.Pyramids.{samples_of}
use Rattle.levels_filter.specs.Backward.{Rising}
use Rattle.levels_filter.proofs.Lists.{put_front, end_is, length-end}
use Rattle.levels_filter.proofs.LevelsBack.{rise-level, rise-room, rise-next, rise-last, samples-next, samples-last}
use Rattle.levels_inverse.proofs.Lengths.{first_length, no_length}
use Rattle.levels_inverse.proofs.back.+up.Goals as goal

-- the first of the lengths, and the rest as it is passed on
split : (ls : List ℕ) (m : ℕ) → 4 ≤ length ls → m ≡ le_at 4 ls 0 → words_of 4 ls ≡ m ∷ words_of 4 (take (length ls - 4) (drop 4 ls))
split ls m h e = first_length ls h ∙ ap (λ (i : ℕ). i ∷ words_of 4 (drop 4 ls)) (sym e) ∙ ap (λ (l : List ℕ). m ∷ words_of 4 l) (sym (end_is 4 ls))

rising : {f : Filter} {a d u v o : ℕ} (ls : List ℕ) (m : ℕ) → 4 ≤ length ls → m ≡ le_at 4 ls 0 → Rising f a (words_of 4 ls) d u v o → Rising f a (m ∷ words_of 4 (take (length ls - 4) (drop 4 ls))) d u v o
rising ls m h e r = rw (split ls m h e) at r

pub level_back-requires : goal.level_back-requires
level_back-requires t c =
    let r = rising _ _ c.requires.some c.read_u32-m.ensures c.requires.rising in
    let room = rise-room r in
    record { level = rise-level r; n_in_bounds = (room.0, room.2, room.3) }

pub level_back-requires-else-rest-lt4 : goal.level_back-requires-else-rest-lt4
level_back-requires-else-rest-lt4 t c =
    let r = rising _ _ c.requires.some c.read_u32-m.ensures c.requires.rising in
    let room = rise-room r in
    record { level = rise-level r; n_in_bounds = (room.0, room.2, room.1) }

pub slice_bounds-up-count : goal.slice_bounds-up-count
slice_bounds-up-count t c = omega (arith, rise-room (rising _ _ c.requires.some c.read_u32-m.ensures c.requires.rising), c.bytes_of-seam.ensures)

pub slice_bounds-up-start : goal.slice_bounds-up-start
slice_bounds-up-start t c = omega (arith, rise-room (rising _ _ c.requires.some c.read_u32-m.ensures c.requires.rising), c.bytes_of-seam.ensures)

pub up-requires : goal.up-requires
up-requires t c =
    let a = c.args in
    let ls = a.lengths.now in
    let r = rising _ _ c.requires.some c.read_u32-m.ensures c.requires.rising in
    let b = c.bytes_of-seam in
    let seam = length-end b.result a.details.now ∙ ap (λ (j : ℕ). length a.details.now - j) b.ensures in
    let rest = length-end 4 ls in
    (omega (arith, c.decreases, c.requires.some, rest), (omega (arith, c.if-rest-lt4.false), rise-next r seam c.level_back-else-rest-lt4.auto.to))

-- y is what the last level puts over all of o
last_out : (f : Filter) (n m : ℕ) (x d o y l ms : List ℕ) → y ≡ back_of f x (take (width_of f * m) d) ++ drop (width_of f * (n + m)) o
    → l ≡ m ∷ ms → ms ≡ [] → (length d ≡ width_of f * m) × (length o ≡ width_of f * (n + m)) → y ≡ samples_of f x d l
last_out f n m x d o y l ms q e z h =
    let b = back_of f x (take (width_of f * m) d) in
    let full : length o ≤ width_of f * (n + m) = omega (arith, h.1) in
    q
    ∙ ap (λ (r : List ℕ). b ++ r) (drop_of_length-le o full)
    ∙ append-nil b
    ∙ ap (back_of f x) (take_all (width_of f * m) d (omega (arith, h.0)))
    ∙ sym (samples-last f x d l m ms e z h.0)

-- y is what the levels after one put out, which read b from the front of t', and the details from byte s on
next_out : (f : Filter) (m s j : ℕ) (x d t t' b y l ms : List ℕ) → b ≡ back_of f x (take (width_of f * m) d) → t' ≡ b ++ drop j t → length b ≡ j → s ≡ width_of f * m
    → l ≡ m ∷ ms → y ≡ samples_of f (take j t') (take (length d - s) (drop s d)) ms → y ≡ samples_of f x d l
next_out f m s j x d t t' b y l ms eb et long es e q =
    let front : take j t' ≡ b = ap (take j) et ∙ take_at b (drop j t) j long in
    q
    ∙ ap (λ (r : List ℕ). samples_of f r (take (length d - s) (drop s d)) ms) front
    ∙ ap (λ (r : List ℕ). samples_of f b r ms) (end_is s d)
    ∙ ap (λ (i : ℕ). samples_of f b (drop i d) ms) es
    ∙ ap (λ (r : List ℕ). samples_of f r (drop (width_of f * m) d) ms) eb
    ∙ sym (samples-next f x d l m ms e)

-- and behind k bytes t' is as t
next_kept : (j k : ℕ) (t t' b y : List ℕ) → t' ≡ b ++ drop j t → length b ≡ j → j ≤ k → drop k y ≡ drop k t' → drop k y ≡ drop k t
next_kept j k t t' b y et long h q = q ∙ ap (drop k) et ∙ (put_front t b j k long h).1

-- the last level fills the output
pub returns-then-rest-lt4-clause-out_after : goal.returns-then-rest-lt4-clause-out_after
returns-then-rest-lt4-clause-out_after t c =
    let a = c.args in
    let ls = a.lengths.now in
    let m = c.read_u32-m.result in
    let e = c.read_u32-m.ensures in
    let z = no_length (take (length ls - 4) (drop 4 ls)) c.if-rest-lt4.true in
    last_out a.f a.n m (take (width_of a.f * a.n) a.from.now) a.details.now a.out.now _ _ _ c.level_back.ensures.to_after (split _ _ c.requires.some e) z
    (rise-last (rising _ _ c.requires.some e c.requires.rising) z)

-- a level before the last goes to the front of `to`, which the levels after it read
pub returns-else-rest-lt4-clause-out_after : goal.returns-else-rest-lt4-clause-out_after
returns-else-rest-lt4-clause-out_after t c =
    let a = c.args in
    let m = c.read_u32-m.result in
    let lb = c.level_back-else-rest-lt4.ensures in
    next_out a.f m c.bytes_of-seam.result (width_of a.f * (a.n + m)) (take (width_of a.f * a.n) a.from.now) a.details.now a.to.now _ _ _ _ _ refl lb.to_after lb.details_len c.bytes_of-seam.ensures
    (split _ _ c.requires.some c.read_u32-m.ensures) c.up.ensures.out_after

pub returns-else-rest-lt4-clause-to_unchanged : goal.returns-else-rest-lt4-clause-to_unchanged
returns-else-rest-lt4-clause-to_unchanged t c =
    let a = c.args in
    let m = c.read_u32-m.result in
    let lb = c.level_back-else-rest-lt4.ensures in
    next_kept (width_of a.f * (a.n + m)) (length a.out.now) a.to.now _ _ _ lb.to_after lb.details_len
    (rise-room (rising _ _ c.requires.some c.read_u32-m.ensures c.requires.rising)).3 c.up.ensures.from_unchanged
