-- Every file that the map has was taken: it is bytes, and passes the checks of adding for its point.
use mathlib.Core.Bool.{Bool, true, false, cond, ◌||◌}
use mathlib.Core.List.{List, [], ◌∷◌, ◌++◌}
use mathlib.Core.Path.{◌≡◌, refl, sym, subst}
use Prim.Native.Nat.{ℕ}
use borrow.Author.Tests.{eqb-true}
use lib.Dec.{T, eqb}
use lib.ListN.{length}
use Rattle.base_answers.specs.Answers.{told, done}
use Rattle.base_answers.proofs.Passed.{Passing, passing, both-pass}
use Rattle.base_samples.specs.Le.{Bytes}
use Rattle.book_entries.specs.Checks.{whole_checks}
use Rattle.law_book.specs.PlainMap.{BookCall, fresh, add, withdraw, find, room, Lent, AllLent, Map, has, file_for, removed, map_checks, map_says, changed, on_map, map_after}

-- a file of bytes that adding takes for point p
abbrev pub Taken : ℕ → List ℕ → Type 0
Taken p s = Bytes s × Passing (whole_checks s p)

-- a map of such files
unfoldable pub AllTaken : Map → Type 0
AllTaken [] = Unit {0}
AllTaken (h ∷ hs) = Taken h.0 h.1 × AllTaken hs

-- one more file
taken_more : (hs : Map) (p : ℕ) (s : List ℕ) → AllTaken hs → Taken p s → AllTaken (hs ++ ((p, s) ∷ []))
unfolding AllTaken
taken_more [] p s a t = (t, tt)
taken_more (h ∷ hs) p s a t = (a.0, taken_more hs p s a.1 t)

-- one file less
taken-less : (hs : Map) (p : ℕ) → AllTaken hs → AllTaken (removed p hs)
unfolding AllTaken removed
taken-less [] p a = tt
taken-less (h ∷ hs) p a = pick (eqb h.0 p) (taken-less hs p a.1)
  where
    pick : (t : Bool) → AllTaken (removed p hs) → AllTaken (cond t hs (h ∷ removed p hs))
    pick true i = a.1
    pick false i = (a.0, i)

-- the file that the map has for a point
taken-file : (hs : Map) (q : ℕ) → AllTaken hs → has q hs ≡ true → Taken q (file_for q hs)
unfolding AllTaken has file_for
taken-file [] q a h = absurd (subst T (sym h) tt)
taken-file (g ∷ hs) q a h = pick (eqb g.0 q) (eqb-true g.0 q) (taken-file hs q a.1) h
  where
    pick : (t : Bool) → (t ≡ true → g.0 ≡ q) → (has q hs ≡ true → Taken q (file_for q hs)) → (t || has q hs) ≡ true → Taken q (cond t g.1 (file_for q hs))
    pick true e i h = subst (λ (p : ℕ). Taken p g.1) (e refl) a.0
    pick false e i h = i h

-- a call leaves such a map
taken-on : (n : ℕ) (hs : Map) (c : BookCall) → Lent c → AllTaken hs → AllTaken (on_map n hs c)
unfolding AllTaken
taken-on n hs c l a = pick (done (map_says n hs c)) (each c l)
  where
    each : (c : BookCall) → Lent c → done (map_says n hs c) ≡ true → AllTaken (changed hs c)
    each fresh l d = tt
    each (add p s) l d =
        let rest = map_checks n hs p (length s) in
        taken_more hs p s a (l, (both-pass (whole_checks s p) rest (passing (whole_checks s p ++ rest) (told 0 0) d)).0)
    each (withdraw p) l d = taken-less hs p a
    each (find p) l d = a
    each room l d = a

    pick : (t : Bool) → (t ≡ true → AllTaken (changed hs c)) → AllTaken (cond t (changed hs c) hs)
    pick true i = i refl
    pick false i = a

-- and so do calls, one after the other
taken-after : (n : ℕ) (hs : Map) (cs : List BookCall) → AllLent cs → AllTaken hs → AllTaken (map_after n hs cs)
unfolding AllLent map_after
taken-after n hs [] l a = a
taken-after n hs (c ∷ cs) l a = taken-after n (on_map n hs c) cs l.1 (taken-on n hs c l.0 a)

-- over any sequence of calls, from none: what the map has is bytes, and whole for its point
pub held_whole : (n : ℕ) (cs : List BookCall) → AllLent cs → (q : ℕ) → has q (map_after n [] cs) ≡ true
    → let s = file_for q (map_after n [] cs) in Bytes s × Passing (whole_checks s q)
unfolding AllTaken
held_whole n cs l q h = taken-file (map_after n [] cs) q (taken-after n [] cs l tt) h
