-- A call for one point leaves every other point's file as it was, though it may stand elsewhere.
use mathlib.Core.Bool.{Bool, true, false, cond}
use mathlib.Core.List.{List}
use mathlib.Core.Path.{◌≡◌, refl, ap, subst, ◌∙◌}
use Prim.Native.Nat.{ℕ, ◌-◌}
use lib.ListN.{length}
use Rattle.std.specs.Prelude.{Err}
use Rattle.base_answers.specs.declared.err.Answer.{Answer}
use Rattle.base_answers.specs.declared.err.Refusal.TheVariants.{NotHeld}
use Rattle.base_answers.specs.Answers.{done}
use Rattle.book_entries.specs.Books.{data_at}
use Rattle.book_entries.specs.Checks.{say_find}
use Rattle.law_book.specs.PlainMap.{Standing, Finds, Spares, AllSpare, BookCall, fresh, add, withdraw, find, room, Ran, none, next, AllLent, Map, has, file_for, map_says, changed, on_map, map_in}
use Rattle.law_book.proofs.Changed.{SameFile, same-removed, same-added}
use Rattle.law_book.proofs.Standing.{shows}
use Rattle.law_book.proofs.Steps.{step}
use Rattle.law_book.proofs.Found.{finds-file, file-found, not_found}

-- the map still has it
same_left : (t : Bool) (q : ℕ) (hs hs' : Map) → SameFile q hs hs' → SameFile q hs (cond t hs' hs)
same_left true q hs hs' h = h
same_left false q hs hs' h = (refl, refl)

spared : (n : ℕ) (hs : Map) (q : ℕ) (c : BookCall) → Spares q c → SameFile q hs (on_map n hs c)
spared n hs q c s = same_left (done (map_says n hs c)) q hs (changed hs c) (each c s)
  where
    each : (c : BookCall) → Spares q c → SameFile q hs (changed hs c)
    each fresh s = absurd s
    each (add p f) s = same-added p q s hs f
    each (withdraw p) s = same-removed p q s hs
    each (find p) s = (refl, refl)
    each room s = (refl, refl)

-- over any calls that spare q, done or refused, finding q names the same bytes
pub others-stay : (b : List ℕ) → Standing b → (q : ℕ) (f : List ℕ) → Finds b q f → (cs : List BookCall) → AllSpare q cs → AllLent cs
    → (rs : List Answer) (b' : List ℕ) → Ran b cs rs b' → Finds b' q f
unfolding AllLent AllSpare
others-stay b st q f w cs s l rs b' none = w
others-stay b st q f w cs s l rs b' (next {b₁ = b₁} {c = c} {cs = more} {r = r} {rs = rest} d ran) =
    let on = (step b st c l.0 r b₁ d).1 in
    let same = spared (length b - data_at) (map_in b) q c s.0 in
    let was = file-found b st q f w in
    let now = finds-file b₁ on.stands q (ap (has q) on.map ∙ same.0 ∙ was.0) in
    others-stay b₁ on.stands q f (subst (Finds b₁ q) (ap (file_for q) on.map ∙ same.1 ∙ was.1) now) more s.1 l.1 rest b' ran

-- nor does it come to be held
pub absent-stays : (b : List ℕ) → Standing b → (q : ℕ) → say_find b q ≡ Err NotHeld → (cs : List BookCall) → AllSpare q cs → AllLent cs
    → (rs : List Answer) (b' : List ℕ) → Ran b cs rs b' → say_find b' q ≡ Err NotHeld
unfolding AllLent AllSpare
absent-stays b st q w cs s l rs b' none = w
absent-stays b st q w cs s l rs b' (next {b₁ = b₁} {c = c} {cs = more} {r = r} {rs = rest} d ran) =
    let on = (step b st c l.0 r b₁ d).1 in
    let gone = ap (has q) on.map ∙ (spared (length b - data_at) (map_in b) q c s.0).0 ∙ not_found b st q w in
    absent-stays b₁ on.stands q ((shows b₁ on.stands).absent q gone) more s.1 l.1 rest b' ran
