-- A window of two parts of one block lies in that block, whichever band was asked for.
use mathlib.Core.Bool.{Bool, true, false, cond}
use mathlib.Core.List.{List}
use mathlib.Core.Path.{◌≡◌}
use Prim.Native.Nat.{ℕ}
use lib.Dec.{eqb}
use denote.Ref.{Bor}
use Rattle.view_windows.specs.Windows.{window_at}

either : (b : Bool) (x y : Bor (List ℕ)) (m : ℕ) → x.ref_ptr.0 ≡ m → y.ref_ptr.0 ≡ m → (cond b x y).ref_ptr.0 ≡ m
either true x y m p q = p
either false x y m p q = q

pub own_block : (k : ℕ) (x y : Bor (List ℕ)) (band start count m : ℕ) → x.ref_ptr.0 ≡ m → y.ref_ptr.0 ≡ m → (window_at k x y band start count).0 ≡ m
unfolding window_at
own_block k x y band start count m = either (eqb band 0) x y m
