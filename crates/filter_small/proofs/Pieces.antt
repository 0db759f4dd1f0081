-- Pieces of lists: an entry more, and what a lifting step makes of two pieces. Once over the format.
use mathlib.Core.List.{List, map}
use mathlib.Core.Logic.{⊎_elim}
use mathlib.Core.Path.{◌≡◌, sym, ap, subst, ◌∙◌}
use Prim.Native.Nat.{ℕ, ◌+◌, ◌-◌, ◌≤◌, ◌<◌}
use native.Mathlib.Omega.{arith}
use lib.Ieee.{Float, nan, Format}
use lib.ListN.{length, get_or, set, length-set, length-map}
use lib.Seq.{get_or-set_same, get_or-set_other, map-set}
use Rattle.std.proofs.lemmas.List.{get_or-map}
use Rattle.base_order.proofs.Order.{lt-or-le}
use Rattle.filter_floats.specs.Steps.{lift}
use Rattle.filter_small.specs.Pieces.{Piece, Stepped}

-- ---- a piece

-- an entry more of a list whose entries stand for floats
pub piece-more : {A : Type 0} {l : List Float} {m i n : ℕ} (v : A → Float) (u : List A) {x : A} (k : ℕ) → Piece l m i n (map v u) → n < length u → k ≡ i + n - m → v x ≡ get_or l k nan → Piece l m i (n + 1) (map v (set u n x))
piece-more {A} {l} {m} {i} {n} v u {x} k w h ek ex =
    record {
      each = λ j p hj ep. rw (map-set v u n x) (⊎_elim
          (λ (q : j < n). get_or-set_other (map v u) n j (v x) nan (λ e. omega arith) ∙ w.each j p q ep)
          (λ (q : n ≤ j). let e : j ≡ n = omega arith in let ek' : k ≡ p = omega arith in rw (e, ← ek') (get_or-set_same (map v u) n (v x) nan (rw (length-map u v) h) ∙ ex))
          (lt-or-le j n));
    }

-- the float that an entry stands for
pub entry : {A : Type 0} (v : A → Float) (l : List A) {i : ℕ} {x : A} → x ≡ get_or l i x → i < length l → v x ≡ get_or (map v l) i nan
entry v l {i} {x} e h = ap v e ∙ sym (get_or-map v l i x nan h)

-- ---- a step

-- of a list whose entries stand for floats
module _ {A : Type 0} (v : A → Float) {f : Format} {c : Float} {p q : List Float} where
  pub stepped-none : (r : List A) (e : A) → 0 < length r → Stepped f c p q 0 (v e) (map v r) (map v (set r 0 e))
  stepped-none r e h = record {
    same = length-map (set r 0 e) v ∙ length-set r 0 e ∙ sym (length-map r v);
    first = rw (map-set v r 0 e) (get_or-set_same (map v r) 0 (v e) nan (rw (length-map r v) h));
    each = λ j h. absurd (omega arith);
  }

  pub stepped-more : {n : ℕ} {e : Float} {s : List Float} (r : List A) (y : A) → Stepped f c p q n e s (map v r) → n + 1 < length r → v y ≡ lift f c (get_or p n nan) (get_or p (n + 1) nan) (get_or q n nan)
      → Stepped f c p q (n + 1) e s (map v (set r (n + 1) y))
  stepped-more {n} {e} {s} r y w h made =
      record {
        same = length-map (set r (n + 1) y) v ∙ length-set r (n + 1) y ∙ sym (length-map r v) ∙ w.same;
        first = rw (map-set v r (n + 1) y) (get_or-set_other (map v r) (n + 1) 0 (v y) nan (λ e. omega arith) ∙ w.first);
        each = λ j hj. rw (map-set v r (n + 1) y) (⊎_elim
            (λ (l : j < n). get_or-set_other (map v r) (n + 1) (j + 1) (v y) nan (λ e. omega arith) ∙ w.each j l)
            (λ (l : n ≤ j). let e : j ≡ n = omega arith in rw e (get_or-set_same (map v r) (n + 1) (v y) nan (rw (length-map r v) h) ∙ made))
            (lt-or-le j n));
      }

-- what it leaves is a piece of l, if l's entries are e and what the step makes
pub stepped-piece : {f : Format} {c : Float} {p q s r : List Float} {n : ℕ} {e : Float} (l : List Float) (m i o : ℕ) → Stepped f c p q n e s r → o ≡ i - m → e ≡ get_or l o nan
    → ((j k : ℕ) → j < n → k ≡ i + (j + 1) - m → lift f c (get_or p j nan) (get_or p (j + 1) nan) (get_or q j nan) ≡ get_or l k nan) → Piece l m i (n + 1) r
stepped-piece {f} {c} {p} {q} {s} {r} {n} {e} l m i o w eo q₀ made =
    record {
      each = λ j k h ek. ⊎_elim
          (λ (h₀ : 0 < j). let b : j - 1 + 1 ≡ j = omega arith in subst (λ (y : ℕ). get_or r y nan ≡ get_or l k nan) b (w.each (j - 1) (omega arith) ∙ made (j - 1) k (omega arith) (omega arith)))
          (λ (h₀ : j ≤ 0). let z : j ≡ 0 = omega arith in let b : o ≡ k = omega arith in rw (z, ← b) (w.first ∙ q₀))
          (lt-or-le 0 j);
    }
