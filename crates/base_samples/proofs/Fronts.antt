-- A loop that writes words from the front, one law a turn, once over the width.
use mathlib.Core.Path.{◌≡◌, sym, ap, subst, ◌∙◌}
use mathlib.Core.List.{List, ◌++◌, append-nil, append_assoc}
use Prim.Native.Nat.{ℕ, ◌+◌, ◌*◌, ◌≤◌, ◌<◌}
use native.Mathlib.Nat.{mul-suc, mul-zero}
use native.Mathlib.Numerals.{add-one}
use native.Mathlib.Omega.{arith}
use lib.ListN.{length, take, drop, length-append}
use lib.Seq.{take_all, take_at, length-take-le}
use Rattle.base_samples.specs.Le.{le_bytes}
use Rattle.base_samples.specs.Words.{tabulate, put_at, bytes_of, Holds, Front}
use Rattle.base_samples.proofs.LeLaws.{length-le_bytes, stored_is}
use Rattle.base_samples.proofs.Words.{room, holds_on, length-put, bytes-append}

length_front : (k : ℕ) (s : List ℕ) (i u : ℕ) → k * i + k ≤ length s → length (take (k * i) s ++ le_bytes k u) ≡ k * i + k
length_front k s i u h = length-append (take (k * i) s) (le_bytes k u) ∙ rw (length-take-le (k * i) s (omega arith), length-le_bytes)

-- nothing is written yet
pub front-none : {k n : ℕ} {s : List ℕ} (g : ℕ → ℕ) → Holds k n s → Front k n 0 g s
unfolding tabulate bytes_of
front-none {k} g h = record { holds = h; front = rw (mul-zero k) }

-- word j, which is i, is put
pub front-more : {k n i : ℕ} {g : ℕ → ℕ} {s t : List ℕ} {j u : ℕ} → Front k n i g s → j ≡ i → i < n → u ≡ g j → t ≡ put_at k s j u → Front k n (i + 1) g t
unfolding put_at tabulate bytes_of
front-more {k} {n} {i} {g} {s} {t} {j} {u} h ej hi e put =
    let fits = room k s i (rw h.holds.count hi) in
    let more : k * (i + 1) ≡ k * i + k = rw add-one (mul-suc k i) in
    let is : t ≡ (take (k * i) s ++ le_bytes k u) ++ drop (k * i + k) s = put ∙ rw ej (stored_is k s (k * i) u fits) ∙ sym (append_assoc (take (k * i) s) (le_bytes k u) (drop (k * i + k) s)) in
    let e' : u ≡ g i = rw ej at e in
    record {
      holds = holds_on t h.holds (ap length put ∙ length-put k s j u);
      front =
          rw (is, more, take_at (take (k * i) s ++ le_bytes k u) (drop (k * i + k) s) (k * i + k) (length_front k s i u fits), h.front, add-one)
          (rw (bytes-append, ← e') (ap (λ r. bytes_of k (tabulate i g) ++ r) (sym (append-nil (le_bytes k u)))));
    }

pub front_at : {k n i : ℕ} {g : ℕ → ℕ} {s : List ℕ} (j : ℕ) → Front k n i g s → i ≡ j → Front k n j g s
front_at {k} {n} {g = g} {s = s} j h e = subst (λ m. Front k n m g s) e h

-- all is written
pub front-all : {k n i : ℕ} {g : ℕ → ℕ} {s : List ℕ} (m : ℕ) → Front k n i g s → i ≡ n → n ≡ m → s ≡ bytes_of k (tabulate m g)
front-all {k} {n} {i} {g} {s} m h e en =
    let len : length s ≡ k * i = h.holds.size ∙ ap (λ j. k * j) (sym e) in
    sym (take_all (k * i) s (omega arith)) ∙ h.front ∙ ap (λ j. bytes_of k (tabulate j g)) (e ∙ en)
