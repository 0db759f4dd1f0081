-- Parts of slices that were lent and come back.
use mathlib.Core.Path.{◌≡◌, sym, ap, ◌∙◌}
use mathlib.Core.List.{List, ◌++◌, append-nil}
use Prim.Native.Nat.{ℕ, ◌+◌, ◌-◌, ◌≤◌}
use native.Mathlib.Nat.{add-sub_of_le}
use native.Mathlib.Omega.{arith}
use lib.ListN.{length, take, drop, length-drop, drop_of_length-le}
use lib.Seq.{take_all, take_at, drop_at, drop-drop, length-take-le}

-- a part up to the end comes back
pub put-end : (a : ℕ) (xs ys : List ℕ) → a ≤ length xs → take a xs ++ (ys ++ drop (length xs - a) (drop a xs)) ≡ take a xs ++ ys
put-end a xs ys h =
    let e : length (drop a xs) ≤ length xs - a = simp length-drop (omega arith) in
    ap (λ (l : List ℕ). take a xs ++ l) (ap (λ (l : List ℕ). ys ++ l) (drop_of_length-le (drop a xs) e) ∙ append-nil ys)

-- the length of a part up to the end
pub length-end : (a : ℕ) (xs : List ℕ) → length (take (length xs - a) (drop a xs)) ≡ length xs - a
length-end a xs = length-take-le (length xs - a) (drop a xs) (simp length-drop (omega arith))

-- what agrees from j on agrees from k on
pub later : (j k : ℕ) (a b : List ℕ) → j ≤ k → drop j a ≡ drop j b → drop k a ≡ drop k b
later j k a b h e =
    let s : j + (k - j) ≡ k = add-sub_of_le h in
    ap (λ (i : ℕ). drop i a) (sym s) ∙ sym (drop-drop (k - j) j a) ∙ ap (λ (l : List ℕ). drop (k - j) l) e ∙ drop-drop (k - j) j b ∙ ap (λ (i : ℕ). drop i b) s

-- a copy over the whole
pub copied : (s d : List ℕ) → length s ≡ length d → take (length s) s ++ drop (length s) d ≡ s
copied s d e =
    let h : length d ≤ length s = omega arith in
    ap (λ (l : List ℕ). take (length s) s ++ l) (drop_of_length-le d h) ∙ append-nil (take (length s) s) ∙ take_all (length s) s (omega arith)

-- a front of j that comes back as r: what it holds, and what is after it
pub put_front : (xs r : List ℕ) (j n : ℕ) → length r ≡ j → j ≤ n → (take j (r ++ drop j xs) ≡ r) × (drop n (r ++ drop j xs) ≡ drop n xs)
put_front xs r j n e h = (take_at r (drop j xs) j e, later j n (r ++ drop j xs) xs h (drop_at r (drop j xs) j e))

-- a part up to the end is what is left
pub end_is : (a : ℕ) (xs : List ℕ) → take (length xs - a) (drop a xs) ≡ drop a xs
end_is a xs = take_all (length xs - a) (drop a xs) (simp length-drop (omega arith))
