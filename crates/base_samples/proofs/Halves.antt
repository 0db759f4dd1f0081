-- Laws of the entries at even and at odd places, once over the kind of entry: how many there are, which they are, and that halving and joining undo each other.
use mathlib.Core.List.{List}
use mathlib.Core.Logic.{◌⊎◌, inl, inr, ⊎_elim}
use mathlib.Core.Path.{◌≡◌, sym, ap, ◌∙◌}
use Prim.Native.Nat.{ℕ, ◌+◌, ◌*◌, ◌/◌, ◌%◌, ◌≤◌, ◌<◌}
use native.Mathlib.Omega.{arith}
use borrow.Author.Tests.{eq-eqb, ne_eqb}
use lib.ListN.{length, get_or}
use Rattle.base_order.proofs.Order.{lt-or-le}
use Rattle.base_samples.specs.Words.{tabulate}
use Rattle.base_samples.specs.Halves.{even_of, odd_of, joined}
use Rattle.base_samples.proofs.Words.{length-tabulate, get_or-tabulate, tabulate-same, tabulate-get_or}

-- a place is even or odd
pub even-or-odd : (j : ℕ) → (j % 2 ≡ 0) ⊎ (j % 2 ≡ 1)
even-or-odd j = ⊎_elim (λ h. inl (omega arith)) (λ h. inr (omega arith)) (lt-or-le (j % 2) 1)

module _ {A : Type 0} (z : A) where
  pub length-even : (x : List A) → length (even_of z x) ≡ (length x + 1) / 2
  unfolding even_of
  length-even x = length-tabulate ((length x + 1) / 2) _

  pub length-odd : (x : List A) → length (odd_of z x) ≡ length x / 2
  unfolding odd_of
  length-odd x = length-tabulate (length x / 2) _

  pub length-joined : (a d : List A) → length (joined z a d) ≡ length a + length d
  unfolding joined
  length-joined a d = length-tabulate (length a + length d) _

  pub at-even : (x : List A) (i : ℕ) → 2 * i < length x → get_or (even_of z x) i z ≡ get_or x (2 * i) z
  unfolding even_of
  at-even x i h = get_or-tabulate ((length x + 1) / 2) (λ i. get_or x (2 * i) z) i z (omega arith)

  pub at-odd : (x : List A) (i : ℕ) → 2 * i + 1 < length x → get_or (odd_of z x) i z ≡ get_or x (2 * i + 1) z
  unfolding odd_of
  at-odd x i h = get_or-tabulate (length x / 2) (λ i. get_or x (2 * i + 1) z) i z (omega arith)

  -- a table of joined entries, by its even and its odd places
  pub joined_is : (a d : List A) (n : ℕ) (g : ℕ → A) → length a + length d ≡ n
      → ((j : ℕ) → j < n → j % 2 ≡ 0 → g j ≡ get_or a (j / 2) z) → ((j : ℕ) → j < n → j % 2 ≡ 1 → g j ≡ get_or d (j / 2) z) → tabulate n g ≡ joined z a d
  unfolding joined
  joined_is a d n g e even odd =
      rw e
      (tabulate-same n g _
      (λ j h.
      ⊎_elim
      (λ p. rw (eq-eqb (j % 2) 0 p) (even j h p))
      (λ p. rw (ne_eqb (j % 2) 0 (omega arith)) (odd j h p))
      (even-or-odd j)))

  joined_at : (a d : List A) (j : ℕ) → j < length a + length d → ((j % 2 ≡ 0) × (get_or (joined z a d) j z ≡ get_or a (j / 2) z)) ⊎ ((j % 2 ≡ 1) × (get_or (joined z a d) j z ≡ get_or d (j / 2) z))
  unfolding joined
  joined_at a d j h =
      ⊎_elim
      (λ p. inl (p, get_or-tabulate (length a + length d) _ j z h ∙ rw (eq-eqb (j % 2) 0 p)))
      (λ p. inr (p, get_or-tabulate (length a + length d) _ j z h ∙ rw (ne_eqb (j % 2) 0 (omega arith))))
      (even-or-odd j)

  -- the halves joined are the list
  pub joined-halves : (x : List A) → joined z (even_of z x) (odd_of z x) ≡ x
  joined-halves x =
      let n : length (even_of z x) + length (odd_of z x) ≡ length x = rw (length-even x, length-odd x) (omega arith) in
      sym (joined_is (even_of z x) (odd_of z x) (length x) (λ j. get_or x j z) n
      (λ j h p. let e : 2 * (j / 2) ≡ j = omega arith in sym (at-even x (j / 2) (omega arith) ∙ ap (λ i. get_or x i z) e))
      (λ j h p. let e : 2 * (j / 2) + 1 ≡ j = omega arith in sym (at-odd x (j / 2) (omega arith) ∙ ap (λ i. get_or x i z) e)))
      ∙ tabulate-get_or x z

  -- and the halves of two lists joined are the two
  module _ (a d : List A) (fewer : length d ≤ length a) (near : length a ≤ length d + 1) where
    pub even-joined : even_of z (joined z a d) ≡ a
    unfolding even_of
    even-joined =
        let n : (length (joined z a d) + 1) / 2 ≡ length a = rw (length-joined a d) (omega arith) in
        rw n
        (tabulate-same (length a) _ (λ i. get_or a i z)
        (λ i h. ⊎_elim (λ p. p.1 ∙ ap (λ k. get_or a k z) (half i)) (λ p. absurd (clash i p.0)) (joined_at a d (2 * i) (omega arith)))
        ∙ tabulate-get_or a z)
      where
        half : (i : ℕ) → 2 * i / 2 ≡ i
        half i = omega arith

        clash : (i : ℕ) → 2 * i % 2 ≡ 1 → ⊥
        clash i p = omega arith

    pub odd-joined : odd_of z (joined z a d) ≡ d
    unfolding odd_of
    odd-joined =
        let n : length (joined z a d) / 2 ≡ length d = rw (length-joined a d) (omega arith) in
        rw n
        (tabulate-same (length d) _ (λ i. get_or d i z)
        (λ i h. ⊎_elim (λ p. absurd (clash i p.0)) (λ p. p.1 ∙ ap (λ k. get_or d k z) (half i)) (joined_at a d (2 * i + 1) (omega arith)))
        ∙ tabulate-get_or d z)
      where
        half : (i : ℕ) → (2 * i + 1) / 2 ≡ i
        half i = omega arith

        clash : (i : ℕ) → (2 * i + 1) % 2 ≡ 0 → ⊥
        clash i p = omega arith
