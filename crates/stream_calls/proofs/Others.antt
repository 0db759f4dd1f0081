-- The coefficients after the first, as they are read from the piece alone, and that the first and they are all. Over the width.
use mathlib.Core.List.{List, [], ◌∷◌, ◌++◌}
use mathlib.Core.Path.{◌≡◌, refl, sym, ap, ap₂, ◌∙◌}
use Prim.Native.Nat.{ℕ, zero, suc, ◌+◌, ◌-◌, ◌*◌, ◌/◌, ◌^◌, ◌≤◌, ◌<◌}
use native.Mathlib.Nat.{mul-one, mul-sub}
use native.Mathlib.Omega.{arith}
use lib.ListN.{length, take, drop, length-drop}
use Rattle.base_samples.specs.Words.{tabulate, word_at, bytes_of, Holds, Front}
use Rattle.base_samples.proofs.LeLaws.{top_pos}
use Rattle.base_samples.proofs.Words.{holds, tabulate-same, bytes-append, word-drop, word-table}
use Rattle.base_samples.proofs.IntegerLaws.{residue-lt}
use Rattle.filter_cdf53i.specs.Bands.{detail_word}
use Rattle.stream_pieces.specs.declared.recorder.Recorder.{Recorder}
use Rattle.stream_pieces.specs.States.{waiting, stand_in}
use Rattle.stream_pieces.specs.Steps.{next_word, next_detail, next_approx, newly, Taking}
use Rattle.stream_pieces.proofs.NextWords.{detail-in, next-piece, next-detail, next-approx}
use Rattle.stream_calls.specs.Loops.{approx_among}

-- the first word that is stored
first_word : {k n : ℕ} {g : ℕ → ℕ} {s : List ℕ} → Front k n 1 g s → take k s ≡ bytes_of k (tabulate 1 g)
first_word {k} {s = s} h = ap (λ (e : ℕ). take e s) (sym (mul-one k)) ∙ h.front

-- a table is its first entry and the others
table-first : (n : ℕ) (g : ℕ → ℕ) → tabulate (suc n) g ≡ g 0 ∷ tabulate n (λ p. g (1 + p))
unfolding tabulate
table-first zero g = refl
table-first (suc n) g = rw (table-first n g) (ap (λ (p : ℕ). g 0 ∷ (tabulate n (λ p. g (1 + p)) ++ (g p ∷ []))) (omega arith))

-- and so are its bytes, where h has the others
first-others : (k n : ℕ) (g h : ℕ → ℕ) → 0 < n → ((p : ℕ) → 1 + p < n → h p ≡ g (1 + p)) → bytes_of k (tabulate 1 g) ++ bytes_of k (tabulate (n - 1) h) ≡ bytes_of k (tabulate n g)
unfolding tabulate
first-others k n g h some e =
    let more : n ≡ suc (n - 1) = omega arith in
    sym (bytes-append k (tabulate 1 g) (tabulate (n - 1) h))
    ∙ ap (bytes_of k)
    (ap (λ r. g 0 ∷ r) (tabulate-same (n - 1) h (λ p. g (1 + p)) (λ p l. e p (omega arith))) ∙ sym (table-first (n - 1) g) ∙ ap (λ (m : ℕ). tabulate m g) (sym more))

module _ {k : ℕ} {s : Recorder} {y : List ℕ} (g : Taking k s y) where
  -- how many samples of the piece the first detail reads before the even one with which it ends
  abbrev ahead : ℕ
  ahead = 2 - waiting s.total

  -- all is read from z, the piece from that even sample on
  module _ {z : List ℕ} (ez : z ≡ drop (k * ahead) y) where
    pub holds-z : ahead ≤ length y / k → Holds k (length y / k - ahead) z
    holds-z h =
        holds g.width.some z (length y / k - ahead)
        (ap length ez ∙ length-drop (k * ahead) y ∙ ap (λ (l : ℕ). l - k * ahead) g.piece.size ∙ sym (mul-sub k (length y / k) ahead))

    word-z : (j : ℕ) → word_at k z j ≡ next_word k s y (2 + j)
    word-z j = ap (λ (l : List ℕ). word_at k l j) ez ∙ word-drop k y ahead j ∙ ap (word_at k y) (omega arith) ∙ next-piece g (2 + j) (omega arith)

    detail-z : (j : ℕ) → 1 + j < newly k s y → detail_word k z j ≡ next_detail k s y (1 + j)
    detail-z j h =
        let c = (holds-z (omega arith)).count in
        sym (detail-in g.width z j (omega (arith, c)))
        ∙ next-detail g (1 + j) (omega arith)
        (word-z (2 * j) ∙ ap (next_word k s y) (omega arith)) (word-z (2 * j + 1) ∙ ap (next_word k s y) (omega arith)) (word-z (2 * (j + 1)) ∙ ap (next_word k s y) (omega arith))

    approx-z : (d : List ℕ) (j : ℕ) → 1 + j < newly k s y → word_at k d j ≡ next_detail k s y j → word_at k d (j + 1) ≡ next_detail k s y (j + 1) → approx_among k z d j ≡ next_approx k s y (1 + j)
    unfolding approx_among
    approx-z d j h e f =
        next-approx g (1 + j) (omega arith) (word-z (2 * j) ∙ ap (next_word k s y) (omega arith)) (e ∙ ap (detail_word k (stand_in k s ++ y)) (omega arith)) (f ∙ ap (next_detail k s y) (omega arith))

    -- the first and the others are all
    module _ {d₁ d₂ : List ℕ} (some : 0 < newly k s y) (d : Front k (newly k s y) 1 (next_detail k s y) d₁)
        (ed : d₂ ≡ take k d₁ ++ bytes_of k (tabulate (length d₁ / k - 1) (detail_word k z))) where
      pub details-all : d₂ ≡ bytes_of k (tabulate (newly k s y) (next_detail k s y))
      details-all =
          ed
          ∙ ap₂ ◌++◌ (first_word d) (ap (λ (c : ℕ). bytes_of k (tabulate (c - 1) (detail_word k z))) d.holds.count)
          ∙ first-others k (newly k s y) (next_detail k s y) (detail_word k z) some detail-z

      detail-read : (j : ℕ) → j < newly k s y → word_at k d₂ j ≡ next_detail k s y j
      unfolding detail_word
      detail-read j h = ap (λ (l : List ℕ). word_at k l j) details-all ∙ word-table k (newly k s y) (next_detail k s y) j h (residue-lt (256 ^ k) _ (top_pos k))

      pub approxs-all : {a₁ a₂ : List ℕ} → Front k (newly k s y) 1 (next_approx k s y) a₁ → a₂ ≡ take k a₁ ++ bytes_of k (tabulate (length d₁ / k - 1) (approx_among k z d₂))
          → a₂ ≡ bytes_of k (tabulate (newly k s y) (next_approx k s y))
      approxs-all a ea =
          ea
          ∙ ap₂ ◌++◌ (first_word a) (ap (λ (c : ℕ). bytes_of k (tabulate (c - 1) (approx_among k z d₂))) d.holds.count)
          ∙ first-others k (newly k s y) (next_approx k s y) (approx_among k z d₂) some (λ j h. approx-z d₂ j h (detail-read j (omega arith)) (detail-read (j + 1) (omega arith)))
