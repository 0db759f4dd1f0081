-- Document 01's figures P6 to P10: P5's samples as a file of 31 bytes, and what each of its first bytes open as; and the same of the file of 35 bytes that has a rate.
-- By the laws of every file, so that these are seen to say what the document says.
use mathlib.Core.Bool.{true}
use mathlib.Core.List.{List, [], ◌∷◌}
use mathlib.Core.Logic.{⊎_elim}
use mathlib.Core.Path.{◌≡◌, refl, sym, ap, subst, ◌∙◌}
use Prim.Native.Nat.{ℕ, zero, suc, ◌+◌, ◌-◌, ◌^◌, ◌≤◌, ◌<◌}
use native.Mathlib.Omega.{arith}
use borrow.Author.Tests.{le-leb, lt-leb}
use lib.ListN.{get_or, take}
use lib.Seq.{take_all}
use Rattle.std.specs.Prelude.{Err}
use Rattle.base_answers.specs.declared.err.Answer.{Answer}
use Rattle.base_answers.specs.declared.err.Refusal.TheVariants.{CutShort}
use Rattle.base_answers.specs.Answers.{done}
use Rattle.base_order.proofs.Order.{lt-or-le}
use Rattle.base_lengths.specs.Levels.{after_levels, count_at, depth_within, depth_from}
use Rattle.base_samples.specs.Le.{le_at, le_bytes}
use Rattle.base_samples.specs.Words.{tabulate, word_at, words_of, bytes_of}
use Rattle.base_samples.specs.Integers.{val, residue, wrap, decode, encode}
use Rattle.filter_cdf53i.specs.Lift.{detail, details, approx, approxs}
use Rattle.filter_cdf53i.specs.Bands.{low, high}
use Rattle.levels_filter.specs.declared.filter.Filter.TheVariants.{Cdf53I8}
use Rattle.levels_filter.specs.Pyramids.{approx_at, lengths_of, laid_out}
use Rattle.file_open.specs.Files.{head_size, file_of}
use Rattle.file_open.specs.Walks.{one_of, walk_of}
use Rattle.file_open.specs.Opens.{say_open, rate_opened, say_section}
use Rattle.file_open.specs.Writes.{say_write}
use Rattle.file_open.proofs.Opening.{refused-rate}
use Rattle.file_head.proofs.Telling.{start-done, done-tells}
use Rattle.law_cuts.specs.Sees.{first_whole, whole_of, Sampled, Roomy, OpensTo}
use Rattle.law_cuts.proofs.Filed.{Recording, all-length}
use Rattle.law_cuts.proofs.WrittenHead.{filed}
use Rattle.law_cuts.proofs.Survives.{cut_short, survives}
use Rattle.law_cuts.proofs.Answers.{opens-whole}
use Rattle.law_cuts.proofs.Rates.{file-rate}
use Rattle.law_figures.specs.Worked.{five, thirty_one, thirty_five, unrated, File, NewFile, NewChecks}

file : file_of Cdf53I8 2 14 0 five ≡ thirty_one
unfolding file_of laid_out le_at le_bytes tabulate word_at words_of bytes_of val residue wrap decode encode detail details approx approxs low high
file = refl

pub new-bytes : file_of Cdf53I8 2 14 1000 five ≡ thirty_five
unfolding file_of laid_out le_at le_bytes tabulate word_at words_of bytes_of val residue wrap decode encode detail details approx approxs low high
new-bytes = refl

pub five-bytes : (i : ℕ) → get_or five i 0 < 256
five-bytes zero = omega arith
five-bytes (suc zero) = omega arith
five-bytes (suc (suc zero)) = omega arith
five-bytes (suc (suc (suc zero))) = omega arith
five-bytes (suc (suc (suc (suc zero)))) = omega arith
five-bytes (suc (suc (suc (suc (suc i))))) = omega arith

recording : Recording Cdf53I8 2 5 14 five
unfolding depth_from depth_within
recording = record { integers = tt; bytes = record { byte = five-bytes }; size = refl; least = omega arith; most = omega arith; some = omega arith; deep = omega arith; point = omega arith }

sampled : Sampled 1 5 5 5
sampled = record { output = refl; first = refl; second = refl }

room : (c : ℕ) → c ≤ 5 → Roomy 1 c 5 5 5
room c h = record { output = omega arith; first = omega arith; second = omega arith }

-- behind a section 0 of z bytes: no section of details is whole, and one is
none : (z b : ℕ) → b ≤ z + 10 → whole_of z 1 2 5 b ≡ 0
unfolding after_levels lengths_of first_whole
none z b h = rw (lt-leb 5 (b - (z + 6)) (omega arith))

one : (z b : ℕ) → z + 11 ≤ b → b ≤ z + 16 → whole_of z 1 2 5 b ≡ 1
unfolding after_levels lengths_of first_whole
one z b h g = rw (le-leb 5 (b - (z + 6)) (omega arith), lt-leb 6 (b - (z + 6) - 5) (omega arith))

-- the file for a rate: what so many whole sections give
module _ (rate : ℕ) (hr : rate < 2 ^ 32) where
  abbrev z : ℕ
  z = head_size rate

  abbrev s : List ℕ
  s = file_of Cdf53I8 2 14 rate five

  given : (b m : ℕ) → z + 6 ≤ b → b ≤ z + 17 → whole_of z 1 2 5 b ≡ m → count_at (2 - m) 5 ≤ 5 → OpensTo (take b s) 1 14 5 5 5 (2 - m) (count_at (2 - m) 5) (approx_at Cdf53I8 (2 - m) five)
  unfolding after_levels
  given b m c e q h =
      subst (λ (i : ℕ). OpensTo (take b s) 1 14 5 5 5 (2 - i) (count_at (2 - i) 5) (approx_at Cdf53I8 (2 - i) five)) q
      (survives (filed recording hr) sampled b c e (subst (λ (i : ℕ). Roomy 1 (count_at (2 - i) 5) 5 5 5) (sym q) (room (count_at (2 - m) 5) h)))

  below : (b : ℕ) → b < z + 6 → say_open (take b s) 1 14 5 5 5 ≡ Err (CutShort b)
  unfolding after_levels
  below b h = cut_short (filed recording hr) sampled b h

  level2 : (b : ℕ) → z + 6 ≤ b → b ≤ z + 10 → OpensTo (take b s) 1 14 5 5 5 2 2 (255 ∷ 3 ∷ [])
  unfolding after_levels le_at le_bytes tabulate word_at words_of bytes_of val residue wrap decode encode detail details approx approxs low high
  level2 b h g = given b 0 h (omega arith) (none z b g) (omega arith)

  level1 : (b : ℕ) → z + 11 ≤ b → b ≤ z + 16 → OpensTo (take b s) 1 14 5 5 5 1 3 (3 ∷ 253 ∷ 7 ∷ [])
  unfolding after_levels le_at le_bytes tabulate word_at words_of bytes_of val residue wrap decode encode detail details approx approxs low high
  level1 b h g = given b 1 (omega arith) (omega arith) (one z b h g) (omega arith)

  whole : OpensTo s 1 14 5 5 5 0 5 five
  whole = opens-whole (filed recording hr) sampled (room 5 (omega arith))

  -- the rate beside what opens, and beside what is refused
  with-rate : (b : ℕ) → b ≤ z + 17 → done (say_open (take b s) 1 14 5 5 5) ≡ true → rate_opened (take b s) 1 14 5 5 5 ≡ rate
  with-rate b e d = file-rate recording hr b e 1 14 5 5 5 d

  without : (b : ℕ) → b < z + 6 → rate_opened (take b s) 1 14 5 5 5 ≡ 0
  without b h = refused-rate (take b s) 1 14 5 5 5 (ap done (below b h))

  opens : (b : ℕ) → z + 6 ≤ b → b ≤ z + 17 → done (say_open (take b s) 1 14 5 5 5) ≡ true
  opens b h g =
      ⊎_elim (λ (e : b < z + 11). ap done (level2 b h (omega arith)).says)
      (λ (e : z + 11 ≤ b).
      ⊎_elim (λ (f : b < z + 17). ap done (level1 b e (omega arith)).says) (λ (f : z + 17 ≤ b). ap (λ (t : List ℕ). done (say_open t 1 14 5 5 5)) (take_all b s (omega (arith, all-length (filed recording hr)))) ∙ ap done whole.says) (lt-or-le b (z + 17)))
      (lt-or-le b (z + 11))

-- they hold
pub p6-to-p10 : File
p6-to-p10 =
    record {
      p6 = file;
      p7 = λ b h. subst (λ (s : List ℕ). say_open (take b s) 1 14 5 5 5 ≡ Err (CutShort b)) file (below 0 (omega arith) b (omega arith));
      p8 = λ b h g. subst (λ (s : List ℕ). OpensTo (take b s) 1 14 5 5 5 2 2 (255 ∷ 3 ∷ [])) file (level2 0 (omega arith) b h g);
      p9 = λ b h g. subst (λ (s : List ℕ). OpensTo (take b s) 1 14 5 5 5 1 3 (3 ∷ 253 ∷ 7 ∷ [])) file (level1 0 (omega arith) b h g);
      p10 = subst (λ (s : List ℕ). OpensTo s 1 14 5 5 5 0 5 five) file (whole 0 (omega arith));
      rate = λ b h. subst (λ (s : List ℕ). rate_opened (take b s) 1 14 5 5 5 ≡ 0) file (⊎_elim (without 0 (omega arith) b) (λ (g : 20 ≤ b). with-rate 0 (omega arith) b h (opens 0 (omega arith) b g h)) (lt-or-le b 20));
    }

pub new-file : NewFile
new-file =
    record {
      bytes = new-bytes;
      cut = λ b h. subst (λ (s : List ℕ). say_open (take b s) 1 14 5 5 5 ≡ Err (CutShort b)) new-bytes (below 1000 (omega arith) b (omega arith));
      level2 = λ b h g. subst (λ (s : List ℕ). OpensTo (take b s) 1 14 5 5 5 2 2 (255 ∷ 3 ∷ [])) new-bytes (level2 1000 (omega arith) b h g);
      level1 = λ b h g. subst (λ (s : List ℕ). OpensTo (take b s) 1 14 5 5 5 1 3 (3 ∷ 253 ∷ 7 ∷ [])) new-bytes (level1 1000 (omega arith) b h g);
      whole = subst (λ (s : List ℕ). OpensTo s 1 14 5 5 5 0 5 five) new-bytes (whole 1000 (omega arith));
      rate = λ b h g. subst (λ (s : List ℕ). rate_opened (take b s) 1 14 5 5 5 ≡ 1000) new-bytes (with-rate 1000 (omega arith) b g (opens 1000 (omega arith) b h g));
      refused-rate = λ b h. subst (λ (s : List ℕ). rate_opened (take b s) 1 14 5 5 5 ≡ 0) new-bytes (without 1000 (omega arith) b (omega arith));
    }

-- each of these is computed
pub new-checks : NewChecks
unfolding say_open say_section say_write one_of walk_of after_levels depth_from depth_within le_at
new-checks =
    record {
      three = refl;
      four = refl;
      no-rate = refl;
      before-sections = refl;
      other-point = refl;
      before-number = refl;
      head = λ t m. (start-done {s = unrated} {t = t} (refl, (refl, (refl, (refl, tt)))) m, (done-tells m (ap (λ (a : Answer). a.number) (start-done {s = unrated} {t = t} (refl, (refl, (refl, (refl, tt)))) m))).rate);
      long = refl;
      few = refl;
      ragged = refl;
      least = refl;
    }
