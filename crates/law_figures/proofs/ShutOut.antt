-- Each program that document 01 names to be shut out differs from the statement on an input: by computing.
use mathlib.Core.List.{List, [], ◌∷◌, ◌++◌}
use mathlib.Core.Path.{◌≡◌, refl, sym, ap, ◌∙◌}
use Prim.Native.Nat.{ℕ, ◌*◌, ◌≤◌, ◌<◌}
use native.Mathlib.Omega.{arith}
use mathlib.Core.Bool.{true}
use lib.IntN.{pos}
use lib.ListN.{get_or, take, drop}
use Rattle.std.specs.Prelude.{Err}
use Rattle.base_answers.specs.declared.err.Answer.{Answer}
use Rattle.base_answers.specs.declared.err.Refusal.TheVariants.{MinFilterSize, BufferWasTooSmallForLevel}
use Rattle.base_answers.specs.Answers.{Outcome, told, say, answer_of, done}
use Rattle.base_answers.specs.Checks.{left}
use Rattle.base_lengths.specs.declared.Wavelet.TheVariants.{Cdf53}
use Rattle.base_lengths.specs.Calls.{say_forward, say_inverse}
use Rattle.base_lengths.specs.Levels.{after_levels, depth_within, depth_from}
use Rattle.view_spans.specs.declared.Band.TheVariants.{Approx, Details}
use Rattle.view_spans.specs.Spans.{span_of}
use Rattle.view_notes.specs.Notes.{say_column, say_span}
use Rattle.view_windows.specs.Windows.{say_window}
use Rattle.base_samples.specs.Le.{le_at, le_bytes}
use Rattle.base_samples.specs.Words.{tabulate, word_at, words_of, bytes_of}
use Rattle.base_samples.specs.Halves.{even_of, odd_of}
use Rattle.base_samples.specs.Integers.{val, residue, wrap, decode, encode}
use Rattle.filter_cdf53i.specs.Lift.{detail, details, approx, approxs, even, odd, sample, restored}
use Rattle.filter_cdf53i.specs.Bands.{low, high, back}
use Rattle.levels_filter.specs.declared.filter.Filter.TheVariants.{Cdf53I8, Cdf53F32}
use Rattle.levels_filter.specs.Pyramids.{approx_at, pyramid, samples_of}
use Rattle.levels_filter.specs.Calls.{say_dwt, say_multi, OneForward, OneInverse, Dwt, Multi}
use Rattle.levels_filter.specs.Backward.{total, band_checks, say_back, MultiBack}
use Rattle.law_cuts.specs.Sees.{OpensTo}
use Rattle.file_open.specs.Walks.{one_of, walk_of}
use Rattle.file_open.specs.Opens.{count_in, samples_in, say_file, Open, say_section, section_in}
use Rattle.file_open.proofs.Opening.{open-taken, open-says}
use Rattle.file_sample.specs.declared.PeekAnswer.{PeekAnswer}
use Rattle.file_sample.specs.Peeks.{say_peek, Peek}
use Rattle.file_sample.proofs.Peeking.{say-past, say-done, peek-none, peek-some}
use Rattle.file_head.specs.declared.HeadAnswer.{HeadAnswer}
use Rattle.file_head.specs.Heads.{say_head, Told, Tells, say_size}
use Rattle.file_head.proofs.Telling.{start-done, done-tells}
use Rattle.law_figures.specs.Worked.{five, thirty_one, thirty_five}
use Rattle.law_figures.specs.ShutOut.{split_only, rest_split, details_up, three, one0, two0, three0, five0, peak, lengths, NotAllRefused, ShutOut}
use Rattle.law_figures.proofs.Files.{p6-to-p10, new-file}
use Rattle.law_figures.proofs.Fused.{fused-differs}
use Rattle.law_figures.proofs.Done.{deep, each-done}

-- lists that differ at place i
differ : {x y : List ℕ} (i : ℕ) → (get_or x i 0 ≡ get_or y i 0 → ⊥) → x ≡ y → ⊥
differ i h e = h (ap (λ (l : List ℕ). get_or l i 0) e)

-- ---- what the checks say of the inputs

says-forward : say_forward Cdf53 1 3 2 1 ≡ told 0 0
unfolding say_forward
says-forward = refl

says-inverse : say_inverse Cdf53 1 2 1 3 ≡ told 0 0
unfolding say_inverse
says-inverse = refl

says_last : say_dwt Cdf53I8 2 5 2 1 5 5 ≡ told 0 0
unfolding say_dwt after_levels depth_from depth_within
says_last = refl

says-down : say_multi Cdf53I8 2 5 5 5 5 ≡ told 0 0
unfolding say_multi depth_from depth_within
says-down = refl

says-one : say_multi Cdf53I8 1 5 5 5 5 ≡ told 0 0
unfolding say_multi depth_from depth_within
says-one = refl

says_back : say_back Cdf53I8 2 3 lengths 5 5 5 ≡ told 0 0
unfolding say_back total band_checks le_at tabulate word_at words_of
says_back = refl

says-column : say_column 5 1 3 ≡ told 1 0
unfolding say_column depth_from depth_within
says-column = refl

says-spans : (say_span Approx 5 1 1 ≡ told 0 4) × (say_span Details 5 1 1 ≡ told 2 4)
unfolding say_span span_of after_levels depth_from depth_within
says-spans = (refl, refl)

says-window : say_window 1 2 1 0 1 1 ≡ told 1 1
unfolding say_window
says-window = refl

says-section : say_section thirty_one 1 14 2 ≡ told 24 1
unfolding say_section walk_of one_of le_at after_levels depth_from depth_within
says-section = refl

says-head : say_head thirty_one ≡ told 0 0
unfolding say_head le_at
says-head = refl

says-size : say_size 1 5 2 ≡ told 35 0
unfolding say_size depth_from depth_within
says-size = refl

says-cut : say_section (take 25 thirty_one) 1 14 2 ≡ told 24 1
unfolding say_section walk_of one_of le_at after_levels depth_from depth_within
says-cut = refl

section-two : section_in thirty_one 1 14 2 ≡ 248 ∷ []
unfolding section_in walk_of one_of le_at after_levels
section-two = rw says-section refl

-- of the file with a rate
says-new-section : say_section thirty_five 1 14 2 ≡ told 28 1
unfolding say_section walk_of one_of le_at after_levels depth_from depth_within
says-new-section = refl

new-section-two : section_in thirty_five 1 14 2 ≡ 248 ∷ []
unfolding section_in walk_of one_of le_at after_levels
new-section-two = rw says-new-section refl

new_told : (t : HeadAnswer) → Told thirty_five t → (t.answer ≡ say 0 0 0) × Tells t 1 2 5 14 1000
unfolding le_at
new_told t m =
    let d = start-done {s = thirty_five} {t = t} (refl, (refl, (refl, (refl, tt)))) m in
    let f = done-tells m (ap (λ (a : Answer). a.number) d) in
    (d, record { width = f.width; levels = f.levels; samples = f.samples; point = f.point; rate = f.rate })

says-short : (say_multi Cdf53I8 1 2 2 2 2 ≡ Err (MinFilterSize 2 3)) × (say_multi Cdf53F32 1 8 8 8 8 ≡ Err BufferWasTooSmallForLevel)
unfolding say_multi depth_from depth_within
says-short = (refl, refl)

-- ---- what is left, of calls that are done with the inputs

bands : {r : Answer} {a d : List ℕ} → OneForward Cdf53I8 three two0 one0 r a d → (a ≡ 3 ∷ 4 ∷ []) × (d ≡ 4 ∷ [])
unfolding le_at le_bytes tabulate word_at words_of bytes_of val residue wrap decode encode detail details approx approxs low high
bands m = (m.approx ∙ ap (λ s. left s (low 1 three) two0) says-forward, m.details ∙ ap (λ s. left s (high 1 three) one0) says-forward)

wrapped : {r : Answer} {a d : List ℕ} → OneForward Cdf53I8 (127 ∷ 128 ∷ 127 ∷ []) two0 one0 r a d → a ≡ 128 ∷ 128 ∷ []
unfolding le_at le_bytes tabulate word_at words_of bytes_of val residue wrap decode encode detail details approx approxs low high
wrapped m = m.approx ∙ ap (λ s. left s (low 1 (127 ∷ 128 ∷ 127 ∷ [])) two0) says-forward

last-level : {r : Answer} {a d u v : List ℕ} → Dwt Cdf53I8 2 five two0 one0 five0 five0 r a d u v → a ≡ 255 ∷ 3 ∷ []
unfolding le_at le_bytes tabulate word_at words_of bytes_of val residue wrap decode encode detail details approx approxs low high after_levels
last-level m = m.approx ∙ ap (λ s. left s (low 1 (approx_at Cdf53I8 1 five)) two0) says_last

restores : {r : Answer} {o : List ℕ} → OneInverse Cdf53I8 (3 ∷ 4 ∷ []) (4 ∷ []) three0 r o → o ≡ three
unfolding le_at le_bytes tabulate word_at words_of bytes_of val residue wrap decode encode even odd sample restored back
restores m = m.output ∙ ap (λ s. left s (back 1 (3 ∷ 4 ∷ []) (4 ∷ [])) three0) says-inverse

restores-zero : {r : Answer} {o : List ℕ} → OneInverse Cdf53I8 two0 one0 three0 r o → o ≡ three0
unfolding le_at le_bytes tabulate word_at words_of bytes_of val residue wrap decode encode even odd sample restored back
restores-zero m = m.output ∙ ap (λ s. left s (back 1 two0 one0) three0) says-inverse

levels : {r : Answer} {o u v : List ℕ} → Multi Cdf53I8 2 five five0 five0 five0 r o u v → o ≡ 255 ∷ 3 ∷ 248 ∷ 5 ∷ 0 ∷ []
unfolding le_at le_bytes tabulate word_at words_of bytes_of val residue wrap decode encode detail details approx approxs low high pyramid
levels m = m.output ∙ ap (λ s. left s (pyramid Cdf53I8 2 five) five0) says-down

one-level : {r s : Answer} {o u v p t w : List ℕ} → Multi Cdf53I8 1 five0 five0 five0 five0 r o u v → Multi Cdf53I8 1 peak five0 five0 five0 s p t w → (o ≡ five0) × (p ≡ 254 ∷ 6 ∷ 254 ∷ 252 ∷ 252 ∷ [])
unfolding le_at le_bytes tabulate word_at words_of bytes_of val residue wrap decode encode detail details approx approxs low high pyramid
one-level m k = (m.output ∙ ap (λ s. left s (pyramid Cdf53I8 1 five0) five0) says-one, k.output ∙ ap (λ s. left s (pyramid Cdf53I8 1 peak) five0) says-one)

restores-five : {r : Answer} {o u v : List ℕ} → MultiBack Cdf53I8 (255 ∷ 3 ∷ []) (248 ∷ 5 ∷ 0 ∷ []) lengths five0 five0 five0 r o u v → o ≡ five
unfolding le_at le_bytes tabulate word_at words_of bytes_of val residue wrap decode encode even odd sample restored back samples_of
restores-five m = m.output ∙ ap (λ s. left s (samples_of Cdf53I8 (255 ∷ 3 ∷ []) (248 ∷ 5 ∷ 0 ∷ []) (words_of 4 lengths)) five0) says_back

restores-zeros : {r : Answer} {o u v : List ℕ} → MultiBack Cdf53I8 two0 three0 lengths five0 five0 five0 r o u v → o ≡ five0
unfolding le_at le_bytes tabulate word_at words_of bytes_of val residue wrap decode encode even odd sample restored back samples_of
restores-zeros m = m.output ∙ ap (λ s. left s (samples_of Cdf53I8 two0 three0 (words_of 4 lengths)) five0) says_back

-- what opening leaves, of lent slices of five samples
opened : {s : List ℕ} {l c : ℕ} {x : List ℕ} {r : Answer} {o u v : List ℕ} → OpensTo s 1 14 5 5 5 l c x → Open s 1 14 five0 five0 five0 r o u v
    → (r ≡ answer_of (told l c)) × (o ≡ x ++ drop (1 * count_in s) five0)
opened {s} e m = (
  m.answer ∙ ap answer_of e.says,
  m.output ∙ ap (λ t. left t (samples_in s ++ drop (1 * count_in s) five0) five0) e.says ∙ ap (λ (y : List ℕ). y ++ drop (1 * count_in s) five0) e.samples,
)

-- one sample of a file that opens so: at a place of what it gives back, and past it
module _ {s : List ℕ} {l c : ℕ} {x : List ℕ} (e : OpensTo s 1 14 5 5 5 l c x) where
  taken : done (say_file s 1 14) ≡ true
  taken = ap done (open-taken s 1 14 5 5 5 (ap done e.says))

  count : count_in s ≡ c
  count = ap (λ (r : Outcome). (answer_of r).second) (sym (open-says s 1 14 5 5 5 (ap done e.says)).0 ∙ e.says)

  says-sample : (j : ℕ) → j < c → say_peek s 1 14 j ≡ told 0 0
  says-sample j h = say-done s 1 14 j taken (omega (arith, count))

  one_at : (j : ℕ) {q : PeekAnswer} → j < c → Peek s 1 14 j q → (q.answer ≡ say 0 0 0) × (q.sample ≡ val 256 (word_at 1 x j))
  one_at j h m =
      let d = says-sample j h in
      (m.answer ∙ ap answer_of d, m.sample ∙ peek-some s 1 14 j d ∙ ap (λ (y : List ℕ). val 256 (word_at 1 y j)) e.samples)

  none-at : (j : ℕ) {q : PeekAnswer} → c ≤ j → Peek s 1 14 j q → (q.answer ≡ say 13 j c) × (q.sample ≡ pos 0)
  none-at j h m =
      let d = say-past s 1 14 j taken (omega (arith, count)) in
      (m.answer ∙ ap answer_of d ∙ ap (say 13 j) count, m.sample ∙ peek-none s 1 14 j (ap done d))

not-all-refused : NotAllRefused
not-all-refused = record { calls = each-done; depth = λ w. ap (λ l. told l 0) (deep w); section = says-section; head = says-head; size = says-size; sample = says-sample p6-to-p10.p10 2 (omega arith); column = says-column; span = says-spans.0; detail-span = says-spans.1; window = says-window }

pub shut_out : ShutOut
unfolding le_at le_bytes tabulate word_at words_of bytes_of val residue wrap decode encode detail details approx approxs low high after_levels even_of odd_of split_only rest_split details_up
shut_out =
    record {
      not-all-refused = not-all-refused;
      same-samples = λ m k e. differ 0 (λ h. omega arith) (sym (restores m) ∙ e ∙ restores-zero k);
      same-samples-back = λ m k e. differ 1 (λ h. omega arith) (sym (restores-five m) ∙ e ∙ restores-zeros k);
      copied = λ m. (λ e. differ 0 (λ h. omega arith) (sym (bands m).0 ∙ e), λ e. differ 0 (λ h. omega arith) (sym (bands m).1 ∙ e));
      rest-split = λ m e. differ 0 (λ h. omega arith) (sym (levels m) ∙ e);
      rest-left = λ m e. differ 0 (λ h. omega arith) (sym (levels m) ∙ e);
      last-split = λ m e. differ 0 (λ h. omega arith) (sym (last-level m) ∙ e);
      finest-first = λ m e. differ 2 (λ h. omega arith) (sym (levels m) ∙ e);
      coarsest = λ m. let q = opened p6-to-p10.p10 m in (ap (λ (r : Answer). r.first) q.0, λ e. differ 0 (λ h. omega arith) (sym e ∙ ap (take 2) q.1));
      invented = λ m. let q = opened (p6-to-p10.p9 27 (omega arith) (omega arith)) m in (ap (λ (r : Answer). r.first) q.0, ap (λ (r : Answer). r.second) q.0, ap (take 3) q.1);
      no-further = says-cut;
      section-is = section-two;
      new-section = (says-new-section, new-section-two);
      new-head = new_told;
      new-sample = λ m. one_at new-file.whole 2 (omega arith) m;
      one-sample = λ m. one_at p6-to-p10.p10 2 (omega arith) m;
      one-of-cut = λ m. one_at (p6-to-p10.p9 27 (omega arith) (omega arith)) 1 (omega arith) m;
      none-past-cut = λ m. none-at (p6-to-p10.p9 27 (omega arith) (omega arith)) 3 (omega arith) m;
      block = λ m k. let q = one-level m k in (refl, λ e. differ 0 (λ h. omega arith) (sym (ap (take 1) q.0) ∙ e ∙ ap (take 1) q.1));
      toward_zero = λ m e. differ 0 (λ h. omega arith) (sym (ap (take 2) (levels m)) ∙ e);
      before-the-wrap = λ m e. differ 0 (λ h. omega arith) (sym (wrapped m) ∙ e);
      fused = fused-differs;
      short-integer = says-short.0;
      short-float = says-short.1;
    }
