-- The laws of `Fed` are not empty, from C-15: every list of pieces within the limit is served, all calls done, and an empty piece changes nothing. Over the width.
use mathlib.Core.Bool.{Bool, true, false}
use mathlib.Core.List.{List, [], ◌∷◌, ◌++◌, append-nil, append_assoc, flatten}
use mathlib.Core.Path.{◌≡◌, refl, sym, ap, ◌∙◌}
use Prim.Native.Nat.{ℕ, ◌+◌, ◌-◌, ◌*◌, ◌/◌, ◌≤◌}
use native.Mathlib.Nat.{add-zero, mul-zero, zero-div}
use native.Mathlib.Omega.{arith}
use lib.ListN.{length, replicate, length-replicate}
use lib.Seq.{slice_empty}
use Rattle.base_answers.specs.declared.err.Answer.{Answer}
use Rattle.base_answers.specs.Answers.{Outcome, told, answer_of, done}
use Rattle.base_answers.specs.Checks.{in_front}
use Rattle.base_answers.proofs.Endings.{left-done, left-refused}
use Rattle.base_lengths.specs.Lengths.{most_samples}
use Rattle.base_samples.specs.Le.{Bytes}
use Rattle.base_samples.specs.Integers.{Width}
use Rattle.filter_cdf53i.specs.Bands.{low, high, EnoughWords}
use Rattle.filter_cdf53i.proofs.WordTurns.{room_of}
use Rattle.stream_pieces.specs.States.{fixed, state_of, stand_in, fixed_by}
use Rattle.stream_pieces.proofs.Joins.{joined}
use Rattle.stream_pieces.proofs.Stands.{stands}
use Rattle.stream_calls.specs.StateBytes.{state_bytes, state_in}
use Rattle.stream_calls.specs.Calls.{say_piece, Piece}
use Rattle.stream_calls.proofs.States.{state-again}
use Rattle.stream_calls.proofs.Ready.{piece-ready}
use Rattle.stream_calls.proofs.Streams.{streams-some}
use Rattle.law_stream.specs.Feeds.{Fed, begun, taken, EachWhole, AllDone, no_more, one_more, Served}
use Rattle.law_stream.proofs.Fed.{fed, cut-anyhow, piece-fits, finish-fits}

module _ {k : ℕ} (w : Width k) where
  -- whole pieces, joined, are whole
  whole-all : (ys : List (List ℕ)) → EachWhole k ys → length (flatten ys) ≡ k * (length (flatten ys) / k)
  unfolding EachWhole flatten
  whole-all [] e = rw (zero-div k) (sym (mul-zero k))
  whole-all (y ∷ ys) e =
      let all = joined w y (flatten ys) (length y / k) (length (flatten ys) / k) e.1 (whole-all ys e.2) in
      rw all.count all.size

  -- calls that are all done, after others, are calls on one recording
  then-fed : {x l h b : List ℕ} {ys : List (List ℕ)} {lows highs b' : List ℕ} → Fed k x l h b → AllDone k x b ys lows highs b'
      → Fed k (x ++ flatten ys) (l ++ lows) (h ++ highs) b'
  unfolding flatten
  then-fed {x} {l} {h} f no_more = rw (append-nil x, append-nil l, append-nil h) f
  then-fed f (one_more by p n more) = rw (append_assoc, append_assoc, append_assoc) at (then-fed (taken f by p n) more)

  -- the calls: areas as long as the piece have room for what it fixes
  all_done : (ys : List (List ℕ)) {x l h b : List ℕ} → Fed k x l h b → EachWhole k ys → length x / k + length (flatten ys) / k ≤ most_samples
      → (lows : List ℕ) × (highs : List ℕ) × (b' : List ℕ) × AllDone k x b ys lows highs b'
  unfolding EachWhole flatten
  all_done [] {b = b} f e few = ([], [], b, no_more)
  all_done (y ∷ ys) {x} {b = b} f e few =
      let n = (joined w y (flatten ys) (length y / k) (length (flatten ys) / k) e.1 (whole-all ys e.2)).count in
      let area : List ℕ = replicate (length y) 0 in
      let size : length area ≡ length y = length-replicate (length y) 0 in
      let room : EnoughWords k (fixed (length x / k + length y / k) - fixed (length x / k)) area = room_of w.some area (length y / k) _ (size ∙ e.1) (omega arith) in
      let fits = piece-fits w f y area area e.1 (omega (arith, n)) room room in
      let s = say_piece k b (length y) (length area) (length area) in
      let call = streams-some s (state_bytes (state_of k (stand_in k (state_in b) ++ y))) (fixed_by low k (state_in b) y) (fixed_by high k (state_in b) y) b area area in
      let z : (answer_of s).number ≡ 0 = ap (λ (s : Outcome). (answer_of s).number) fits in
      let more = all_done ys (taken f e.0 call z) e.2 (omega (arith, n, (joined w x y (length x / k) (length y / k) (fed w f).whole e.1).count)) in
      (_, _, more.2, one_more e.0 call z more.3)

  -- every list of whole pieces within the limit
  pub every-cut : (ys : List (List ℕ)) → EachWhole k ys → length (flatten ys) / k ≤ most_samples → Served k ys
  every-cut ys e few =
      let c = all_done ys begun e (omega (arith, zero-div k, few)) in
      let f : Fed k (flatten ys) c.0 c.1 c.2 = then-fed begun c.3 in
      record {
        lows = c.0;
        highs = c.1;
        state = c.2;
        calls = c.3;
        fed = f;
        ends =
            λ {a} {d} {r} long ra rd p.
            let says = finish-fits w f a d long (record { holds = ra.holds; most = omega (arith, ra.most) }) (record { holds = rd.holds; most = omega (arith, rd.most) }) in
            let answer = p.answer ∙ ap answer_of says in
            let all = cut-anyhow w f p (ap (λ (q : Answer). q.number) answer) in
            (answer, all.0, all.1, all.2);
      }

  -- an empty piece changes nothing, whatever the answer and whichever bytes came as the state
  pub empty-stays : {b a d : List ℕ} {r : Answer} {b' a' d' : List ℕ} → Bytes b → Piece k b [] a d r b' a' d' → (b' ≡ b) × (a' ≡ a) × (d' ≡ d)
  empty-stays {b} {a} {d} {r} {b'} {a'} {d'} bytes p = pick (done says) refl
    where
      says : Outcome
      says = say_piece k b 0 (length a) (length d)

      pick : (t : Bool) → done says ≡ t → (b' ≡ b) × (a' ≡ a) × (d' ≡ d)
      pick true e =
          let ok = piece-ready w b [] a d e in
          let s = state_in b in
          let z = stand_in k s in
          let none : (band : ℕ → List ℕ → List ℕ) → fixed_by band k s [] ≡ [] = λ band. rw (zero-div k, add-zero s.total) (slice_empty (k * fixed s.total) (band k (z ++ []))) in
          let same : state_bytes (state_of k (z ++ [])) ≡ b = rw (append-nil z, stands w s ok.1.state) (state-again b bytes ok.0) in (
            p.state ∙ left-done says _ b e ∙ same,
            p.approx ∙ left-done says _ a e ∙ ap (λ (new : List ℕ). in_front new a) (none low),
            p.details ∙ left-done says _ d e ∙ ap (λ (new : List ℕ). in_front new d) (none high),
          )
      pick false e = (p.state ∙ left-refused says _ b e, p.approx ∙ left-refused says _ a e, p.details ∙ left-refused says _ d e)
