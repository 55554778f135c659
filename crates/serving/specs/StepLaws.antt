-- Laws of the steps of a server.
use Rattle.std.specs.Prelude.{◌≡◌, ◌≤◌, ◌<◌, ◌+◌, ℕ, true, false, List, [], ◌∷◌, ◌++◌, drop, length, take}
use Rattle.std.specs.Prelude.{Option, Some, None, Result, Ok, Err}
use Rattle.std.proofs.Common.{take-append-drop}
use Rattle.futures.specs.Poll.{OnPending}
use Rattle.lite_base.specs.Chain.{OneStep, Reaches}
use Rattle.lite_base.specs.Laws.Chain.{steps_answer}
use Rattle.lite_base.specs.Laws.Ranks.{Below-then, Below-trans}
use Rattle.lite_io_base.specs.WriteMarks.{write_marks}
use Rattle.lite_write.specs.Uses.{offered_marks}
use Rattle.serving.specs.Uses.{Advances, AdvancesInHand, AtMost, AtMost-both, Below, Below-first, ErrorKind, untaken, ◌∙◌}
use Rattle.serving.specs.Uses.{FramesError, LastWords, Lending, MarkLaws, NoneEmpty, Pending, Poll, Ranks}
use Rattle.serving.specs.Uses.{ReadCounting, ReadMark, Ready, Runs, ServiceStep, StandsIn, WriteMark}
use Rattle.serving.specs.Uses.{WritesAndFlushes, ap, append-nil, arith, bytes, inl, inr, kept}
use Rattle.lent_frames.specs.LendingLaws.{advance_counts}
use Rattle.serving.specs.Uses.{length-append, length-take-le, lent_body, refl, subst, sym}
use Rattle.serving.specs.RankLaws.{lends_lower, looks_lower, lower_behind, not_empty, same_size}
use Rattle.serving.specs.Serving.{LastIs, ServingEnds, OutputFails, Goes, AllSent, IsUnsent, MayTake, ServesTurns, ServesPoll, side_of}
use Rattle.serving.specs.declared.serving_error.ServingError.{ServingError}
use Rattle.serving.specs.declared.serving_error.ServingError.TheVariants.{Output}
use Rattle.serving.specs.ServingLaws.{goes_both, polled_later, serves_both, serves_counts, serves_silent}
use Rattle.serving.specs.ServingSteps.{FlushesOut, GoesAhead, IsTurnOf, PerformsFound, PutsOut, TakesByRead, TakesInHand, WriterPends, WritesWaiting}
use Rattle.serving.specs.ServingSteps.{lending_rank, one_if_false, one_if_none, serving_rank}
use Rattle.serving.specs.Turns.{FindsIn, Server, Responds, ServingTurn, looked, pended, said_in}
use Rattle.serving.specs.declared.stop.Stop.{Stop}

-- What is in hand is what a poll finds.
module _ {T C E : Type 0} (piece : C → List ℕ → List ℕ → Type 0) (refuses : C → List ℕ → E → Type 0) (cut_off : C → List ℕ → E → Type 0)
    (reads : Runs ReadMark T) (buffer_of : T → List ℕ) where
  pub in_hand_advances : (x y : Lending T C) (found : Option (Result (Unit {0}) (FramesError E)))
      → AdvancesInHand piece refuses cut_off reads buffer_of x (Ready found) y
      → Advances piece refuses cut_off reads buffer_of x (Ready found) y
  in_hand_advances x y found (inl over) = inl over
  in_hand_advances x y found (inr (was, xs, (took, shown), finds)) = inr (was, xs, [], took, finds)

  -- A turn is found by what was found.
  pub finds_turn : (x y : Lending T C) (found : Option (Result (Unit {0}) (FramesError E))) (turn : ServingTurn E)
      → Advances piece refuses cut_off reads buffer_of x (Ready found) y → IsTurnOf found (lent_body buffer_of y) turn
      → FindsIn piece refuses cut_off reads buffer_of x turn y
  finds_turn x y None turn h is = rw is h
  finds_turn x y (Some (Ok u)) turn h (inl (said, on, is)) = rw is (h, refl)
  finds_turn x y (Some (Ok u)) turn h (inr is) = rw is (h, refl)
  finds_turn x y (Some (Err e)) turn h (inl (said, is)) = rw is h
  finds_turn x y (Some (Err e)) turn h (inr is) = rw is h

-- Two lists that are empty together.
both_empty : (us xs : List ℕ) → us ++ xs ≡ [] → (us ≡ []) × (xs ≡ [])
both_empty [] xs e = (refl, e)
both_empty (u ∷ us) xs e = cc e

-- If no byte was taken, the bytes that were kept are held.
none_came : {T C : Type 0} (buffer_of : T → List ℕ) (x y : Lending T C) (xs : List ℕ) → y.held ≡ kept x ++ xs
    → untaken buffer_of x ++ xs ≡ [] → (untaken buffer_of x ≡ []) × (y.held ≡ kept x)
none_came buffer_of x y xs held e =
    let none = both_empty (untaken buffer_of x) xs e in
    (none.0, held ∙ ap (λ l. kept x ++ l) none.1 ∙ append-nil (kept x))

module _ {S E : Type 0} (answers : ServiceStep S (List ℕ) ℕ) (words : LastWords S (FramesError E) ℕ) where
  -- If turns go on, a request was found.
  goes_on_only : (s t : S) (found : Option (Result (Unit {0}) (FramesError E))) (body : List ℕ) (turn : ServingTurn E) (after : Option (Stop E))
      → IsTurnOf found body turn → Responds answers words s turn None t after → after ≡ None → found ≡ Some (Ok tt)
  goes_on_only s t None body turn after is h none = let r = subst (λ k. Responds answers words s k None t after) is h in cc (r.1, none)
  goes_on_only s t (Some (Ok u)) body turn after is h none = refl
  goes_on_only s t (Some (Err e)) body turn after (inl (said, is)) h none =
      let r = subst (λ k. Responds answers words s k None t after) is h in cc (r.1, none)
  goes_on_only s t (Some (Err e)) body turn after (inr is) h none =
      let r = subst (λ k. Responds answers words s k None t after) is h in cc (r.1, none)

-- A write of some bytes is no failure.
some_taken : (xs : List ℕ) → 0 < length xs → WritesAndFlushes (WriteMark.wrote xs ∷ [])
some_taken [] h = absurd (omega (arith, h))
some_taken (x ∷ xs) h = tt

module _ {T C O S E : Type 0} (piece : C → List ℕ → List ℕ → Type 0) (refuses : C → List ℕ → E → Type 0) (cut_off : C → List ℕ → E → Type 0)
    (reads : Runs ReadMark T) (buffer_of : T → List ℕ) (writes : Runs WriteMark O) (answers : ServiceStep S (List ℕ) ℕ)
    (words : LastWords S (FramesError E) ℕ) (write_laws : MarkLaws writes) (some : NoneEmpty piece) {r : Ranks T}
    (counting : ReadCounting reads r) where
  -- A request that was found lowers the rank of the frames.
  request_lowers : (x y : Lending T C) (found : Option (Result (Unit {0}) (FramesError E))) → StandsIn x.span x.held (buffer_of x.reader)
      → r.counts x.reader → found ≡ Some (Ok tt) → Advances piece refuses cut_off reads buffer_of x (Ready found) y
      → Below (lending_rank r y) (lending_rank r x)
  request_lowers x y None stands counts wrong h = cc wrong
  request_lowers x y (Some (Err e)) stands counts wrong h = cc wrong
  request_lowers x y (Some (Ok u)) stands counts is (inl (_, wrong, _)) = cc wrong
  request_lowers x y (Some (Ok u)) stands counts is (inr (_, xs, last, took, (none, lends))) =
      let whole = untaken buffer_of x ++ xs in
      let marks : bytes whole ++ last ≡ bytes whole = ap (λ l. bytes whole ++ l) none ∙ append-nil (bytes whole) in
      lends_lower piece refuses cut_off reads buffer_of some counting x y whole stands counts
      (subst (λ l. reads x.reader l y.reader) marks took.ran) (none_came buffer_of x y xs took.held)
      (not_empty piece refuses cut_off reads buffer_of some y.span.size y.cutter _ _ lends.2)

  -- A turn by what was found. `m` is the server with the frames as the look left them.
  pub turn_goes_on : (x m y : Server T C O S E) (found : Option (Result (Unit {0}) (FramesError E)))
      → PerformsFound buffer_of answers words m found y → StandsIn x.requests.span x.requests.held (buffer_of x.requests.reader)
      → r.counts x.requests.reader → MayTake x
      → Advances piece refuses cut_off reads buffer_of x.requests (Ready found) m.requests → m ≡ record x { requests = m.requests }
      → GoesAhead piece refuses cut_off reads buffer_of writes answers words r x y
  turn_goes_on x m y found (turn, is, p) stands counts (going, few) found_at rest =
      record {
        went = (turn ∷ [], [], served);
        lower = rw going (lower_behind y.stop _ _ sizes falls);
        counts = rw p.requests (advance_counts piece refuses cut_off reads buffer_of counting x.requests m.requests _ counts found_at);
      }
    where
      waits : y.waiting ≡ x.waiting ++ said_in turn
      waits = p.waits ∙ ap (λ (s : Server T C O S E). s.waiting ++ said_in turn) rest

      most : length y.waiting ≤ x.limit + length (said_in turn)
      most = omega (arith, few, ap length waits, length-append x.waiting (said_in turn))

      responds : Responds answers words x.responder turn x.stop y.responder y.stop
      responds =
          rw going (subst (λ s. Responds answers words s turn None y.responder y.stop) (ap (λ (s : Server T C O S E). s.responder) rest) p.responds)

      finds : FindsIn piece refuses cut_off reads buffer_of x.requests turn y.requests
      finds = rw p.requests (finds_turn piece refuses cut_off reads buffer_of x.requests m.requests found turn found_at is)

      served : ServesTurns piece refuses cut_off reads buffer_of writes answers words x (turn ∷ []) [] y
      served =
          record {
            taken = (side_of y, (finds, responds), refl);
            went = subst (λ o. writes x.replies [] o) (sym (p.replies ∙ ap (λ (s : Server T C O S E). s.replies) rest)) (write_laws.rests x.replies);
            fine = tt;
            balanced = ap (λ l. x.waiting ++ l) (append-nil (said_in turn)) ∙ sym waits;
            flushed = λ is_flushed. inl (sym (p.flushed ∙ ap (λ (s : Server T C O S E). s.is_flushed) rest) ∙ is_flushed, refl);
            within = inr ([], [], turn, refl, most);
            limit = p.limit ∙ ap (λ (s : Server T C O S E). s.limit) rest;
            error = p.error ∙ ap (λ (s : Server T C O S E). s.error) rest;
          }

      sizes : length (lending_rank r y.requests ++ (length y.waiting ∷ one_if_false y.is_flushed ∷ []))
          ≡ length (lending_rank r x.requests ++ (length x.waiting ∷ one_if_false x.is_flushed ∷ []))
      sizes =
          length-append (lending_rank r y.requests) (length y.waiting ∷ one_if_false y.is_flushed ∷ [])
          ∙ ap (λ n. n + 2) (same_size piece refuses cut_off reads buffer_of some counting x.requests y.requests)
          ∙ sym (length-append (lending_rank r x.requests) (length x.waiting ∷ one_if_false x.is_flushed ∷ []))

      falls : y.stop ≡ None → Below (lending_rank r y.requests ++ (length y.waiting ∷ one_if_false y.is_flushed ∷ []))
          (lending_rank r x.requests ++ (length x.waiting ∷ one_if_false x.is_flushed ∷ []))
      falls none =
          let is_request = goes_on_only answers words m.responder y.responder found _ turn y.stop is p.responds none in
          let lower = request_lowers x.requests m.requests found stands counts is_request found_at in
          Below-first (lending_rank r y.requests) (lending_rank r x.requests) _ _
          (subst (λ l. Below (lending_rank r l) (lending_rank r x.requests)) (sym p.requests) lower) refl

  -- A look at what is in hand found no whole request. `y` is the server with the frames as the look left them.
  pub looks_only : (x y : Server T C O S E) → StandsIn x.requests.span x.requests.held (buffer_of x.requests.reader)
      → r.counts x.requests.reader → AdvancesInHand piece refuses cut_off reads buffer_of x.requests Pending y.requests
      → y ≡ record x { requests = y.requests } → TakesInHand piece refuses cut_off reads buffer_of writes answers words r x false y
  looks_only x y stands counts (inl (_, wrong, _)) rest = cc wrong
  looks_only x y stands counts (inr (was, xs, (took, shown), found)) rest = ((looked ∷ [], [], served), falls, counted, rest)
    where
      whole : List ℕ
      whole = untaken buffer_of x.requests ++ xs

      ran : reads x.requests.reader (bytes whole) y.requests.reader
      ran = subst (λ l. reads x.requests.reader l y.requests.reader) (append-nil (bytes whole)) took.ran

      counted : r.counts y.requests.reader
      counted = counting.counts_on x.requests.reader y.requests.reader (bytes whole) counts ran

      served : ServesTurns piece refuses cut_off reads buffer_of writes answers words x (looked ∷ []) [] y
      served =
          serves_silent piece refuses cut_off reads buffer_of writes answers words write_laws x y (looked ∷ []) []
          (side_of y, (inr (was, xs, (took, shown), found), (ap (λ (s : Server T C O S E). s.responder) rest, ap (λ (s : Server T C O S E). s.stop) rest)), refl)
          (subst (λ o. writes x.replies [] o) (sym (ap (λ (s : Server T C O S E). s.replies) rest)) (write_laws.rests x.replies)) tt refl refl
          (ap (λ (s : Server T C O S E). s.waiting) rest) (ap (λ (s : Server T C O S E). s.is_flushed) rest)
          (ap (λ (s : Server T C O S E). s.limit) rest) (ap (λ (s : Server T C O S E). s.error) rest)

      low : AtMost (lending_rank r y.requests) (lending_rank r x.requests)
      low =
          looks_lower piece refuses cut_off reads buffer_of some counting x.requests y.requests whole stands counts ran
          (none_came buffer_of x.requests y.requests xs took.held) (ap (λ s. s.size) found.0.1)

      falls : AtMost (serving_rank r y) (serving_rank r x)
      falls =
          AtMost-both (one_if_none y.stop ∷ []) (one_if_none x.stop ∷ []) _ _ (inl (ap (λ (s : Server T C O S E). one_if_none s.stop ∷ []) rest))
          (AtMost-both (lending_rank r y.requests) (lending_rank r x.requests) _ _ low
          (inl (ap (λ (s : Server T C O S E). length s.waiting ∷ one_if_false s.is_flushed ∷ []) rest)))

  -- The reader was pending.
  pub pended_only : (x y : Server T C O S E) → Advances piece refuses cut_off reads buffer_of x.requests Pending y.requests
      → y ≡ record x { requests = y.requests }
      → ServesTurns piece refuses cut_off reads buffer_of writes answers words x (pended ∷ []) [] y
  pended_only x y h rest =
      serves_silent piece refuses cut_off reads buffer_of writes answers words write_laws x y (pended ∷ []) []
      (side_of y, (h, (ap (λ (s : Server T C O S E). s.responder) rest, ap (λ (s : Server T C O S E). s.stop) rest)), refl)
      (subst (λ o. writes x.replies [] o) (sym (ap (λ (s : Server T C O S E). s.replies) rest)) (write_laws.rests x.replies)) tt refl refl
      (ap (λ (s : Server T C O S E). s.waiting) rest) (ap (λ (s : Server T C O S E). s.is_flushed) rest)
      (ap (λ (s : Server T C O S E). s.limit) rest) (ap (λ (s : Server T C O S E). s.error) rest)

  -- The writer was pending.
  pub writer_pended : (x y : Server T C O S E) → writes x.replies (WriteMark.pending ∷ []) y.replies → y ≡ record x { replies = y.replies }
      → ServesTurns piece refuses cut_off reads buffer_of writes answers words x [] (WriteMark.pending ∷ []) y
  writer_pended x y went rest =
      serves_silent piece refuses cut_off reads buffer_of writes answers words write_laws x y [] (WriteMark.pending ∷ [])
      (sym (ap side_of rest)) went tt refl refl (ap (λ (s : Server T C O S E). s.waiting) rest)
      (ap (λ (s : Server T C O S E). s.is_flushed) rest) (ap (λ (s : Server T C O S E). s.limit) rest) (ap (λ (s : Server T C O S E). s.error) rest)

  -- The writer took bytes.
  writes_go_on : (x y : Server T C O S E) → r.counts x.requests.reader → WritesWaiting writes x y
      → GoesAhead piece refuses cut_off reads buffer_of writes answers words r x y
  writes_go_on x y counts w =
      record {
        went = ([], WriteMark.wrote w.taken ∷ [], served);
        lower = rw (w.stays.stop, w.stays.requests) (inr (refl, Below-then (lending_rank r x.requests) _ _ (inl (less, refl))));
        counts = rw w.stays.requests counts;
      }
    where
      long : length x.waiting ≡ length w.taken + length y.waiting
      long = ap length w.front ∙ length-append w.taken y.waiting

      less : length y.waiting < length x.waiting
      less = omega (arith, long, w.some)

      fewer : length y.waiting ≤ length x.waiting
      fewer = omega (arith, less)

      served : ServesTurns piece refuses cut_off reads buffer_of writes answers words x [] (WriteMark.wrote w.taken ∷ []) y
      served =
          record {
            taken = rw (w.stays.requests, w.stays.responder, w.stays.stop) refl;
            went = w.went;
            fine = some_taken w.taken w.some;
            balanced = append-nil x.waiting ∙ w.front ∙ ap (λ l. l ++ y.waiting) (sym (append-nil w.taken));
            flushed = λ is. cc (is, w.due);
            within = inl fewer;
            limit = w.stays.limit;
            error = w.stays.error;
          }

  -- The writer was flushed.
  flush_goes_on : (x y : Server T C O S E) → r.counts x.requests.reader → FlushesOut writes x y
      → GoesAhead piece refuses cut_off reads buffer_of writes answers words r x y
  flush_goes_on x y counts f =
      record {
        went = ([], WriteMark.flushed ∷ [], served);
        lower = subst (λ l. Below l (serving_rank r x)) (sym (ap (serving_rank r) f.rest)) falls;
        counts = subst r.counts (sym (ap (λ (s : Server T C O S E). s.requests.reader) f.rest)) counts;
      }
    where
      due : 0 < one_if_false x.is_flushed
      due = rw f.due (omega arith)

      falls : Below (serving_rank r (record x { replies = y.replies; is_flushed = true })) (serving_rank r x)
      falls = inr (refl, Below-then (lending_rank r x.requests) _ _ (inr (refl, inl (due, refl))))

      waiting : y.waiting ≡ x.waiting
      waiting = ap (λ (s : Server T C O S E). s.waiting) f.rest

      served : ServesTurns piece refuses cut_off reads buffer_of writes answers words x [] (WriteMark.flushed ∷ []) y
      served =
          record {
            taken = sym (ap side_of f.rest);
            went = f.went;
            fine = tt;
            balanced = append-nil x.waiting ∙ sym waiting;
            flushed = λ is. inr ([], [], refl, refl);
            within = inl (omega (arith, ap length waiting));
            limit = ap (λ (s : Server T C O S E). s.limit) f.rest;
            error = ap (λ (s : Server T C O S E). s.error) f.rest;
          }

  pub put_goes_on : (x y : Server T C O S E) → r.counts x.requests.reader → PutsOut writes x (Ready (Ok true)) y
      → GoesAhead piece refuses cut_off reads buffer_of writes answers words r x y
  put_goes_on x y counts (inl w) = writes_go_on x y counts w
  put_goes_on x y counts (inr f) = flush_goes_on x y counts f

  -- No turn may be taken, so nothing was done.
  pub looks_never : (x : Server T C O S E) → r.counts x.requests.reader
      → TakesInHand piece refuses cut_off reads buffer_of writes answers words r x false x
  looks_never x counts =
      (([], [], serves_silent piece refuses cut_off reads buffer_of writes answers words write_laws x x [] [] refl (write_laws.rests x.replies) tt refl refl refl refl refl refl), inl refl, counts, refl)

  -- A step behind others that do not raise the rank.
  pub later_goes_on : (x m y : Server T C O S E) → Goes piece refuses cut_off reads buffer_of writes answers words x m
      → AtMost (serving_rank r m) (serving_rank r x) → GoesAhead piece refuses cut_off reads buffer_of writes answers words r m y
      → GoesAhead piece refuses cut_off reads buffer_of writes answers words r x y
  later_goes_on x m y went low g =
      record { went = goes_both piece refuses cut_off reads buffer_of writes answers words write_laws x m y went g.went; lower = by low; counts = g.counts }
    where
      by : AtMost (serving_rank r m) (serving_rank r x) → Below (serving_rank r y) (serving_rank r x)
      by (inl same) = subst (λ l. Below (serving_rank r y) l) same g.lower
      by (inr more) = Below-trans (serving_rank r y) (serving_rank r m) (serving_rank r x) g.lower more

  -- The server is `m` once it has looked at what is in hand, and `n` once it has called the writer.
  module _ (x m n y : Server T C O S E) (look : TakesInHand piece refuses cut_off reads buffer_of writes answers words r x false m) where
    -- The writer took bytes, or was flushed; or it failed.
    pub puts_then : PutsOut writes m (Ready (Ok true)) y → GoesAhead piece refuses cut_off reads buffer_of writes answers words r x y
    puts_then put = later_goes_on x m y look.0 look.1 (put_goes_on m y look.2 put)

    pub fails_then : (kind : ErrorKind) → OutputFails writes m kind y → ServesPoll piece refuses cut_off reads buffer_of writes answers words x (Ready (Err (Output kind))) y
    fails_then kind failed = (m, look.0, failed)

    -- All is sent.
    module _ (sent : AllSent m × (n ≡ m)) where
      pub reads_then : (a : Option (Poll (Result (Unit {0}) (ServingError E)))) → MayTake n
          → TakesByRead piece refuses cut_off reads buffer_of writes answers words r n a y → OneStep (GoesAhead piece refuses cut_off reads buffer_of writes answers words r) (ServesPoll piece refuses cut_off reads buffer_of writes answers words) x a y
      reads_then None may g =
          later_goes_on x m y look.0 look.1 (subst (λ k. GoesAhead piece refuses cut_off reads buffer_of writes answers words r k y) sent.1 g)
      reads_then (Some Pending) may (found, rest, counts) =
          polled_later piece refuses cut_off reads buffer_of writes answers words write_laws x m y Pending look.0
          (subst (λ k. ServesPoll piece refuses cut_off reads buffer_of writes answers words k Pending y) sent.1 pends)
        where
          still_sent : AllSent y
          still_sent = (
            ap (λ (s : Server T C O S E). s.waiting) rest ∙ ap (λ (s : Server T C O S E). s.waiting) sent.1 ∙ sent.0.0,
            ap (λ (s : Server T C O S E). s.is_flushed) rest ∙ ap (λ (s : Server T C O S E). s.is_flushed) sent.1 ∙ sent.0.1,
          )

          not_unsent : IsUnsent y → LastIs WriteMark.pending []
          not_unsent (inl some) = absurd (omega (arith, some, ap length still_sent.0))
          not_unsent (inr due) = cc (due, still_sent.1)

          may_still : MayTake y
          may_still = rw rest may

          pends : ServesPoll piece refuses cut_off reads buffer_of writes answers words n Pending y
          pends =
              record {
                turns = pended ∷ [];
                took = [];
                served = pended_only n y found rest;
                reader = λ may_take. ([], refl);
                writer = not_unsent;
                some = inl may_still;
              }
      reads_then (Some (Ready a)) may wrong = absurd wrong

      pub ends_then : (a : Result (Unit {0}) (ServingError E)) → ServingEnds piece refuses cut_off reads buffer_of writes answers words n a y → ServesPoll piece refuses cut_off reads buffer_of writes answers words x (Ready a) y
      ends_then a ends = polled_later piece refuses cut_off reads buffer_of writes answers words write_laws x m y (Ready a) look.0 (subst (λ k. ServingEnds piece refuses cut_off reads buffer_of writes answers words k a y) sent.1 ends)

    -- The writer is pending.
    module _ (blocked : WriterPends writes m n) where
      waited : ServesTurns piece refuses cut_off reads buffer_of writes answers words m [] (WriteMark.pending ∷ []) n
      waited = writer_pended m n blocked.went blocked.rest

      unsent : IsUnsent n
      unsent = rw blocked.rest blocked.due

      same_rank : serving_rank r n ≡ serving_rank r m
      same_rank = ap (serving_rank r) blocked.rest

      to_here : Goes piece refuses cut_off reads buffer_of writes answers words x n
      to_here = goes_both piece refuses cut_off reads buffer_of writes answers words write_laws x m n look.0 ([], WriteMark.pending ∷ [], waited)

      pub reads_blocked : (a : Option (Poll (Result (Unit {0}) (ServingError E)))) → MayTake n
          → TakesByRead piece refuses cut_off reads buffer_of writes answers words r n a y → OneStep (GoesAhead piece refuses cut_off reads buffer_of writes answers words r) (ServesPoll piece refuses cut_off reads buffer_of writes answers words) x a y
      reads_blocked None may g = later_goes_on x n y to_here (subst (λ l. AtMost l (serving_rank r x)) (sym same_rank) look.1) g
      reads_blocked (Some Pending) may (found, rest, counts) = polled_later piece refuses cut_off reads buffer_of writes answers words write_laws x m y Pending look.0 pends
        where
          may_still : MayTake y
          may_still = rw rest may

          pends : ServesPoll piece refuses cut_off reads buffer_of writes answers words m Pending y
          pends =
              record {
                turns = pended ∷ [];
                took = WriteMark.pending ∷ [];
                served = serves_both piece refuses cut_off reads buffer_of writes answers words write_laws m n y [] (pended ∷ []) (WriteMark.pending ∷ []) [] waited (pended_only n y found rest);
                reader = λ may_take. ([], refl);
                writer = λ due. ([], refl);
                some = inl may_still;
              }
      reads_blocked (Some (Ready a)) may wrong = absurd wrong

      pub pends_blocked : (MayTake n → ⊥) → y ≡ n → ServesPoll piece refuses cut_off reads buffer_of writes answers words x Pending y
      pends_blocked may_not same =
          subst (λ k. ServesPoll piece refuses cut_off reads buffer_of writes answers words x Pending k) (sym same) (polled_later piece refuses cut_off reads buffer_of writes answers words write_laws x m n Pending look.0 pends)
        where
          pends : ServesPoll piece refuses cut_off reads buffer_of writes answers words m Pending n
          pends =
              record {
                turns = [];
                took = WriteMark.pending ∷ [];
                served = waited;
                reader = λ may. absurd (may_not may);
                writer = λ due. ([], refl);
                some = inr unsent;
              }

  -- Any number of steps, and then the result of the poll.
  pub served_ran : (x y : Server T C O S E) (a : Poll (Result (Unit {0}) (ServingError E)))
      → (m : Server T C O S E) × Reaches (GoesAhead piece refuses cut_off reads buffer_of writes answers words r) x m × ServesPoll piece refuses cut_off reads buffer_of writes answers words m a y → ServesPoll piece refuses cut_off reads buffer_of writes answers words x a y
  served_ran x y a = steps_answer (λ x m y a g. polled_later piece refuses cut_off reads buffer_of writes answers words write_laws x m y a g.went)

  -- A poll that is pending keeps a reader that counts.
  pub poll_counts : (x y : Server T C O S E) (a : Poll (Result (Unit {0}) (ServingError E))) → r.counts x.requests.reader
      → ServesPoll piece refuses cut_off reads buffer_of writes answers words x a y → OnPending a (r.counts y.requests.reader)
  poll_counts x y Pending counts p = serves_counts counting counts p.served
  poll_counts x y (Ready a) counts p = tt

-- The writer took the first `n` of the bytes that wait.
pub wrote_some : {X C O S E : Type 0} (writes : Runs WriteMark O) (x y : Server X C O S E) (n : ℕ) → 0 < n → n ≤ length x.waiting
    → writes x.replies (write_marks (Ready (Ok n)) x.waiting) y.replies
    → y ≡ record x { replies = y.replies; waiting = drop n x.waiting; is_flushed = false } → PutsOut writes x (Ready (Ok true)) y
wrote_some {X = X} {C = C} {O = O} {S = S} {E = E} writes x y n some few came rest =
    let offered : 0 < length x.waiting = omega (arith, some, few) in
    inl (record {
      taken = take n x.waiting;
      some = omega (arith, some, length-take-le n x.waiting few);
      went = subst (λ l. writes x.replies l y.replies) (offered_marks n x.waiting offered) came;
      front = sym (take-append-drop n x.waiting) ∙ ap (λ l. take n x.waiting ++ l) (sym (ap (λ (s : Server X C O S E). s.waiting) rest));
      due = ap (λ (s : Server X C O S E). s.is_flushed) rest;
      stays = record {
        requests = ap (λ (s : Server X C O S E). s.requests) rest;
        responder = ap (λ (s : Server X C O S E). s.responder) rest;
        stop = ap (λ (s : Server X C O S E). s.stop) rest;
        limit = ap (λ (s : Server X C O S E). s.limit) rest;
        error = ap (λ (s : Server X C O S E). s.error) rest;
      };
    })
