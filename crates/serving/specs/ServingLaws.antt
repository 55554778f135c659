-- Laws of serving.
use Rattle.std.specs.Prelude.{◌≡◌, ℕ, Bool, true, List, [], ◌∷◌, ◌++◌, length}
use Rattle.std.specs.Prelude.{Some, Result, Ok, Err}
use Rattle.std.proofs.Common.{append_assoc}
use Rattle.std.proofs.lemmas.Grind.{flat_map-append}
use Rattle.lite_base.specs.Answers.{Gives}
use Rattle.lite_base.specs.FutureLaws.{PolledByCalls}
use Rattle.lite_base.specs.Laws.Calling.{folds_follow}
use Rattle.lite_io_base.specs.Laws.Marks.{taken_both}
use Rattle.lite_write.proofs.Handed.{flushes_both}
use Rattle.lite_base.specs.Answers.{Answer}
use Rattle.serving.specs.Uses.{Advances, FoldsTo, FramesError, LastWords, Lending, MarkLaws, Pending, Poll, Ranks, ReadCounting}
use Rattle.serving.specs.Uses.{ReadMark, Ready, Runs, ServiceStep, WriteMark, WritesAndFlushes, ap}
use Rattle.serving.specs.Uses.{append-nil, arith, bytes_taken, inl, inr, refl, subst, sym, ◌∙◌}
use Rattle.serving.specs.Serving.{AllSent, EndsByStop, Goes, LastIs, LeavesFlushed, ServesPoll, ServesTurns, ServingEnds, WaitsWithin, side_of, value_of}
use Rattle.serving.specs.Turns.{Server, ServingTurn, Side, TakesTurn, answered, ended, looked, pended, refused, said_by, said_in, unanswered, unrefused}
use Rattle.serving.specs.declared.stop.Stop.{Stop}
use Rattle.serving.specs.declared.stop.Stop.TheVariants.{Answered, Ended, Lacked, Refused}
use Rattle.serving.specs.declared.serving_error.ServingError.{ServingError}
use Rattle.serving.specs.declared.serving_error.ServingError.TheVariants.{Input, OutOfMemory, Output}

-- What was flushed before marks without bytes is flushed behind them.
pub flushed_both : (before : Bool) (l m : List WriteMark) (mid : Bool) → (mid ≡ true → LeavesFlushed before l) → LeavesFlushed mid m
    → LeavesFlushed before (l ++ m)
flushed_both before l m mid first (inr (front, behind, cut, none)) =
    inr (l ++ front, behind, ap (λ k. l ++ k) cut ∙ sym (append_assoc l front (WriteMark.flushed ∷ behind)), none)
flushed_both before l m mid first (inl (is, none)) = by (first is)
  where
    by : LeavesFlushed before l → LeavesFlushed before (l ++ m)
    by (inl (was, no_bytes)) = inl (was, taken_both l m ∙ ap (λ k. k ++ bytes_taken m) no_bytes ∙ none)
    by (inr (front, behind, cut, no_bytes)) =
        inr (
          front,
          behind ++ m,
          ap (λ k. k ++ m) cut ∙ append_assoc front (WriteMark.flushed ∷ behind) m,
          taken_both behind m ∙ ap (λ k. k ++ bytes_taken m) no_bytes ∙ none,
        )

module _ {E : Type 0} where
  pub said_both : (l m : List (ServingTurn E)) → said_by (l ++ m) ≡ said_by l ++ said_by m
  said_both = flat_map-append said_in

  pub within_both : (limit : ℕ) (was mid waiting : List ℕ) (l m : List (ServingTurn E)) → WaitsWithin limit was l mid → WaitsWithin limit mid m waiting
      → WaitsWithin limit was (l ++ m) waiting
  within_both limit was mid waiting l m h (inr (before, behind, turn, cut, few)) =
      inr (l ++ before, behind, turn, ap (λ k. l ++ k) cut ∙ sym (append_assoc l before (turn ∷ behind)), few)
  within_both limit was mid waiting l m (inl less) (inl few) = inl (omega (arith, less, few))
  within_both limit was mid waiting l m (inr (before, behind, turn, cut, most)) (inl few) =
      inr (before, behind ++ m, turn, ap (λ k. k ++ m) cut ∙ append_assoc before (turn ∷ behind) m, omega (arith, most, few))

pub ends_later : {A : Type 0} (last : A) (l m : List A) → LastIs last m → LastIs last (l ++ m)
ends_later last l m (before, is) = (l ++ before, ap (λ k. l ++ k) is ∙ sym (append_assoc l before (last ∷ [])))

module _ {T C O S E : Type 0} (piece : C → List ℕ → List ℕ → Type 0) (refuses : C → List ℕ → E → Type 0) (cut_off : C → List ℕ → E → Type 0)
    (reads : Runs ReadMark T) (buffer_of : T → List ℕ) (writes : Runs WriteMark O) (answers : ServiceStep S (List ℕ) ℕ)
    (words : LastWords S (FramesError E) ℕ) (laws : MarkLaws writes) where
  -- Nothing was said, and the writer took no byte.
  pub serves_silent : (x y : Server T C O S E) (turns : List (ServingTurn E)) (took : List WriteMark)
      → FoldsTo (TakesTurn piece refuses cut_off reads buffer_of answers words) (side_of x) turns (side_of y)
      → writes x.replies took y.replies → WritesAndFlushes took → said_by turns ≡ [] → bytes_taken took ≡ [] → y.waiting ≡ x.waiting
      → y.is_flushed ≡ x.is_flushed → y.limit ≡ x.limit → y.error ≡ x.error
      → ServesTurns piece refuses cut_off reads buffer_of writes answers words x turns took y
  serves_silent x y turns took taken went fine silent none waiting flushed limit error =
      record {
        taken = taken;
        went = went;
        fine = fine;
        balanced = ap (λ l. x.waiting ++ l) silent ∙ append-nil x.waiting ∙ sym waiting ∙ ap (λ l. l ++ y.waiting) (sym none);
        flushed = λ is. inl (sym flushed ∙ is, none);
        within = inl (omega (arith, ap length waiting));
        limit = limit;
        error = error;
      }

  pub serves_both : (x m y : Server T C O S E) (l k : List (ServingTurn E)) (took more : List WriteMark)
      → ServesTurns piece refuses cut_off reads buffer_of writes answers words x l took m
      → ServesTurns piece refuses cut_off reads buffer_of writes answers words m k more y
      → ServesTurns piece refuses cut_off reads buffer_of writes answers words x (l ++ k) (took ++ more) y
  serves_both x m y l k took more h g =
      record {
        taken = folds_follow (TakesTurn piece refuses cut_off reads buffer_of answers words) (side_of x) (side_of m) (side_of y) l k h.taken g.taken;
        went = laws.follows x.replies m.replies y.replies took more h.went g.went;
        fine = flushes_both took more h.fine g.fine;
        balanced =
            ap (λ b. x.waiting ++ b) (said_both l k) ∙ sym (append_assoc x.waiting (said_by l) (said_by k))
            ∙ ap (λ b. b ++ said_by k) h.balanced ∙ append_assoc (bytes_taken took) m.waiting (said_by k)
            ∙ ap (λ b. bytes_taken took ++ b) g.balanced ∙ sym (append_assoc (bytes_taken took) (bytes_taken more) y.waiting)
            ∙ ap (λ b. b ++ y.waiting) (sym (taken_both took more));
        flushed = λ is. flushed_both x.is_flushed took more m.is_flushed h.flushed (g.flushed is);
        within = within_both x.limit x.waiting m.waiting y.waiting l k h.within
            (subst (λ n. WaitsWithin n m.waiting k y.waiting) h.limit g.within);
        limit = g.limit ∙ h.limit;
        error = g.error ∙ h.error;
      }

  pub goes_both : (x m y : Server T C O S E) → Goes piece refuses cut_off reads buffer_of writes answers words x m
      → Goes piece refuses cut_off reads buffer_of writes answers words m y → Goes piece refuses cut_off reads buffer_of writes answers words x y
  goes_both x m y (l, took, h) (k, more, g) = (l ++ k, took ++ more, serves_both x m y l k took more h g)

  ends_later_by : (x m y : Server T C O S E) (a : Result (Unit {0}) (ServingError E))
      → Goes piece refuses cut_off reads buffer_of writes answers words x m
      → EndsByStop piece refuses cut_off reads buffer_of writes answers words m a y
      → EndsByStop piece refuses cut_off reads buffer_of writes answers words x a y
  ends_later_by x m y a h (n, stop, g, sent, is, value, same) = (n, stop, goes_both x m n h g, sent, is, value, same)

  -- A poll that goes on where turns were taken.
  pub polled_later : (x m y : Server T C O S E) (a : Poll (Result (Unit {0}) (ServingError E)))
      → Goes piece refuses cut_off reads buffer_of writes answers words x m
      → ServesPoll piece refuses cut_off reads buffer_of writes answers words m a y
      → ServesPoll piece refuses cut_off reads buffer_of writes answers words x a y
  polled_later x m y Pending (l, took, h) p =
      record {
        turns = l ++ p.turns;
        took = took ++ p.took;
        served = serves_both x m y l p.turns took p.took h p.served;
        reader = λ may. ends_later pended l p.turns (p.reader may);
        writer = λ some. ends_later WriteMark.pending took p.took (p.writer some);
        some = p.some;
      }
  polled_later x m y (Ready (Ok u)) h k = ends_later_by x m y (Ok tt) h k
  polled_later x m y (Ready (Err (Input e))) h k = ends_later_by x m y (Err (Input e)) h k
  polled_later x m y (Ready (Err OutOfMemory)) h k = ends_later_by x m y (Err OutOfMemory) h k
  polled_later x m y (Ready (Err (Output kind))) h (n, g, failed) = (n, goes_both x m n h g, failed)

  -- Polls up to a value are one with that value.
  pub waited_for : (x y : Server T C O S E) (ins : List (Poll (Result (Unit {0}) (ServingError E)))) (a : Result (Unit {0}) (ServingError E))
      → Gives ins a → PolledByCalls (ServesPoll piece refuses cut_off reads buffer_of writes answers words) x ins y → ServingEnds piece refuses cut_off reads buffer_of writes answers words x a y
  waited_for x y [] a wrong h = absurd wrong
  waited_for x y (Ready b ∷ ins) a (same, none) h = subst (λ k. ServingEnds piece refuses cut_off reads buffer_of writes answers words x k y) same h.0
  waited_for x y (Pending ∷ ins) a gives (m, p, more) =
      polled_later x m y (Ready a) (p.turns, p.took, p.served) (waited_for m y ins a gives more)

  -- The value of a server that stopped, and has sent all.
  pub ends_now : (x y : Server T C O S E) (stop : Stop E) → AllSent x → x.stop ≡ Some stop → y ≡ record x { stop = Some Ended }
      → ServingEnds piece refuses cut_off reads buffer_of writes answers words x (value_of stop) y
  ends_now x y stop sent is same = by stop is
    where
      none : Goes piece refuses cut_off reads buffer_of writes answers words x x
      none = ([], [], serves_silent x x [] [] refl (laws.rests x.replies) tt refl refl refl refl refl refl)

      by : (s : Stop E) → x.stop ≡ Some s → ServingEnds piece refuses cut_off reads buffer_of writes answers words x (value_of s) y
      by Ended k = (x, Ended, none, sent, k, refl, same)
      by Answered k = (x, Answered, none, sent, k, refl, same)
      by (Refused e) k = (x, Refused e, none, sent, k, refl, same)
      by Lacked k = (x, Lacked, none, sent, k, refl, same)

-- Each turn keeps what reads keep of a reader.
module _ {T C S E : Type 0} (piece : C → List ℕ → List ℕ → Type 0) (refuses : C → List ℕ → E → Type 0) (cut_off : C → List ℕ → E → Type 0)
    (reads : Runs ReadMark T) (buffer_of : T → List ℕ) (answers : ServiceStep S (List ℕ) ℕ) (words : LastWords S (FramesError E) ℕ)
    (P : T → Type 0) (keeps : (s t : T) (l : List ReadMark) → P s → reads s l t → P t) where
  advance_keeps : (x y : Lending T C) (a : Answer (Result (Unit {0}) (FramesError E))) → P x.reader
      → Advances piece refuses cut_off reads buffer_of x a y → P y.reader
  advance_keeps x y a p (inl (_, _, is)) = rw is p
  advance_keeps x y a p (inr (_, xs, last, took, _)) = keeps _ _ _ p took.ran

  turn_keeps : (x y : Side T C S E) (turn : ServingTurn E) → P x.requests.reader
      → TakesTurn piece refuses cut_off reads buffer_of answers words x turn y → P y.requests.reader
  turn_keeps x y looked p (inl (_, wrong, _), _) = cc wrong
  turn_keeps x y looked p (inr (_, xs, (took, _), _), _) = keeps _ _ _ p took.ran
  turn_keeps x y pended p (h, _) = advance_keeps x.requests y.requests _ p h
  turn_keeps x y (answered request said on) p (h, _) = advance_keeps x.requests y.requests _ p h.0
  turn_keeps x y (unanswered request) p (h, _) = advance_keeps x.requests y.requests _ p h.0
  turn_keeps x y (refused e said) p (h, _) = advance_keeps x.requests y.requests _ p h
  turn_keeps x y (unrefused e) p (h, _) = advance_keeps x.requests y.requests _ p h
  turn_keeps x y ended p (h, _) = advance_keeps x.requests y.requests _ p h

  pub turns_keep : (x y : Side T C S E) (turns : List (ServingTurn E)) → P x.requests.reader
      → FoldsTo (TakesTurn piece refuses cut_off reads buffer_of answers words) x turns y → P y.requests.reader
  turns_keep x y [] p h = rw (← h) p
  turns_keep x y (turn ∷ turns) p (m, h, more) = turns_keep m y turns (turn_keeps x m turn p h) more

module _ {T C O S E : Type 0} {piece : C → List ℕ → List ℕ → Type 0} {refuses : C → List ℕ → E → Type 0} {cut_off : C → List ℕ → E → Type 0}
    {reads : Runs ReadMark T} {buffer_of : T → List ℕ} {writes : Runs WriteMark O} {answers : ServiceStep S (List ℕ) ℕ}
    {words : LastWords S (FramesError E) ℕ} {r : Ranks T} (counting : ReadCounting reads r) where
  -- Each turn keeps a reader that counts.
  pub serves_counts : {x y : Server T C O S E} {turns : List (ServingTurn E)} {took : List WriteMark} → r.counts x.requests.reader
      → ServesTurns piece refuses cut_off reads buffer_of writes answers words x turns took y → r.counts y.requests.reader
  serves_counts {x} {y} {turns} c h =
      turns_keep piece refuses cut_off reads buffer_of answers words r.counts (λ s t l c came. counting.counts_on _ _ _ c came)
      (side_of x) (side_of y) turns c h.taken
