-- Laws about `stop_after_future`.
use Rattle.std.specs.Prelude.{false, IfSome, ◌≡◌, ℕ, List, [], ◌∷◌, ◌++◌, length, Option, Some, None}
use Rattle.std.proofs.Common.{◌≤◌, subst}
use Rattle.futures.specs.Task.{Lasting}
use Rattle.lite_base.specs.Armed.{Arms, EndsPending}
use Rattle.lite_base.specs.Laws.Armed.{no_pends}
use Rattle.lite_merge.specs.Uses.{inl, ◌∙◌, length-append, refl, ap, sym, arith, append_assoc, Poll, Pending, Answer}
use Rattle.lite_merge.specs.Uses.{before_end, end, items, same_hint, PollsOn, StreamLaws, endless_join, Hints, Runs}
use Rattle.lite_merge.specs.Uses.{AllEnds, Relating, laws_capped}
use Rattle.lite_base.specs.FutureLaws.{FutureLaws}
use Rattle.lite_base.specs.Laws.Answers.{all_append, waiting_waiting}
use Rattle.lite_base.specs.Laws.Spent.{finishes_later}
use Rattle.lite_base.specs.Laws.FutureLaws.{future_runs_of}
use Rattle.lite_stream.specs.Laws.Calming.{Calming}
use Rattle.std.proofs.lemmas.List.{append-nil}
use Rattle.lite_merge.specs.Laws.Ends.{ends_before, ends_bounded, ends_calm, ends_last, ends_no_pending, ends_lower, no_end_among}
use Rattle.lite_merge.specs.StopAfterFuture.{PendingBeside, Stops, StopsBy, ThenEnds}
use Rattle.lite_merge.specs.Stopping.{CanStop, HintsBy, RegistersBy, StopHints, StopRegisters, future_of, stop_parts}
use Rattle.lite_merge.specs.declared.stop_after_future.StopAfterFuture.{StopAfterFuture}
use Rattle.lite_merge.specs.declared.stop_after_future.Stopping.TheVariants.{Holding, TakenOut, Stopped}
use Rattle.lite_merge.specs.declared.stop_after_future.Stopping.{Stopping}

-- One poll in which the future was pending.
pub beside_one : {F A R : Type 0} (run : Runs (Poll R) F) (f g : F) (a : Answer A) → run f (Pending ∷ []) g
    → PendingBeside run f (a ∷ []) g
beside_one run f g a came = record { told = Pending ∷ []; waiting = tt; came = came; rows = refl }

none_told : {R : Type 0} (told : List R) → length told ≡ 0 → told ≡ []
none_told [] e = refl
none_told (a ∷ told) e = absurd (omega (arith, e))

stops_rest : {F R : Type 0} (A : Type 0) {can_poll : F → Type 0} {run : Runs (Poll R) F} → FutureLaws can_poll run
    → (f : Stopping F R)
    → StopsBy {A = A} run f [] [] f
stops_rest A laws (Holding f) = (record { told = []; waiting = tt; came = laws.rests f; rows = refl }, refl, refl)
stops_rest A laws TakenOut = (refl, refl)
stops_rest A laws (Stopped r) = (refl, tt, refl)

module _ {F A R : Type 0} {can_poll : F → Type 0} {run : Runs (Poll R) F} (laws : FutureLaws can_poll run) where
  module _ (f g : F) where
    beside_join : (k : F) (i j : List (Answer A)) → PendingBeside run f i g → PendingBeside run g j k
        → PendingBeside run f (i ++ j) k
    beside_join k i j h d =
        record {
          told = h.told ++ d.told;
          waiting = waiting_waiting h.told d.told h.waiting d.waiting;
          came = laws.follows f g k h.told d.told h.waiting h.came d.came;
          rows = omega (arith, h.rows, d.rows, length-append h.told d.told, length-append i j);
        }

  none_out : (i l : List (Answer A)) → [] ≡ i ++ end ∷ l → ⊥
  none_out [] l e = cc
  none_out (a ∷ i) l e = cc

  stops_stay : (f g : Stopping F R) (i : List (Answer A)) → StopsBy run f i [] g → (i ≡ []) × (g ≡ f)
  stops_stay TakenOut g i h = (sym h.0, h.1)
  stops_stay (Stopped r) g i h = (h.0, h.2)
  stops_stay (Holding f) (Holding g) i h =
      (sym h.2, ap Holding (laws.stays f g (rw (none_told h.0.told (rw (← h.2) at h.0.rows)) at h.0.came)))
  stops_stay (Holding f) (Stopped (Some value)) i h = absurd (none_out i h.goes_out.0 (rw append_assoc at h.goes_out.2))
  stops_stay (Holding f) (Stopped None) i h =
      absurd (none_out h.own h.goes_out.0 (rw (h.through_end, append_assoc) at h.goes_out.2))
  stops_stay (Holding f) TakenOut i h = absurd h

  -- More ends may follow.
  ends_on : (i m : List (Answer A)) {o : List (Answer A)} → ThenEnds i o → AllEnds m → ThenEnds i (o ++ m)
  ends_on i m h d = (h.0 ++ m, all_append (λ a. a ≡ end) h.0 m h.1 d, rw (h.2, append_assoc) refl)

  -- More results may come first.
  ends_after : (j : List (Answer A)) {i l m : List (Answer A)} → l ≡ i → ThenEnds j m → ThenEnds (i ++ j) (l ++ m)
  ends_after j e h = (h.0, h.1, rw (e, h.2, append_assoc) refl)

  stops_join : (f g k : Stopping F R) (i j l m : List (Answer A)) → StopsBy run f i l g → StopsBy run g j m k
      → StopsBy run f (i ++ j) (l ++ m) k
  stops_join TakenOut g k i j l m h d = let e = rw h.1 at d in (rw (h.0, e.0), e.1)
  stops_join (Stopped r) g k i j l m h d =
      let e = rw h.2 at d in
      (rw (h.0, e.0), all_append (λ a. a ≡ end) l m h.1 e.1, e.2)
  -- A run after the stream was stopped.
  stops_join (Holding f) (Stopped (Some value)) k i j l m h d =
      rw (d.2, d.0, append-nil)
      record {
        told = h.told;
        finishes = h.finishes;
        rows = h.rows;
        endless = h.endless;
        goes_out = ends_on _ m h.goes_out d.1;
      }
  stops_join (Holding f) (Stopped None) k i j l m h d =
      rw (d.2, d.0, append-nil)
      record {
        last = h.last;
        beside = h.beside;
        own = h.own;
        endless = h.endless;
        through_end = h.through_end;
        goes_out = ends_on _ m h.goes_out d.1;
      }
  -- A run before the stream was stopped.
  stops_join (Holding f) (Holding g) (Holding k) i j l m h d =
      (beside_join f g k i j h.0 d.0, endless_join i j h.1 d.1, rw (h.2, d.2))
  stops_join (Holding f) (Holding g) (Stopped (Some value)) i j l m h d =
      record {
        told = h.0.told ++ d.told;
        finishes = finishes_later (future_runs_of laws) f g h.0.told d.told value h.0.waiting h.0.came d.finishes;
        rows = omega (arith, h.0.rows, d.rows, length-append h.0.told d.told, length-append i j);
        endless = endless_join i j h.1 d.endless;
        goes_out = rw append_assoc (ends_after _ h.2 d.goes_out);
      }
  stops_join (Holding f) (Holding g) (Stopped None) i j l m h d =
      record {
        last = d.last;
        beside = beside_join f g d.last i j h.0 d.beside;
        own = i ++ d.own;
        endless = endless_join i d.own h.1 d.endless;
        through_end = rw (d.through_end, append_assoc) refl;
        goes_out = ends_after j h.2 d.goes_out;
      }
  stops_join (Holding f) (Holding g) TakenOut i j l m h d = absurd d
  stops_join (Holding f) TakenOut k i j l m h d = absurd h

  -- The results are the source's results, and then ends of stream. If the value stopped the stream, the poll that
  -- returned it returned the first of these.
  ends_behind : (f g : Stopping F R) (i o : List (Answer A)) → StopsBy run f i o g → ThenEnds i o
  ends_behind TakenOut g i o h = ([], tt, h.0 ∙ sym (append-nil i))
  ends_behind (Stopped r) g i o h = (o, h.1, ap (λ l. l ++ o) (sym h.0))
  ends_behind (Holding f) (Holding g) i o h = ([], tt, h.2 ∙ sym (append-nil i))
  ends_behind (Holding f) (Stopped (Some value)) i o h =
      (end ∷ h.goes_out.0, (refl, h.goes_out.1), rw append_assoc at h.goes_out.2)
  ends_behind (Holding f) (Stopped None) i o h = h.goes_out
  ends_behind (Holding f) TakenOut i o h = absurd h

  came_of : (i later : List (Answer A)) (l : List A) → AllEnds later → items l ≡ i ++ later → i ≡ items l
  came_of i [] l h e = sym (e ∙ append-nil i)
  came_of i (a ∷ later) l h e = absurd (no_end_among i later l (e ∙ ap (λ b. i ++ b ∷ later) h.0))

  pub stops_relating : Relating (StopsBy {A = A} run)
  stops_relating =
      record {
        following = record { starts = stops_rest A laws; empty = stops_stay; joins = stops_join };
        bounds = λ f g i o h. let e = ends_behind f g i o h in rw e.2 (ends_bounded i e.0 e.1);
        lowers = λ f g i o xs ys h k. let e = ends_behind f g i o h in rw e.2 (ends_lower i e.0 xs ys e.1 k);
        from_items = λ f g i y l h.
            let e = ends_behind f g i (items (y ∷ l)) h in (y, l, came_of i e.0 (y ∷ l) e.1 e.2);
      }

  pub stops_calming : Calming (StopsBy {A = A} run)
  stops_calming f g i o h = let e = ends_behind f g i o h in rw e.2 (ends_calm i e.0 e.1)

module _ {S F A R : Type 0} {run : Runs (Answer A) S} {run' : Runs (Poll R) F} {can_poll : S → Type 0}
    {hints : Hints S} {can_future : F → Type 0} (laws : StreamLaws can_poll run hints)
    (laws' : FutureLaws can_future run') where
  future_on : (x y : Stopping F R) (i o : List (Answer A)) → IfSome (future_of x) can_future → StopsBy run' x i o y
      → IfSome (future_of y) can_future
  future_on TakenOut y i o c h = rw h.1 tt
  future_on (Stopped r) y i o c h = rw h.2 tt
  future_on (Holding f) (Holding g) i o c h = laws'.waits_on f g h.0.told h.0.waiting c h.0.came
  future_on (Holding f) (Stopped r) i o c h = tt
  future_on (Holding f) TakenOut i o c h = tt

  -- Such a stream may be polled after any run.
  stop_on : PollsOn (CanStop can_poll can_future) (Stops run run')
  stop_on x y l c h =
      (laws.polls_on x.stream y.stream h.ins c.0 h.came, future_on x.future y.future h.ins l c.1 h.related)

  capped : StreamLaws (CanStop can_poll can_future) (Stops run run')
      (λ (m : StopAfterFuture S F R) hint. (inner : ℕ × Option ℕ) × hints m.stream inner × (hint ≡ (0, inner.1)))
  capped = laws_capped stop_parts laws (stops_relating laws') stop_on

  stop_bounded : (x y : StopAfterFuture S F R) (hint : ℕ × Option ℕ) (l : List (Answer A)) (f : Stopping F R)
      → x.future ≡ f → HintsBy (hints x.stream) f hint → Stops run run' x l y
      → IfSome hint.1 (λ most. before_end l ≤ most)
  stop_bounded x y hint l (Stopped r) is h k =
      same_hint hint (0, Some 0) l h (ends_before l (rw is at k.related).1)
  stop_bounded x y hint l f is h k = capped.bounded x y hint l h k

  pub stop_laws : StreamLaws (CanStop can_poll can_future) (Stops run run') (StopHints {F = F} {R = R} hints)
  stop_laws =
      record {
        rests = capped.rests;
        stays = capped.stays;
        follows = capped.follows;
        bounded = λ x y hint l h k. stop_bounded x y hint l x.future refl h k;
        polls_on = stop_on;
      }

not_pending_after : {A : Type 0} (i l : List (Answer A)) → EndsPending l → ThenEnds (i ++ end ∷ []) l → ⊥
not_pending_after i l e h = ends_last i h.0 h.1 (rw append_assoc at (rw h.2 at e))

-- A stream that is stopped by a future is armed if it is without the future.
module _ {S F A R : Type 0} {run : Runs (Answer A) S} (run' : Runs (Poll R) F) {registers : S → Lasting → Type 0}
    (a : Arms run registers) (registers' : F → Lasting → Type 0) where
  stopped_armed : (x y : Stopping F R) (s t : S) (i l : List (Answer A)) → run s i t → StopsBy run' x i l y
      → EndsPending l → RegistersBy (registers t Lasting.armed) (λ f. registers' f Lasting.armed) y
  stopped_armed TakenOut y s t i l came h e = rw h.1 (a.at s t i (rw h.0 at e) came)
  stopped_armed (Stopped r) y s t i l came h e = absurd (cc (no_pends false l (ends_no_pending l h.1) e))
  stopped_armed (Holding f) (Holding g) s t i l came h e = inl (a.at s t i (rw h.2 at e) came)
  stopped_armed (Holding f) (Stopped (Some value)) s t i l came h e = absurd (not_pending_after i l e h.goes_out)
  stopped_armed (Holding f) (Stopped None) s t i l came h e =
      absurd (not_pending_after h.own l e (subst (λ k. ThenEnds k l) h.through_end h.goes_out))
  stopped_armed (Holding f) TakenOut s t i l came h e = absurd h

  pub stop_arms : Arms (Stops run run') (StopRegisters {R = R} registers registers')
  stop_arms =
      record { at = λ x y l e h. stopped_armed x.future y.future x.stream y.stream h.ins l h.came h.related e }
