-- One turn of a task's loop, and then the others.
use Rattle.std.specs.Prelude.{◌≡◌, ◌⊎◌, List, [], ◌∷◌, ◌++◌, None, Some, Result, Ok, Err, true, false, refl}
use Rattle.std.specs.List.{FoldsTo}
use Rattle.std.specs.Option.{option_to_list}
use Rattle.std.specs.declared.alloc.AllocError.{AllocError}
use Rattle.std.proofs.Common.{append-nil, append_assoc, ap, inl, inr, subst, sym, ◌∙◌}
use Rattle.futures_lite.specs.Answers.{Answer, Endless, Pending, Poll, Ready, end, item, items_in}
use Rattle.futures_lite.specs.Own.{Hints, Runs}
use Rattle.futures_lite.specs.Runs.{StreamLaws}
use Rattle.example_queue.specs.Queue.{QueueStep, Queued}
use Rattle.example_queue.specs.Tasks.{NextToSend, Receives, Sends}
use Rattle.example_queue.specs.declared.sender.Sender.{Sender}

module _ {T : Type 0} where
  -- a send leaves an open queue open
  pub stays_open : (q r : Queued T) (v : T) → r ≡ record q { waiting = q.waiting ++ v ∷ [] } → q.is_closed ≡ false
      → r.is_closed ≡ false
  stays_open q r v sent open_now = rw sent open_now

  one_step : (q m : Queued T) (a : Answer T) → FoldsTo QueueStep q (a ∷ []) m → QueueStep q a m
  one_step q m a h = subst (QueueStep q a) h.2 h.1

  emptied : (q m : Queued T) → q.waiting ≡ [] → m ≡ q → m ≡ record q { waiting = [] }
  emptied q m none same = same ∙ ap (λ (w : List T). record q { waiting = w }) none

  -- an item was received, and then the others
  pub receives_more : (got now : List T) (v : T) (q m r : Queued T) (a : Poll (Result (Unit {0}) AllocError))
      → FoldsTo QueueStep q (Ready (Some v) ∷ []) m → Receives (got ++ v ∷ []) m a now r → Receives got q a now r
  receives_more got now v q m r a h = by a (one_step q m (Ready (Some v)) h)
    where
      by : (b : Poll (Result (Unit {0}) AllocError)) → QueueStep q (Ready (Some v)) m
          → Receives (got ++ v ∷ []) m b now r → Receives got q b now r
      by Pending s k = (
        k.0 ∙ rw s.0 (append_assoc got (v ∷ []) m.waiting),
        rw s.1 at k.1,
        k.2 ∙ ap (λ (t : Queued T). record t { waiting = [] }) s.1,
      )
      by (Ready (Ok done)) s k = (
        k.0 ∙ rw s.0 (append_assoc got (v ∷ []) m.waiting),
        rw s.1 at k.1,
        k.2 ∙ ap (λ (t : Queued T). record t { waiting = [] }) s.1,
      )
      by (Ready (Err e)) s k = tt

  pub receives_pending : (got : List T) (q m : Queued T) → FoldsTo QueueStep q (Pending ∷ []) m
      → Receives got q Pending got m
  receives_pending got q m h =
      let s = one_step q m Pending h in (rw (s.0, append-nil) refl, s.1, emptied q m s.0 s.2)

  pub receives_end : (got : List T) (q m : Queued T) → FoldsTo QueueStep q (end ∷ []) m
      → Receives got q (Ready (Ok tt)) got m
  receives_end got q m h = let s = one_step q m end h in (rw (s.0, append-nil) refl, s.1, emptied q m s.0 s.2)

module _ {S T : Type 0} {run : Runs (Answer T) S} {can_poll : S → Type 0} {hints : Hints S} (laws : StreamLaws can_poll run hints) where
  -- what the source returned for the item, if anything
  record Front (x m : Sender S T) (v : T) : Type 0 where
    before : List (Answer T)
    came : run x.source before m.source
    endless : (ins : List (Answer T)) → Endless ins → Endless (before ++ ins)
    first : (ins : List (Answer T)) → option_to_list x.held ++ items_in (before ++ ins) ≡ v ∷ items_in ins

  front : (x m : Sender S T) (v : T) → NextToSend run x (Ready (Some v)) m → Front x m v
  front x m v h = by h.1
    where
      by : ((x.held ≡ Some v) × (m.source ≡ x.source)) ⊎ ((x.held ≡ None) × run x.source (item v ∷ []) m.source)
          → Front x m v
      by (inl k) =
          record {
            before = [];
            came = subst (λ s. run x.source [] s) (sym k.1) (laws.rests x.source);
            endless = λ ins e. e;
            first = λ ins. rw k.0 refl;
          }
      by (inr k) =
          record {
            before = item v ∷ [];
            came = k.1;
            endless = λ ins e. ap (λ l. item v ∷ l) e;
            first = λ ins. rw k.0 refl;
          }

  -- an item was sent, and then the others
  pub sends_more : (x m y : Sender S T) (v : T) (q n r : Queued T) (a : Poll (Result (Unit {0}) AllocError))
      → NextToSend run x (Ready (Some v)) m → n ≡ record q { waiting = q.waiting ++ v ∷ [] } → Sends run m n a y r
      → Sends run x q a y r
  sends_more x m y v q n r a taken sent h = by a (front x m v taken) (subst (λ t. Sends run m t a y r) sent h)
    where
      moved : (f : Front x m v) (ins : List (Answer T))
          → q.waiting ++ option_to_list x.held ++ items_in (f.before ++ ins)
          ≡ (q.waiting ++ v ∷ []) ++ option_to_list m.held ++ items_in ins
      moved f ins =
          append_assoc q.waiting (option_to_list x.held) (items_in (f.before ++ ins))
          ∙ ap (λ l. q.waiting ++ l) (f.first ins) ∙ rw taken.0 (simp (append_assoc, append-nil))

      by : (b : Poll (Result (Unit {0}) AllocError)) → Front x m v
          → Sends run m (record q { waiting = q.waiting ++ v ∷ [] }) b y r → Sends run x q b y r
      by Pending f k = (
        f.before ++ k.0,
        f.endless k.0 k.1,
        laws.follows x.source m.source y.source f.before k.0 f.came k.2,
        moved f k.0 ∙ k.3,
        k.4,
      )
      by (Ready (Ok done)) f k = (
        f.before ++ k.0,
        f.endless k.0 k.1,
        rw append_assoc (laws.follows x.source m.source y.source f.before (k.0 ++ end ∷ []) f.came k.2),
        moved f k.0 ∙ k.3,
        k.4,
      )
      by (Ready (Err e)) f k = (
        f.before ++ k.0,
        laws.follows x.source m.source y.source f.before k.0 f.came k.1,
      )

  -- the source was pending
  pub sends_pending : (x m : Sender S T) (q : Queued T) → NextToSend run x Pending m → Sends run x q Pending m q
  sends_pending x m q h = (Pending ∷ [], refl, h.2, rw (h.0, h.1) (simp append-nil), refl)

  -- the source ended
  pub sends_end : (x m : Sender S T) (q r : Queued T) → NextToSend run x end m → r ≡ record q { is_closed = true }
      → Sends run x q (Ready (Ok tt)) m r
  sends_end x m q r h closed =
      subst (λ t. Sends run x q (Ready (Ok tt)) m t) (sym closed)
      ([], refl, h.2, rw h.0 (simp append-nil), refl)

  -- the item was refused
  pub sends_refused : (x m y : Sender S T) (v : T) (q : Queued T) → NextToSend run x (Ready (Some v)) m
      → y ≡ record m { held = Some v } → Sends run x q Pending y q
  sends_refused x m y v q taken held =
      let f = front x m v taken in (
        f.before,
        rw append-nil at (f.endless [] refl),
        rw held f.came,
        rw held (append_assoc q.waiting (option_to_list x.held) (items_in f.before)
            ∙ ap (λ l. q.waiting ++ l) (rw append-nil at (f.first []))),
        refl,
      )

  pub sends_failed : (x m y : Sender S T) (v : T) (q r : Queued T) (e : AllocError) → NextToSend run x (Ready (Some v)) m
      → y.source ≡ m.source → Sends run x q (Ready (Err e)) y r
  sends_failed x m y v q r e taken same = let f = front x m v taken in (f.before, rw same f.came)
