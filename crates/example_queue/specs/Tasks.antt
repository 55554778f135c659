-- The two tasks at a queue, each of which has it for a while.
use Rattle.std.specs.Prelude.{◌≡◌, ◌⊎◌, ⊤, List, [], ◌∷◌, ◌++◌, Option, None, Some, Result, Ok, Err, true, false}
use Rattle.std.specs.Option.{option_to_list}
use Rattle.std.specs.declared.alloc.AllocError.{AllocError}
use Rattle.futures_lite.specs.Answers.{Answer, Endless, Pending, Poll, Ready, end, item, items_in}
use Rattle.futures_lite.specs.Contexts.{HoldsWoken, Lasting}
use Rattle.futures_lite.specs.Own.{Runs}
use Rattle.example_queue.specs.Queue.{Queued}
use Rattle.example_queue.specs.declared.sender.Sender.{Sender}

-- What the receiving task did with the queue `q`: it moved all items that waited to the end of `got`. It goes on while
-- the queue is open.
abbrev pub Receives : {T : Type 0} → List T → Queued T → Poll (Result (Unit {0}) AllocError) → List T → Queued T → Type 0
Receives got q Pending now r = (now ≡ got ++ q.waiting) × (q.is_closed ≡ false) × (r ≡ record q { waiting = [] })
Receives got q (Ready (Ok done)) now r = (now ≡ got ++ q.waiting) × (q.is_closed ≡ true) × (r ≡ record q { waiting = [] })
Receives got q (Ready (Err e)) now r = ⊤

-- What a `Pending` has registered, by the item that is held after it. If one is held, which a full queue handed back,
-- the sending task is woken. Otherwise it is what the source registers.
abbrev pub RegistersHeld : {T : Type 0} → Option T → (Lasting → Type 0) → Lasting → Type 0
RegistersHeld None source = source
RegistersHeld (Some item) source = HoldsWoken

-- What a `Pending` of the sending task has registered, from what its source registers.
abbrev pub SenderRegisters : {S T : Type 0} → (S → Lasting → Type 0) → Sender S T → Lasting → Type 0
SenderRegisters registers x = RegistersHeld x.held (registers x.source)

module _ {S T : Type 0} (run : Runs (Answer T) S) where
  -- One result for the item that is to be sent next: the one that was handed back, or the source's next one.
  abbrev pub NextToSend : Sender S T → Answer T → Sender S T → Type 0
  NextToSend x (Ready (Some v)) y = (y.held ≡ None)
      × (((x.held ≡ Some v) × (y.source ≡ x.source)) ⊎ ((x.held ≡ None) × run x.source (item v ∷ []) y.source))
  NextToSend x a y = (x.held ≡ None) × (y.held ≡ None) × run x.source (a ∷ []) y.source

  -- What the sending task did with the queue `q`. The items that waited, the one that was handed back and those that
  -- the source yielded are those that wait now, and the one that was handed back now, in this order. It is done at the
  -- end of the source, and closes the queue.
  abbrev pub Sends : Sender S T → Queued T → Poll (Result (Unit {0}) AllocError) → Sender S T → Queued T → Type 0
  Sends x q Pending y r =
      (ins : List (Answer T)) × Endless ins × run x.source ins y.source
      × (q.waiting ++ option_to_list x.held ++ items_in ins ≡ r.waiting ++ option_to_list y.held)
      × (r ≡ record q { waiting = r.waiting })
  Sends x q (Ready (Ok done)) y r =
      (ins : List (Answer T)) × Endless ins × run x.source (ins ++ end ∷ []) y.source
      × (q.waiting ++ option_to_list x.held ++ items_in ins ≡ r.waiting)
      × (r ≡ record q { waiting = r.waiting; is_closed = true })
  Sends x q (Ready (Err e)) y r = (ins : List (Answer T)) × run x.source ins y.source
