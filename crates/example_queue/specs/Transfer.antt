-- A queue that is lent to two tasks in turn.
use Rattle.std.specs.Prelude.{◌≡◌, ⊤, List, [], ◌∷◌, ◌++◌, Result, Ok, Err, true, false}
use Rattle.std.specs.Option.{option_to_list}
use Rattle.std.specs.declared.alloc.AllocError.{AllocError}
use Rattle.std.specs.Global.{Vec}
use Rattle.futures_lite.specs.Answers.{Answer, Endless, Pending, Poll, Ready, end, items_in}
use Rattle.futures_lite.specs.Own.{Runs}
use Rattle.example_queue.specs.Queue.{Queued}
use Rattle.example_queue.specs.declared.transfer.Transfer.{Transfer}

-- What a turn of the receiver returns: at the end of the queue all that was received.
abbrev pub ReceivesAll : {T : Type 0} → List T → Queued T → Poll (Result (Vec T) AllocError) → List T → Queued T
    → Type 0
ReceivesAll got q Pending now r = (now ≡ got ++ q.waiting) × (q.is_closed ≡ false) × (r ≡ record q { waiting = [] })
ReceivesAll got q (Ready (Ok v)) now r = (v.items ≡ got ++ q.waiting) × (q.is_closed ≡ true)
ReceivesAll got q (Ready (Err e)) now r = ⊤

-- The items that have come so far: those that were received, those in the queue, and the one that was handed back.
abbrev pub come : {S T : Type 0} → Transfer S T → List T
come x = x.receiver.received.items ++ x.queue.waiting ++ option_to_list x.sender.held

module _ {S T : Type 0} (run : Runs (Answer T) S) where
  -- One poll of the transfer `x`, in which the source returned `ins`. A `Pending` keeps the items in their order, and
  -- leaves the queue open. The value is all items, once the source has ended.
  abbrev pub TransferStep : Transfer S T → Poll (Result (Vec T) AllocError) → Transfer S T → Type 0
  TransferStep x Pending y =
      (ins : List (Answer T)) × Endless ins × run x.sender.source ins y.sender.source
      × (come x ++ items_in ins ≡ come y) × (y.queue.is_closed ≡ false)
  TransferStep x (Ready (Ok v)) y =
      (ins : List (Answer T)) × Endless ins × run x.sender.source (ins ++ end ∷ []) y.sender.source
      × (v.items ≡ come x ++ items_in ins)
  TransferStep x (Ready (Err e)) y = (ins : List (Answer T)) × run x.sender.source ins y.sender.source
