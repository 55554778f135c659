-- One poll of a transfer: the sender's turn, and then the receiver's.
use Rattle.std.specs.Prelude.{◌≡◌, List, [], ◌∷◌, ◌++◌, Result, Ok, Err, true, false, refl}
use Rattle.std.specs.Global.{Vec}
use Rattle.std.specs.Option.{option_to_list}
use Rattle.std.specs.declared.alloc.AllocError.{AllocError}
use Rattle.std.proofs.Common.{append-nil, append_assoc, ap, sym, ◌∙◌}
use Rattle.futures_lite.specs.Answers.{Answer, Pending, Poll, Ready, end, items_in}
use Rattle.futures_lite.specs.Laws.Answers.{up_to_one}
use Rattle.futures_lite.specs.Own.{Runs, StepsToValue}
use Rattle.example_queue.specs.Queue.{Queued}
use Rattle.example_queue.specs.Tasks.{Sends}
use Rattle.example_queue.specs.Transfer.{ReceivesAll, TransferStep}
use Rattle.example_queue.specs.declared.sender.Sender.{Sender}
use Rattle.example_queue.specs.declared.transfer.Transfer.{Transfer}

moved : {T : Type 0} (a b c d e : List T) → (b ++ c) ++ d ≡ e → ((a ++ b) ++ c) ++ d ≡ a ++ e
moved a b c d e same = simp append_assoc (ap (λ l. a ++ l) (rw append_assoc at same))

module _ {S T : Type 0} (run : Runs (Answer T) S) (x y : Transfer S T) (s : Sender S T) (q : Queued T)
    (goes : x.queue.is_closed ≡ false) (same : y.sender ≡ s) where
  -- the source is not at its end
  waits : (a : Poll (Result (Vec T) AllocError)) → Sends run x.sender x.queue Pending s q
      → ReceivesAll x.receiver.received.items q a y.receiver.received.items y.queue
      → TransferStep run x a y
  waits Pending h k = (
    h.0,
    h.1,
    rw same h.2,
    moved x.receiver.received.items x.queue.waiting (option_to_list x.sender.held) (items_in h.0) _ h.3
        ∙ rw (k.0, k.2, same) (simp (append-nil, append_assoc)),
    rw k.2 k.1,
  )
  waits (Ready (Ok v)) h k = absurd (
      let e : q.is_closed ≡ false = ap (λ (t : Queued T). t.is_closed) h.4 ∙ goes in
      let d = k.1 in cc)
  waits (Ready (Err e)) h k = (h.0, rw same h.2)

  -- the source is at its end
  done : (a : Poll (Result (Vec T) AllocError)) → Sends run x.sender x.queue (Ready (Ok tt)) s q
      → ReceivesAll x.receiver.received.items q a y.receiver.received.items y.queue
      → TransferStep run x a y
  done Pending h k = absurd (
      let e : q.is_closed ≡ true = ap (λ (t : Queued T). t.is_closed) h.4 in
      let d = k.1 in cc)
  done (Ready (Ok v)) h k = (
    h.0,
    h.1,
    rw same h.2,
    k.0
        ∙ sym (moved x.receiver.received.items x.queue.waiting (option_to_list x.sender.held) (items_in h.0) _ h.3),
  )
  done (Ready (Err e)) h k = (h.0 ++ end ∷ [], rw same h.2)

  pub waits_step : (a : Poll (Result (Vec T) AllocError)) → Sends run x.sender x.queue Pending s q
      → ReceivesAll x.receiver.received.items q a y.receiver.received.items y.queue
      → StepsToValue (TransferStep run) x (a ∷ []) y
  waits_step a h k = (up_to_one a, (y, waits a h k, refl))

  pub done_step : (a : Poll (Result (Vec T) AllocError)) → Sends run x.sender x.queue (Ready (Ok tt)) s q
      → ReceivesAll x.receiver.received.items q a y.receiver.received.items y.queue
      → StepsToValue (TransferStep run) x (a ∷ []) y
  done_step a h k = (up_to_one a, (y, done a h k, refl))
