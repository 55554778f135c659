-- Laws about a queue that is received from.
use Rattle.std.specs.Prelude.{ℕ, length}
use Rattle.std.specs.List.{FoldsTo}
use Rattle.std.proofs.Common.{arith}
use Rattle.futures_lite.specs.Lists.{Lists}
use Rattle.futures_lite.specs.Own.{ItemsLower, lists_by_steps}
use Rattle.example_queue.specs.Queue.{QueueStep, Queued}

-- How many items wait.
abbrev pub items_waiting : {T : Type 0} → Queued T → ℕ
items_waiting x = length x.waiting

module _ {T : Type 0} where
  pub queue_lowers : ItemsLower (QueueStep {T = T}) items_waiting
  queue_lowers =
      record {
        by_item = λ x y item h. rw h.0 (omega arith);
        by_pending = λ x y h. rw h.2 (omega arith);
        by_end = λ x y h. rw h.2 (omega arith);
      }

  -- The items that wait are those that come.
  pub queue_lists : (x : Queued T) → Lists (FoldsTo QueueStep) x x.waiting
  queue_lists =
      lists_by_steps QueueStep (λ x. x.waiting) (λ x y h. rw h.2) (λ x y item h. h.0) (λ x y h. h.0)
