use Rattle.std.proofs.Common.{length}
use Rattle.futures_lite.specs.Contexts.{Keeps}
use Rattle.example_queue.specs.Tasks.{Receives}
use Rattle.example_queue.proofs.receiver.Receiver.poll_receive.Given as goal

abbrev pub invariant-loop-item : goal.invariant-loop-item
invariant-loop-item g l =
    Keeps l.initial.cx l.cx
    × ((a : _) (now : _) (r : _) → Receives l.self.received.items l.queue a now r
    → Receives l.initial.self.received.items l.initial.queue a now r)

abbrev pub decreases-loop-item : goal.decreases-loop-item
decreases-loop-item g l = length l.queue.waiting
