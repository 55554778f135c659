use Rattle.std.proofs.Common.{◌≡◌, ◌-◌, length, false}
use Rattle.futures_lite.specs.Contexts.{Keeps}
use Rattle.example_queue.specs.Tasks.{Sends}
use Rattle.example_queue.proofs.sender.Sender.poll_send.Given as goal

abbrev pub invariant-loop-item : goal.invariant-loop-item
invariant-loop-item g l =
    g.S.Stream.can_poll l.self.source × Keeps l.initial.cx l.cx × (l.queue.is_closed ≡ false)
    × ((a : _) (y : _) (r : _) → Sends g.S.Stream.run l.self l.queue a y r
    → Sends g.S.Stream.run l.initial.self l.initial.queue a y r)

abbrev pub decreases-loop-item : goal.decreases-loop-item
decreases-loop-item g l = l.queue.bound - length l.queue.waiting
