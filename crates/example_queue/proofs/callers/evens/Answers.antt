use Rattle.std.proofs.Common.{rules}
use Rattle.example_queue.specs.QueueLaws.{queue_lists}
use Rattle.example_queue.proofs.callers.evens.Goals as goal

pub returns : goal.returns
returns g c = let lists = queue_lists c.args.queue in search rules
