use Rattle.std.proofs.Common.{refl}
use Rattle.example_queue.specs.TransferLaws.{fresh_of_items}
use Rattle.example_queue.proofs.make.transfer.Goals as goal

pub returns-clause-value : goal.returns-clause-value
returns-clause-value g c = fresh_of_items g.met.S.Stream.laws _ (rw (c.new.ensures, c.new-2.ensures.items) refl)
