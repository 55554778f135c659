use Rattle.std.proofs.Common.{refl}
use Rattle.example_own.proofs.merge_sorted.MergeSortedStream.poll_next.Goals as goal

pub returns-clause-ran : goal.returns-clause-ran
returns-clause-ran g c = (_, (_, _, c.fill.ensures.filled, c.fill-2.ensures.filled, c.yield_next.ensures), refl)
