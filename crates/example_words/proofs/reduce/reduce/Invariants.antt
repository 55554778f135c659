use Rattle.example_words.proofs.Runs.{SumsSoFar}
use Rattle.example_words.proofs.reduce.reduce.Given as goal

abbrev pub invariant-loop : goal.invariant-loop
invariant-loop g l =
    (goal.iterator-loop g).can_next l.iterator' × (goal.iterator-loop g).is_finite l.iterator'
    × g.T.CountedRead.ranks.counts l.reader
    × SumsSoFar g.T.ReadSpec.reads g.O.WriteSpec.writes l.fn.reader l.fn.output l.sum l.number l.reader l.output
