use Rattle.example_words.proofs.Runs.{CountsSoFar}
use Rattle.example_words.proofs.map.count_words.Given as goal

abbrev pub invariant-loop : goal.invariant-loop
invariant-loop g l =
    (goal.iterator-loop g).can_next l.iterator' × (goal.iterator-loop g).is_finite l.iterator'
    × g.T.CountedRead.ranks.counts l.reader
    × CountsSoFar g.T.ReadSpec.reads l.fn.reader l.counts l.number l.reader
