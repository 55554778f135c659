use Rattle.example_pipeline.proofs.Added.{SoFar}
use Rattle.example_pipeline.proofs.pipeline.add_lines.Given as goal

abbrev pub invariant-loop : goal.invariant-loop
invariant-loop g l =
    (goal.iterator-loop g).can_next l.iterator' × (goal.iterator-loop g).is_finite l.iterator'
    × g.T.CountedRead.ranks.counts l.reader
    × SoFar g.T.ReadSpec.reads g.O.WriteSpec.writes l.fn.reader l.fn.output l.sums l.line l.reader l.output
