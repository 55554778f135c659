use Rattle.example_frames.proofs.Reading.{HasRead}
use Rattle.example_frames.proofs.entries.read_entries.Given as goal

abbrev pub invariant-loop : goal.invariant-loop
invariant-loop g l =
    g.T.CountedRead.ranks.counts l.source × HasRead g.T.ReadSpec.reads l.fn.reader l.entries.items l.source
