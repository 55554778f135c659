use Rattle.std.proofs.Common.{◌≡◌, ◌≤◌, ◌++◌, [], List, vec_capacity}
use Rattle.framed.specs.Uses.{ToldStripped}
use Rattle.framed.proofs.Collecting.{Collected, LastCollected}
use Rattle.framed.specs.Frames.{ended, ending, reading}
use Rattle.framed.proofs.collect.collect_frames.Given as goal

abbrev pub invariant-loop : goal.invariant-loop
invariant-loop g l =
    (goal.iterator-loop g).can_next l.iterator' × (goal.iterator-loop g).is_finite l.iterator'
    × g.T.CountedRead.ranks.counts l.framed.reader
    × (frames : List g.row.D-Item.Denot) × (l.out.items ≡ l.fn.out.items ++ frames)
    × (l.fn.framed.phase ≡ reading → Collected g.D.Decoder.gives (ToldStripped g.T.ReadSpec.reads) l.fn.framed frames l.framed)
    × (l.fn.framed.phase ≡ ending → LastCollected g.D.Decoder.gives l.fn.framed frames l.framed)
    × (l.fn.framed.phase ≡ ended → (l.framed ≡ l.fn.framed) × (frames ≡ []))
    × (vec_capacity l.fn.out ≤ vec_capacity l.out)
