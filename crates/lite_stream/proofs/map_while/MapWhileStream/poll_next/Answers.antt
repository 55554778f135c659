use Rattle.lite_stream.specs.Uses.{rules, each_again, each_here}
use Rattle.lite_stream.proofs.map_while.MapWhileStream.poll_next.Goals as goal

pub f-requires : goal.f-requires
f-requires g c = each_here c.requires.1 c.poll_next.ensures.ran (search rules)

pub returns-in-Some-clause-again : goal.returns-in-Some-clause-again
returns-in-Some-clause-again g c =
    let e = c.poll_next.ensures in each_again g.met.S.Stream.laws c.requires.1 e.ran (search rules) c.f.ensures e.again
