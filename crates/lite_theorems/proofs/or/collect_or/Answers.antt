use Rattle.std.specs.Prelude.{[]}
use Rattle.lite_theorems.specs.Uses.{LacksRoom}
use Rattle.lite_theorems.specs.Laws.Collected.{has, or_collected}
use Rattle.lite_theorems.proofs.or.collect_or.Goals as goal

pub returns-clause-whole : goal.returns-clause-whole
returns-clause-whole g c =
    let made = c.collect.ensures in
    let is = has g.C.Gather.holds _ [] made.«open» made.empty in
    or_collected g.S1.Stream.run g.S2.Stream.run g.met.S1.Stream.laws.stays g.met.S2.Stream.laws.stays
    (LacksRoom g.C.Gather.has_room) g.C.Gather.holds c.collect.result [] is
