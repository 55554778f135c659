use Rattle.lite_consume.proofs.Given.{given_on, lent_each, lent_given, lent_stays}
use Rattle.lite_consume.proofs.block_on.BlockOn.ask.Goals as goal

pub wait_for-requires : goal.wait_for-requires
wait_for-requires g c =
    rw c.consume.ensures (
      c.requires.polls,
      c.requires.counts,
      c.requires.open,
      lent_each g.S.Stream.run g.F.Folder.fold g.F.Folder.can_take _ _ c.requires.asks,
    )

pub returns-clause-gave : goal.returns-clause-gave
returns-clause-gave g c =
    rw c.consume.ensures at
    (lent_given g.S.Stream.run g.F.Folder.fold c.consume.result c.wait_for.new.future c.wait_for.result
    c.wait_for.ensures.gave)

pub returns-clause-again : goal.returns-clause-again
returns-clause-again g c =
    let stays = rw c.consume.ensures at
    (lent_stays g.S.Stream.run g.F.Folder.fold c.consume.result c.wait_for.new.future c.wait_for.result
    c.wait_for.ensures.unchanged) in
    given_on g.F.Folder.fold g.met.S.Stream.laws _ _ _ _ stays c.requires.polls (returns-clause-gave g c)
