use Rattle.std.proofs.Common.{sym, subst}
use Rattle.compat.specs.FromKit.{KitLists}
use Rattle.compat.specs.Laws.FromKit.{kit_lists}
use Rattle.compat.proofs.laws.stream_from_kit.Goals as goal

pub returns : goal.returns
returns g c xs known =
    let made = c.new.ensures in
    kit_lists g.S.Stream.can_poll g.S.Stream.yields c.new.result xs made.running
    (subst (λ s. KitLists (g.S.Stream.yields s) xs) (sym made.inner) known)
