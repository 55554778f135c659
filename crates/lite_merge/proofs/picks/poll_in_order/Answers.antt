use Rattle.std.specs.Prelude.{◌≡◌, [], ◌∷◌}
use Rattle.lite_merge.specs.Uses.{refl, item}
use Rattle.lite_merge.specs.Laws.Merge.{fused_laws}
use Rattle.lite_merge.proofs.picks.poll_in_order.Goals as goal

pub returns-in-Ready-Some-clause-row : goal.returns-in-Ready-Some-clause-row
returns-in-Ready-Some-clause-row g c =
    let is : c.poll_unended.result ≡ item c.in-Ready-Some.item = cc in (
      item c.in-Ready-Some.item ∷ [],
      [],
      rw is at c.poll_unended.ensures.ran,
      (fused_laws g.met.U.Stream.laws).rests _,
      (refl, refl, refl),
    )
