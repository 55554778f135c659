use Rattle.std.specs.Prelude.{◌≡◌, [], ◌∷◌, Some, None}
use Rattle.lite_merge.specs.Uses.{end, item}
use Rattle.lite_merge.specs.Laws.Zip.{ready_pairs}
use Rattle.lite_merge.proofs.zip.Zip.poll_pair.Goals as goal

pub returns-in-Ready-Some-clause-met : goal.returns-in-Ready-Some-clause-met
returns-in-Ready-Some-clause-met g c =
    let is : c.poll_next.result ≡ item c.in-Ready-Some.other = cc in (
      item c.in-Ready-Some.other ∷ [],
      rw is at c.poll_next.ensures.ran,
      rw c.requires.empty (ready_pairs c.args.item (Some c.in-Ready-Some.other)),
    )

pub returns-in-Ready-None-clause-met : goal.returns-in-Ready-None-clause-met
returns-in-Ready-None-clause-met g c =
    let is : c.poll_next.result ≡ end = cc in
    (end ∷ [], rw is at c.poll_next.ensures.ran, rw c.requires.empty (ready_pairs c.args.item None))
