use Rattle.std.specs.Prelude.{◌≡◌, Some, None}
use Rattle.lite_source.specs.Uses.{Ready}
use Rattle.lite_source.specs.Unfold.{item_of, seed_of}
use Rattle.lite_source.specs.Laws.Unfolding.{unfolds_value}
use Rattle.lite_source.proofs.unfold.UnfoldStream.poll_next.Goals as goal

pub returns-in-Some-Some-clause-ran : goal.returns-in-Some-Some-clause-ran
returns-in-Some-Some-clause-ran g c =
    let is : c.poll.result ≡ Ready (Some (Some (c.in-Some-Some.item, c.in-Some-Some.seed))) = cc in
    unfolds_value g.F.FnMut g.Fut.Future.run seed_of item_of _ _ _ _ _ (Some (c.in-Some-Some.item, c.in-Some-Some.seed))
    (rw is at c.poll.ensures.ran) (c.go_on.ensures)

pub returns-in-Some-None-clause-ran : goal.returns-in-Some-None-clause-ran
returns-in-Some-None-clause-ran g c =
    let is : c.poll.result ≡ Ready (Some None) = cc in
    let ran = rw is at c.poll.ensures.ran in
    unfolds_value g.F.FnMut g.Fut.Future.run seed_of item_of _ _ _ _ _ None ran ran.3
