use Rattle.std.specs.Prelude.{◌≡◌, Some, None, Ok, Err}
use Rattle.lite_source.specs.Uses.{Ready}
use Rattle.lite_source.specs.TryUnfold.{try_item_of, try_seed_of}
use Rattle.lite_source.specs.Laws.Unfolding.{unfolds_value}
use Rattle.lite_source.proofs.try_unfold.TryUnfoldStream.poll_next.Goals as goal

pub returns-in-Some-Ok-Some-clause-ran : goal.returns-in-Some-Ok-Some-clause-ran
returns-in-Some-Ok-Some-clause-ran g c =
    let is : c.poll.result ≡ Ready (Some (Ok (Some (c.in-Some-Ok-Some.item, c.in-Some-Ok-Some.seed)))) = cc in
    unfolds_value g.F.FnMut g.Fut.Future.run try_seed_of try_item_of _ _ _ _ _
    (Ok (Some (c.in-Some-Ok-Some.item, c.in-Some-Ok-Some.seed))) (rw is at c.poll.ensures.ran) (c.go_on.ensures)

pub returns-in-Some-Ok-None-clause-ran : goal.returns-in-Some-Ok-None-clause-ran
returns-in-Some-Ok-None-clause-ran g c =
    let is : c.poll.result ≡ Ready (Some (Ok None)) = cc in
    let ran = rw is at c.poll.ensures.ran in
    unfolds_value g.F.FnMut g.Fut.Future.run try_seed_of try_item_of _ _ _ _ _ (Ok None) ran ran.3

pub returns-in-Some-Err-clause-ran : goal.returns-in-Some-Err-clause-ran
returns-in-Some-Err-clause-ran g c =
    let is : c.poll.result ≡ Ready (Some (Err c.in-Some-Err.error)) = cc in
    let ran = rw is at c.poll.ensures.ran in
    unfolds_value g.F.FnMut g.Fut.Future.run try_seed_of try_item_of _ _ _ _ _ (Err c.in-Some-Err.error) ran ran.3
