use Rattle.std.specs.Prelude.{◌≡◌}
use Rattle.lite_reshape.specs.Uses.{refl, Pending, item}
use Rattle.lite_reshape.specs.Cloned.{Clones, Refers}
use Rattle.lite_reshape.specs.Laws.Expanding.{made_answers, none_answers}
use Rattle.lite_reshape.proofs.cloned.ClonedStream.poll_next.Goals as goal

pub returns-in-None-clause-ran : goal.returns-in-None-clause-ran
returns-in-None-clause-ran g c =
    let clones = Clones g.T.Clone.is_clone g.T.Clone.is_infallible in
    let is : c.poll_next.result ≡ Pending = cc in
    none_answers g.S.Stream.run Refers clones c.in-None.is is c.poll_next.ensures.ran

pub returns-in-Some-ready-clause-ran : goal.returns-in-Some-ready-clause-ran
returns-in-Some-ready-clause-ran g c =
    let clones = Clones g.T.Clone.is_clone g.T.Clone.is_infallible in
    let is : c.poll_next.result ≡ item c.in-Some-ready.item = cc in
    made_answers g.S.Stream.run Refers clones c.in-None.is is c.poll_next.ensures.ran refl
    c.try_clone-in-Some-ready.ensures
