use Rattle.std.specs.Prelude.{◌≡◌, Some, None}
use Rattle.lite_reshape.specs.Uses.{Ready, Pending, item, Calls, each_asked, each_here}
use Rattle.std.proofs.Common.{rules}
use Rattle.lite_reshape.specs.Laws.Expanding.{held_answers, made_answers, none_answers}
use Rattle.lite_reshape.specs.Laws.Then.{hands_pending, hands_value}
use Rattle.lite_reshape.specs.Then.{HandsOut}
use Rattle.lite_reshape.proofs.then.ThenStream.poll_next.Goals as goal

pub returns-in-Some-clause-ran : goal.returns-in-Some-clause-ran
returns-in-Some-clause-ran g c =
    let run = g.Fut.Future.run in
    let is : c.poll.result ≡ Pending = cc in
    rw c.in-Some.is
    (held_answers g.S.Stream.run (Calls g.F.FnMut) (HandsOut run) _ _ _ Pending (Some c.poll.new.self)
    (g.met.S.Stream.laws.rests _) (hands_pending run is c.poll.ensures.ran))

pub returns-in-Ready-ready-clause-ran : goal.returns-in-Ready-ready-clause-ran
returns-in-Ready-ready-clause-ran g c =
    let run = g.Fut.Future.run in
    let is : c.poll.result ≡ Ready c.in-Ready-ready.field-0 = cc in
    rw c.in-Some.is
    (held_answers g.S.Stream.run (Calls g.F.FnMut) (HandsOut run) _ _ _ (item _) None (g.met.S.Stream.laws.rests _)
    (hands_value run is c.poll.ensures.ran))

pub returns-in-None-clause-ran : goal.returns-in-None-clause-ran
returns-in-None-clause-ran g c =
    let is : c.poll_next.result ≡ Pending = cc in
    none_answers g.S.Stream.run (Calls g.F.FnMut) (HandsOut g.Fut.Future.run) c.in-None.is is c.poll_next.ensures.ran

pub returns-in-Some-ready-clause-ran : goal.returns-in-Some-ready-clause-ran
returns-in-Some-ready-clause-ran g c =
    let is : c.poll_next.result ≡ item c.in-Some-ready.item = cc in
    rw c.poll_made.ensures.same
    (made_answers g.S.Stream.run (Calls g.F.FnMut) (HandsOut g.Fut.Future.run) {left = c.poll_made.new.self.future}
    c.in-None.is is c.poll_next.ensures.ran c.f-future.ensures c.poll_made.ensures.given)

pub f-future-requires : goal.f-future-requires
f-future-requires g c = (each_here c.requires.1 c.poll_next.ensures.ran (search rules)).0

pub poll_made-requires-clause-can_poll : goal.poll_made-requires-clause-can_poll
poll_made-requires-clause-can_poll g c =
    let is : c.poll_next.result ≡ item c.in-Some-ready.item = cc in
    (each_here c.requires.1 c.poll_next.ensures.ran is).1 _ _ c.f-future.ensures

pub returns-in-Some-ready-clause-again : goal.returns-in-Some-ready-clause-again
returns-in-Some-ready-clause-again g c =
    let asked = each_asked g.met.S.Stream.laws c.requires.1 c.poll_next.ensures.ran (search rules) in
    rw c.poll_made.ensures.same (c.poll_next.ensures.again, asked c.f-future.ensures, c.poll_made.ensures.again)
