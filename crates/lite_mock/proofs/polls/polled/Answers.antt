use Rattle.std.proofs.Common.{◌∙◌, ◌≡◌, [], ◌∷◌, ◌++◌, ap, arith, length}
use Rattle.futures.specs.declared.task.Poll.TheVariants.{Ready, Pending}
use Rattle.lite_mock.specs.Polled.{ends_polled, pends_more, waits_polled}
use Rattle.lite_mock.proofs.polls.polled.Goals as goal

pub loop-preserved : goal.loop-preserved
loop-preserved g c =
    let was = c.loop.invariant in
    let items = c.push_reserved.ensures.items ∙ ap (λ l. l ++ Pending ∷ []) c.reserve.ensures.items in
    let more = pends_more c.loop.out.items c.loop.counter was.waits was.many in
    let ran = g.met.F.Future.laws.follows _ _ _ _ _ was.waits was.ran c.in-Pending.ensures.ran in
    rw items (record { ready = c.in-Pending.ensures.again; ran = ran; waits = more.0; many = more.1 })

pub returns-in-Ready : goal.returns-in-Ready
returns-in-Ready g c =
    let was = c.loop.invariant in
    let items = c.push_reserved-in-Ready.ensures.items
    ∙ ap (λ l. l ++ Ready c.in-Ready.value ∷ []) c.reserve.ensures.items in
    let ran = g.met.F.Future.laws.follows _ _ _ _ _ was.waits was.ran c.in-Ready.ensures.ran in
    rw items (
      ran,
      ends_polled c.loop.out.items c.in-Ready.value c.loop.counter c.args.polls was.waits was.many c.loop-test.true,
    )

pub returns : goal.returns
returns g c =
    let was = c.loop.invariant in
    let more = c.loop-test.false in
    let most = c.loop.auto.counter-end in
    let many = was.many in
    let all : length c.loop.out.items ≡ c.args.polls = omega (arith, many, more, most) in
    (was.ran, waits_polled c.loop.out.items c.args.polls was.waits all)
