use Rattle.std.proofs.Common.{◌≡◌, ◌-◌, ◌∙◌, arith, ap, sym, subst, get_or, length, take}
use Rattle.std.specs.List.{AllByRecursion}
use Rattle.std.proofs.lemmas.List.{take_all}
use Rattle.example_redis.specs.Replies.{IsEncodable}
use Rattle.example_redis.specs.Laws.Replies.{array_encodable, array_refused_as}
use Rattle.example_redis.proofs.reply.+check.Goals as goal

pub returns-in_err-check-in-Array : goal.returns-in_err-check-in-Array
returns-in_err-check-in-Array t c =
    let items = c.in-Array.items in
    let i = c.loop-inner.inner-index in
    let shown = c.deref-inner-items.ensures.value in
    let reply = c.inner-item.result in
    array_refused_as items c.args.depth i reply c.in_err-check-in-Array.field-0.0 c.from_residual.result c.args.item.now (omega arith)
    (omega (arith, c.loop-inner-test.true, ap length shown)) (c.inner-item.is ∙ ap (λ l. get_or l i reply) shown)
    c.in_err-check-in-Array.ensures c.in-Array.is c.from_residual.ensures.1

pub returns-after-loop-inner : goal.returns-after-loop-inner
returns-after-loop-inner t c =
    let items = c.in-Array.items in
    let all : take c.loop-inner.inner-index c.deref-inner-items.result.now ≡ items.items =
    take_all c.loop-inner.inner-index c.deref-inner-items.result.now (omega arith) ∙ c.deref-inner-items.ensures.value in
    subst (IsEncodable c.args.depth) (sym c.in-Array.is)
    (array_encodable items c.args.depth (omega arith) (subst (AllByRecursion (IsEncodable (c.args.depth - 1))) all c.loop-inner.invariant))
