use Rattle.std.proofs.Common.{rules, ◌≡◌, ◌∙◌, ◌++◌, arith, ap, sym, decimal, length}
use Rattle.example_redis.specs.Replies.{reply_bytes}
use Rattle.example_redis.specs.Laws.Replies.{array_written}
use Rattle.example_redis.proofs.reply.+append.Goals as goal

pub returns-after-loop-inner-clause-ok : goal.returns-after-loop-inner-clause-ok
returns-after-loop-inner-clause-ok t c =
    let items = c.in-Array.items in
    let long : c.len-in-Array.result ≡ length items.items = search rules in
    let text : c.as_bytes-in-Array.result.now ≡ decimal c.len-in-Array.result = search rules in
    array_written items c.deref-inner-items.result.now c.loop-inner.inner-index c.len-in-Array.result c.args.dst.now.items
    c.append_line-in-Array.new.dst.items c.loop-inner.dst.items c.as_bytes-in-Array.result.now c.deref-inner-items.ensures.value
    (omega arith) long text c.in_ok-append_line-in-Array.ensures.ok c.loop-inner.invariant.written
    ∙ ap (λ r. c.args.dst.now.items ++ reply_bytes r) (sym c.in-Array.is)
