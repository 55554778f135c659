use Rattle.std.proofs.Common.{◌∙◌, ◌+◌, ap, sym, cond, length}
use Rattle.std.specs.Option.{is_some}
use Rattle.example_redis.proofs.Held.{changed, is_some-option_map, same_held}
use Rattle.example_redis.proofs.store.Store.set.Goals as goal

pub returns-clause-set : goal.returns-clause-set
returns-clause-set c =
    let bytes = rw c.in-Some.is at c.bytes_with.ensures in
    rw (← c.in_ok-key.ensures.items, ← c.in_ok-value.ensures.items)
    (λ room. same_held _ _ _ _ _ _ _ _
    (changed (λ k. k.items) (λ value. value.items) c.args.self.now.values c.insert.new.self c.in_ok-key.key.items _
    c.in_ok-insert.ensures.updates)
    (c.in_ok-insert.ensures.len
    ∙ ap (λ b. length c.args.self.now.values.entries + cond b 0 1) (ap is_some c.in_ok-insert.ensures.old ∙ sym (is_some-option_map (λ v. v.items) _)))
    (rw (c.in_ok-key.ensures.items, c.in_ok-value.ensures.items) bytes.0))
