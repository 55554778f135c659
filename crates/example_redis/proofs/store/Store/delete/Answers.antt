use Rattle.std.proofs.Common.{◌∙◌, ◌-◌, ap, sym, cond, length}
use Rattle.std.specs.Option.{is_some}
use Rattle.example_redis.proofs.Held.{changed, is_some-option_map, less, same_held}
use Rattle.example_redis.proofs.store.Store.delete.Goals as goal

pub returns-clause-gone : goal.returns-clause-gone
returns-clause-gone c =
    same_held _ _ _ _ _ _ _ _
    (changed (λ k. k.items) (λ value. value.items) c.args.self.now.values c.remove-removed.new.self c.args.key.now _
    c.remove-removed.ensures.updates)
    (less _ _ _ c.remove-removed.ensures.len
    ∙ ap (λ b. length c.args.self.now.values.entries - cond b 1 0) (ap is_some c.remove-removed.ensures.value ∙ sym (is_some-option_map (λ v. v.items) _)))
    c.bytes_without-bytes.ensures
