use Rattle.std.specs.Prelude.{[], Ok}
use Rattle.example_redis.specs.Commands.{IsDone, does}
use Rattle.example_redis.specs.Laws.Commands.{multi_alone}
use Rattle.example_redis.specs.Store.{held}
use Rattle.example_redis.specs.declared.verb.Verb.TheVariants.{Multi}
use Rattle.example_redis.proofs.store.Store.begin_transaction.Goals as goal

pub returns : goal.returns
returns c name =
    let h = held c.args.self.now in
    let g = held c.set_refusing.new.self in
    let said = c.in_ok-outcome.ensures h in
    let done : IsDone h (does h name Multi []) (Ok c.in_ok-outcome.outcome) g = (said.0, said.1, c.set_refusing.ensures) in
    multi_alone h g name (Ok c.in_ok-outcome.outcome) c.args.words.now c.requires done
