use Rattle.example_redis.specs.Taking.{TakenOn}
use Rattle.example_redis.proofs.requests.Requests.take_words.Given as goal

abbrev pub invariant-loop-self : goal.invariant-loop-self
invariant-loop-self l = TakenOn l.fn.self l.fn.src.items l.self l.src.items

abbrev pub decreases-loop-self : goal.decreases-loop-self
decreases-loop-self l = l.self.missing
