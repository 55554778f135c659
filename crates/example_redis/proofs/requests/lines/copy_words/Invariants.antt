use Rattle.std.proofs.Common.{◌≡◌, map, take}
use Rattle.example_redis.proofs.requests.lines.copy_words.Given as goal

abbrev pub invariant-loop-part : goal.invariant-loop-part
invariant-loop-part l = map (λ w. w.items) l.words.items ≡ map (λ p. p.now) (take l.part-index l.part-items)
