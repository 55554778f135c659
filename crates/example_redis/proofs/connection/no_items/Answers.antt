use Rattle.std.proofs.Common.{◌∙◌, ap, length}
use Rattle.example_redis.specs.Commands.{Said}
use Rattle.example_redis.specs.Laws.Commands.{said_array}
use Rattle.example_redis.proofs.connection.no_items.Goals as goal

pub returns : goal.returns
returns c = said_array c.new.result ∙ ap (λ l. Said.array (length l)) c.new.ensures.items
