use Rattle.example_redis.specs.Laws.Sendable.{replies_encodable}
use Rattle.example_redis.proofs.commands.replies_are_encoded.Goals as goal

pub returns : goal.returns
returns c h words reply is = replies_encodable h words reply is
