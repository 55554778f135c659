use Rattle.futures_lite.specs.Streams.{makes_on}
use Rattle.example_retry.proofs.retry.Retry.make_attempt.Goals as goal

pub returns-then-is_none-clause-held : goal.returns-then-is_none-clause-held
returns-then-is_none-clause-held g c =
    (makes_on g.M.FnMut g.F.Future.can_poll _ _ c.make.result _ c.requires.may.1 c.make.ensures).0
