use Rattle.example_retry.specs.OutcomeLaws.{first_ok_value}
use Rattle.example_retry.proofs.make.retry.Goals as goal

pub returns-clause-value : goal.returns-clause-value
returns-clause-value g c h makes = first_ok_value g.M.FnMut g.F.Future.run _ _ h makes
