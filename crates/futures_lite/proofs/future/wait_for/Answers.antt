use Rattle.futures_lite.specs.Uses.{LeftAs}
use Rattle.lite_views.proofs.Waiting.{left_seen}
use Rattle.std.proofs.Common.{arith, rules}
use Rattle.std.proofs.lemmas.Grind.{common_steps}
use Rattle.futures_lite.proofs.future.wait_for.Goals as goal

pub returns-clause-left : goal.returns-clause-left
unfolding LeftAs
returns-clause-left g c = (left_seen _ _ _, (c.wait_for.ensures.gave, c.wait_for.ensures.unchanged))

pub returns-in_err-new-clause-left : goal.returns-in_err-new-clause-left
unfolding LeftAs
returns-in_err-new-clause-left g c = (left_seen _ _ _, first_of (search rules, grind (arith, common_steps)))
