use Rattle.compat.specs.Laws.Collected.{finishes_gives}
use Rattle.compat.proofs.laws.future_comes_back.Goals as goal

pub returns : goal.returns
returns g c x value h = finishes_gives _ _ x h.0 value h.1
