use Rattle.lite_future.specs.Laws.Side.{asked_no_more, stands_on}
use Rattle.lite_future.proofs.side.ask.Goals as goal

pub returns-in_default : goal.returns-in_default
returns-in_default g c =
    record {
      row = stands_on (λ v. v) g.F.Future.run g.F.Future.can_poll _ c.requires c.in_default.not-Asked;
      again = c.requires;
      registered = λ fact h. absurd (asked_no_more _ (λ f. g.F.Future.registers f fact) c.in_default.not-Asked h);
      context = λ fact h. h;
    }
