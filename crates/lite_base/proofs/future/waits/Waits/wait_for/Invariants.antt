use Rattle.lite_base.specs.Answers.{Waiting}
use Rattle.lite_base.proofs.future.waits.Waits.wait_for.Given as goal

abbrev pub invariant-polls : goal.invariant-polls
invariant-polls g l = record {
  goes_on : (goal.iterator-polls g).can_next l.iterator' × (goal.iterator-polls g).is_finite l.iterator';
  ready : g.F.Future.can_poll l.future;
  waited : (ins : _) × Waiting ins × g.F.Future.run l.fn.future ins l.future;
}
