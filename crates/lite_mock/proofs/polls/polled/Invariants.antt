use Rattle.std.proofs.Common.{◌≡◌, length}
use Rattle.lite_base.specs.Answers.{Waiting}
use Rattle.lite_mock.proofs.polls.polled.Given as goal

abbrev pub invariant-loop : goal.invariant-loop
invariant-loop g l = record {
  ready : g.F.Future.can_poll l.future;
  ran : g.F.Future.run l.initial.future l.out.items l.future;
  waits : Waiting l.out.items;
  many : length l.out.items ≡ l.counter;
}
