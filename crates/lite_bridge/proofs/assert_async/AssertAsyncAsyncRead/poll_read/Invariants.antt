use Rattle.lite_bridge.specs.Uses.{Keeps}
use Rattle.lite_bridge.proofs.assert_async.AssertAsyncAsyncRead.poll_read.Given as goal

abbrev pub invariant-loop : goal.invariant-loop
invariant-loop g l = Keeps (g.T.Read.remaining l.initial.self.inner) (g.T.Read.remaining l.self.inner)
