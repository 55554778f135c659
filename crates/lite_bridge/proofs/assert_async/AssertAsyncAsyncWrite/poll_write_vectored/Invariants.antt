use Rattle.lite_bridge.specs.Uses.{Keeps}
use Rattle.lite_bridge.proofs.assert_async.AssertAsyncAsyncWrite.poll_write_vectored.Given as goal

abbrev pub invariant-loop : goal.invariant-loop
invariant-loop g l = Keeps (g.T.Write.contents l.initial.self.inner) (g.T.Write.contents l.self.inner)
