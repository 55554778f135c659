use Rattle.lite_bridge.specs.Uses.{Keeps, StaysAt}
use Rattle.lite_bridge.proofs.assert_async.AssertAsyncAsyncSeek.poll_seek.Given as goal

abbrev pub invariant-loop : goal.invariant-loop
invariant-loop g l =
    StaysAt (g.T.Seek.stream_position l.initial.self.inner) (g.T.Seek.stream_position l.self.inner)
    × Keeps (g.T.Seek.stream_bytes l.initial.self.inner) (g.T.Seek.stream_bytes l.self.inner)
