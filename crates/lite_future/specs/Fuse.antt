-- `fuse` of a future: `Pending` forever after its value.
use Rattle.lite_future.specs.Uses.{Poll, Waiting, Spends, Runs}
use Rattle.lite_future.specs.declared.fuse.Fuse.{Fuse}

-- The future's results up to its value, and `Pending` at every poll after that.
abbrev pub FutureFuses : {F A : Type 0} → Runs (Poll A) F → Runs (Poll A) (Fuse F)
FutureFuses run x out y = Spends run (λ a. a) Waiting x.inner out y.inner
