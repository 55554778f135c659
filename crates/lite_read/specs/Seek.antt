-- The `seek` future: each poll seeks once.
use Rattle.std.specs.Prelude.{◌≡◌, ℕ, Result}
use Rattle.lite_read.specs.Uses.{Error, ErrorKind, Poll}
use Rattle.lite_io_base.specs.Marks.{by_kind}
use Rattle.std.specs.declared.io.traits.SeekFrom.{SeekFrom}
use Rattle.lite_read.specs.declared.seek.SeekFuture.{SeekFuture}

-- One poll of `seek`: it returns what `poll_seek` of the seeker returns for this position. The future keeps its
-- reference and the position.
pub record Seeks {S : Type 0} (seeks : S → SeekFrom → Poll (Result ℕ ErrorKind) → S → Type 0) (x : SeekFuture S)
    (c : Poll (Result ℕ Error)) (y : SeekFuture S) : Type 0 where
  pub sought : seeks x.seeker.now x.pos (by_kind c) y.seeker.now
  pub stays : y ≡ record x { seeker = record x.seeker { now = y.seeker.now } }
