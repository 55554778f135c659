use Rattle.std.specs.Prelude.{⊤}
use Rattle.futures_lite.specs.Uses.{ReadsUntil, ReadsUntilByRoom, refl, gathered_left, when_less}
use Rattle.lite_read.specs.Laws.ReadUntil.{until_any}
use Rattle.lite_views.proofs.Until.{read_piece}
use Rattle.futures_lite.proofs.io.AsyncBufReadExt.read_until.Goals as goal

pub returns-clause-piece : goal.returns-clause-piece
returns-clause-piece g c knows =
    rw c.read_until.ensures
    (when_less (ReadsUntilByRoom g.Self.ReadSpec.reads g.Self.AsyncBufRead.buffer_of)
    (ReadsUntil g.Self.ReadSpec.reads ⊤) _ (λ y l. until_any g.Self.AsyncBufRead.buffer_of _ y l)
    (gathered_left _ _ _ _ g.Self.ReadSpec.reads g.Self.ReadSpec.known _ _ _ knows (refl, refl)
    (λ y s. rw (s.buf, s.reader) (refl, refl)) (λ y v s t. read_piece _ v _ _ _ _ (rw s.start at t) s.before)))
