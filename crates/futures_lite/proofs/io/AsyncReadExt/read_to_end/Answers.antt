use Rattle.std.specs.Prelude.{⊤}
use Rattle.futures_lite.specs.Uses.{ReadsToEndByRoom, refl, gathered_left, when_less}
use Rattle.lite_read.specs.Laws.ReadToEnd.{to_end_any}
use Rattle.lite_read.specs.ReadToEnd.{ReadsToEnd}
use Rattle.lite_views.proofs.Futures.{all_read}
use Rattle.futures_lite.proofs.io.AsyncReadExt.read_to_end.Goals as goal

pub returns-clause-all : goal.returns-clause-all
returns-clause-all g c knows =
    rw c.read_to_end.ensures
    (when_less (ReadsToEndByRoom g.Self.ReadSpec.reads)
    (ReadsToEnd ⊤ g.Self.ReadSpec.reads) _ (λ y l. to_end_any _ y l)
    (gathered_left _ _ _ _ g.Self.ReadSpec.reads g.Self.ReadSpec.known _ _ _ knows (refl, refl)
    (λ y s. rw (s.buf, s.reader) (refl, refl)) (λ y v s t. all_read v _ _ _ _ t)))
