use Rattle.futures_lite.specs.Uses.{refl, gathered_left, seen}
use Rattle.lite_views.proofs.ReadExact.{exactly_read, same_read}
use Rattle.futures_lite.proofs.io.AsyncReadExt.read_exact.Goals as goal

pub returns-clause-first : goal.returns-clause-first
returns-clause-first g c knows =
    rw c.read_exact.ensures
    (gathered_left _ _ _ _ g.Self.ReadSpec.reads g.Self.ReadSpec.known _ _ _ knows (refl, refl)
    (λ y s. rw (s.buf, s.reader) (refl, refl)) (λ y v s t. exactly_read v y.filled _ _ _ _ t))

pub returns-clause-same : goal.returns-clause-same
returns-clause-same g c b = (refl, seen _ b, λ on. rw c.read_exact.ensures (same_read g.Self.ReadSpec.reads _ b refl on))
