use Rattle.std.proofs.Common.{subst}
use Rattle.compat.specs.Laws.FromKit.{writes_taken}
use Rattle.compat.proofs.laws.writes_same.Goals as goal

pub returns-clause-here : goal.returns-clause-here
returns-clause-here g c x y l h =
    let w = g.W.AsyncWrite in
    let laws = g.met.W.AsyncWrite in
    writes_taken w.is_flushed w.is_shut_down w.fails laws.writes_nothing laws.writes_in_order x y l h

pub returns-clause-back : goal.returns-clause-back
returns-clause-back g c x y xs h =
    let w = g.W.AsyncWrite in
    let laws = g.met.W.AsyncWrite in
    subst (λ b. w.writes x.inner.inner b y.inner.inner) h.gave
    (writes_taken w.is_flushed w.is_shut_down w.fails laws.writes_nothing laws.writes_in_order x.inner y.inner h.took h.came)
