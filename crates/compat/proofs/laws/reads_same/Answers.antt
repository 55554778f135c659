use Rattle.std.proofs.Common.{subst}
use Rattle.compat.specs.Laws.FromKit.{reads_told}
use Rattle.compat.proofs.laws.reads_same.Goals as goal

pub returns-clause-here : goal.returns-clause-here
returns-clause-here g c x y l h =
    let laws = g.met.R.AsyncRead in
    reads_told g.R.AsyncRead.is_at_end g.R.AsyncRead.fails laws.reads_nothing laws.reads_in_order x y l h

pub returns-clause-back : goal.returns-clause-back
returns-clause-back g c x y xs h =
    let laws = g.met.R.AsyncRead in
    subst (λ b. g.R.AsyncRead.reads x.inner.inner b y.inner.inner) h.gave
    (reads_told g.R.AsyncRead.is_at_end g.R.AsyncRead.fails laws.reads_nothing laws.reads_in_order x.inner y.inner h.told h.came)
