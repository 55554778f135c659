use Rattle.futures_lite.specs.Uses.{refl, split_over, pieces_listed}
use Rattle.futures_lite.proofs.io.AsyncBufReadExt.split.Goals as goal

pub returns-clause-read : goal.returns-clause-read
returns-clause-read g c knows =
    let e = c.split.ensures in
    rw (← e.reader, ← e.byte)
    (pieces_listed _ _ _ (λ xs. xs) (λ v. v.items) (λ xs x h. h)
    (λ xs x h. h) split_over _ g.Self.ReadSpec.reads g.Self.ReadSpec.known _ refl
    e.empty (rw e.reader knows))
