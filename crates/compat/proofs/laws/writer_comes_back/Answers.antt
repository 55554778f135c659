use Rattle.compat.specs.Laws.FromKit.{writes_taken}
use Rattle.compat.specs.Laws.ToKit.{nothing_written, writes_on}
use Rattle.compat.proofs.laws.writer_comes_back.Goals as goal

pub returns : goal.returns
returns g c x y l h =
    let laws = g.W.WriteSpec.write_laws in
    writes_taken _ _ _ (λ k. nothing_written laws k.inner) (λ a xs b ys d. writes_on laws a.inner xs b.inner ys d.inner) x y l h
