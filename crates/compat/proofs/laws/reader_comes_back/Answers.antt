use Rattle.compat.specs.Laws.FromKit.{reads_told}
use Rattle.compat.specs.Laws.ToKit.{nothing_read, reads_on}
use Rattle.compat.proofs.laws.reader_comes_back.Goals as goal

pub returns : goal.returns
returns g c x y l h =
    let laws = g.R.ReadSpec.read_laws in
    reads_told _ _ (λ k. nothing_read laws k.inner) (λ a xs b ys d. reads_on laws a.inner xs b.inner ys d.inner) x y l h
