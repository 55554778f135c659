use Rattle.std.specs.Prelude.{[], ◌∷◌}
use Rattle.std.proofs.lemmas.Bool.Decides.{Decides-eqb}
use Rattle.std.proofs.lemmas.Slice.Eq.{strip_suffix_is}
use Rattle.framed.proofs.head.strip_return.Goals as goal

pub returns : goal.returns
returns c = strip_suffix_is Decides-eqb c.args.head.now (13 ∷ []) c.strip_suffix.result c.strip_suffix.ensures.cases
