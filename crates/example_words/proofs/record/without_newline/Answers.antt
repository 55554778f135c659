use Rattle.std.specs.Prelude.{◌∷◌, []}
use Rattle.std.proofs.lemmas.Bool.Decides.{Decides-eqb}
use Rattle.std.proofs.lemmas.Slice.Eq.{strip_suffix_is}
use Rattle.example_words.proofs.record.without_newline.Goals as goal

pub returns : goal.returns
returns c = strip_suffix_is Decides-eqb c.args.line.now (10 ∷ []) c.strip_suffix.result c.strip_suffix.ensures.cases
