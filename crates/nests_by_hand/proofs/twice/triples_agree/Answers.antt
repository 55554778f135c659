use Rattle.std.proofs.Common.{rules}
use Rattle.futures_lite.specs.Laws.Calling.{agrees_alone}
use Rattle.nests_by_hand.proofs.twice.triples_agree.Goals as goal

pub run_both-requires-clause-alike : goal.run_both-requires-clause-alike
-- as the nest stands, from the source out: each closure agrees with itself
run_both-requires-clause-alike c = (
  (
    (
      (
        ((search rules, search rules), agrees_alone _ (λ f g h x y z d e. search rules) _),
        agrees_alone _ (λ f g h x y z d e. search rules) _,
      ),
      agrees_alone _ (λ f g h x y z d e. search rules) _,
    ),
    search rules,
  ),
  search rules,
)

pub returns : goal.returns
returns c =
    let both = c.run_both.ensures.agree in
    (both.0, both.1, both.2, both.3, both.4.always tt, both.5)
