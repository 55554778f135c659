use Rattle.std.proofs.Common.{rules, refl}
use Rattle.std.proofs.lemmas.Result.{IfOk-weaker}
use Rattle.std.specs.Fn.{CalledAt}
use Rattle.lite_base.specs.Calling.{Kin}
use Rattle.nests_agree.proofs.Found.{all_zip_as, gathered_as}
use Rattle.nests_agree.proofs.FoundLengths.{lengths_ample}
use Rattle.nests_agree.proofs.SameLengths.{kin_lengths, kin_tested}
use Rattle.nests_agree.proofs.collected.gathered_lengths_agree.Goals as goal

pub gathered_agree-requires-clause-alike : goal.gathered_agree-requires-clause-alike
gathered_agree-requires-clause-alike g c = (
  (((search rules, search rules, refl), Kin.one _), search rules),
  kin_tested _ (λ f g x y d. search rules) _ (λ p q x b d. search rules) _ _,
)

pub gathered_agree-requires-clause-found : goal.gathered_agree-requires-clause-found
gathered_agree-requires-clause-found g c =
    lengths_ample (g.met.T.SteadyRead.steady.found c.requires.found) _ (CalledAt _) (λ f g x y d. search rules)
    (λ p q x b d. search rules)

pub returns : goal.returns
returns g c =
    IfOk-weaker c.gathered_agree.result _ _
    (λ values same m n.
    gathered_as
    (λ v w h. all_zip_as (kin_lengths _ (λ f g x y d. search rules)) v.items w.items h)
    values.0 values.1 (same m n))
    c.gathered_agree.ensures
