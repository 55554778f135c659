use Rattle.std.proofs.Common.{rules}
use Rattle.lite_base.specs.Laws.Calling.{agrees_alone}
use Rattle.nests_agree.proofs.Appended.{appended_as}
use Rattle.nests_agree.proofs.agree.evens_agree.Goals as goal

pub both_appended-requires-clause-alike : goal.both_appended-requires-clause-alike
both_appended-requires-clause-alike c = (
  (
    (
      (search rules, agrees_alone _ (λ f g h x y z d e. search rules) _),
      agrees_alone _ (λ f g h x y z d e. search rules) _,
    ),
    agrees_alone _ (λ f g h x y z d e. search rules) _,
  ),
  search rules,
)

pub returns : goal.returns
returns c = appended_as (λ l m h. h.0.always tt) c.both_appended.ensures
