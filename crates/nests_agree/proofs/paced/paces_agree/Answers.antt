use Rattle.nests_agree.proofs.Appended.{appended_as}
use Rattle.nests_agree.proofs.paced.paces_agree.Goals as goal

pub returns : goal.returns
returns c = appended_as (λ l m h. h.0.always tt) c.both_appended.ensures
