use Rattle.nests_agree.proofs.Appended.{appended_as}
use Rattle.nests_agree.proofs.nests.nests_agree.Goals as goal

pub both_appended-requires-clause-alike : goal.both_appended-requires-clause-alike
both_appended-requires-clause-alike g c = (((c.requires.alike, c.requires.calls), c.requires.tests), c.requires.counts)

pub returns : goal.returns
returns g c = appended_as (λ l m h. (h.0.always c.requires.found, h.1, h.2)) c.both_appended.ensures
