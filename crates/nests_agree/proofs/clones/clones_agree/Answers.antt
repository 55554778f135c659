use Rattle.lite_reshape.specs.Laws.Cloned.{cloned_ample}
use Rattle.nests_agree.proofs.Appended.{appended_as}
use Rattle.nests_agree.proofs.clones.clones_agree.Goals as goal

pub returns : goal.returns
returns g c =
    let found = cloned_ample g.T.Clone.is_clone g.T.Clone.is_infallible c.requires.found in
    appended_as
    (λ l m h none none'. h.0.found (found _ _ l none h.0.first) (found _ _ m none' h.0.second))
    c.both_appended.ensures
