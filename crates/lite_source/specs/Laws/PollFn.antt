-- Laws about `poll_fn`.
use Rattle.std.specs.Prelude.{List, Option}
use Rattle.lite_source.specs.Uses.{FoldsTo, Answer, CalmLaws, calm_both, CallAnswers, NeverPends, Poller}
use Rattle.lite_base.specs.Laws.Pollers.{never_pends_on}
use Rattle.lite_source.specs.declared.poll_fn.PollFn.{PollFn}

-- A `poll_fn` is calm, if no call of its function returns `Pending`.
pub poll_fn_calm : {F A : Type 0} (g : Poller F (Option A))
    → CalmLaws (λ (x : PollFn F) (l : List (Answer A)) (y : PollFn F). FoldsTo (CallAnswers g) x.f l y.f)
    (λ x. NeverPends g x.f)
poll_fn_calm g = calm_both (λ x y l k h. (k.at l y.f h, never_pends_on g x.f y.f l k h))
