-- The value of `collect`, by the items of the stream.
use Rattle.std.specs.Prelude.{◌≡◌, List, [], Result, IfOk, IfSome}
use Rattle.lite_views.specs.Uses.{fold_of, Refused}
use Rattle.lite_gather.specs.Collect.{collects}
use Rattle.lite_gather.specs.declared.collect.Collect.{Collect}
use Rattle.lite_views.proofs.Consume.{MakesOf}
use Rattle.lite_views.proofs.Collecting.{WhereSome, gathered, where_some}

pub collect_made : {C T : Type 0} (may_refuse : C → T → Type 0) (holds : C → List T → Type 0) (p : Collect C)
    (xs : List T) → IfSome p.collection (λ c. holds c []) → (v : Result C (Refused C T))
    → MakesOf (fold_of (λ (m : Collect C). m.collection) (collects may_refuse holds)) p xs v → IfOk v (λ d. holds d xs)
collect_made {C} may_refuse holds p xs none v =
    gathered (fold_of (λ (m : Collect C). m.collection) (collects may_refuse holds))
    (λ p l. WhereSome p.collection (λ c. holds c l))
    (λ v l. IfOk v (λ d. holds d l))
    (λ p q x l s h c e. let same : s.1 ≡ c = (let k = s.4 in cc) in rw (← same) (s.3 l (h s.0 s.2)))
    (λ p q x r l xs s h. rw s.5 tt) (λ p q r l s h. rw s.2 (h s.0 s.1)) p [] xs v
    (where_some (λ c. holds c []) p.collection none)
