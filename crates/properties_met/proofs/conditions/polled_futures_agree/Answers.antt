use Rattle.std.proofs.Common.{rules, Some}
use Rattle.properties_met.proofs.Polled.{polls_alike, polls_no_pending}
use Rattle.properties_met.proofs.conditions.polled_futures_agree.Goals as goal

pub futures_are_alike-requires-clause-polls : goal.futures_are_alike-requires-clause-polls
futures_are_alike-requires-clause-polls g c =
    λ l m x y h k. polls_alike _ (Some 1) (λ p q cx left a d. search rules) _ _ l m x y h.1 k.1

pub futures_are_calm-requires-clause-polls : goal.futures_are_calm-requires-clause-polls
futures_are_calm-requires-clause-polls g c = polls_no_pending _ (Some 1) (λ p q cx left a d. search rules) _
