use Rattle.std.proofs.Common.{rules, refl, bit_xor, nat_eq, nat_lt, Err, Some}
use Rattle.lite_base.specs.Laws.Calling.{function_agree}
use Rattle.properties_met.proofs.conditions.folding_closures_agree.Goals as goal

pub consumers_are_alike-requires-clause-tests : goal.consumers_are_alike-requires-clause-tests
consumers_are_alike-requires-clause-tests c = function_agree _ (λ x. nat_eq x 1) (λ f g x y d. search rules) _ _

pub consumers_are_alike-requires-clause-chooses : goal.consumers_are_alike-requires-clause-chooses
consumers_are_alike-requires-clause-chooses c = function_agree _ (λ x. Some x) (λ f g x y d. search rules) _ _

pub consumers_are_alike-requires-clause-finds : goal.consumers_are_alike-requires-clause-finds
consumers_are_alike-requires-clause-finds c = function_agree _ (λ x. nat_lt x 100) (λ f g x y d. search rules) _ _

pub consumers_are_alike-requires-clause-folds : goal.consumers_are_alike-requires-clause-folds
consumers_are_alike-requires-clause-folds c =
    (function_agree _ (λ p. bit_xor p.0 p.1) (λ f g x y d. search rules) _ _, refl)

pub consumers_are_alike-requires-clause-calls : goal.consumers_are_alike-requires-clause-calls
consumers_are_alike-requires-clause-calls c = function_agree _ (λ x. tt) (λ f g x y d. search rules) _ _

pub consumers_are_alike-requires-clause-tries : goal.consumers_are_alike-requires-clause-tries
consumers_are_alike-requires-clause-tries c = function_agree _ (λ x. Err x) (λ f g x y d. search rules) _ _
