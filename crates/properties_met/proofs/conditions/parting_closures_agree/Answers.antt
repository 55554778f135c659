use Rattle.std.proofs.Common.{rules, refl, bit_xor, nat_lt, Ok}
use Rattle.lite_base.specs.Laws.Calling.{function_agree}
use Rattle.properties_met.proofs.conditions.parting_closures_agree.Goals as goal

pub tries_are_alike-requires-clause-tries : goal.tries_are_alike-requires-clause-tries
tries_are_alike-requires-clause-tries c =
    (function_agree _ (λ p. Ok (bit_xor p.0 p.1)) (λ f g x y d. search rules) _ _, refl)

pub collections_are_alike-requires-clause-tests : goal.collections_are_alike-requires-clause-tests
collections_are_alike-requires-clause-tests c = function_agree _ (λ x. nat_lt x 100) (λ f g x y d. search rules) _ _
