use Rattle.std.proofs.Common.{rules, bit_xor, nat_lt, Some}
use Rattle.lite_base.specs.Laws.Calling.{function_agree}
use Rattle.properties_met.proofs.conditions.closures_agree.Goals as goal

pub map_is_alike-requires-clause-maps : goal.map_is_alike-requires-clause-maps
map_is_alike-requires-clause-maps c = function_agree _ (λ x. bit_xor x 1) (λ f g x y d. search rules) _ _

pub map_while_is_alike-requires-clause-chooses : goal.map_while_is_alike-requires-clause-chooses
map_while_is_alike-requires-clause-chooses c = function_agree _ (λ x. Some x) (λ f g x y d. search rules) _ _

pub scan_is_alike-requires-clause-scans : goal.scan_is_alike-requires-clause-scans
scan_is_alike-requires-clause-scans c = function_agree _ (λ x. Some x) (λ f g x y d. search rules) _ _

pub take_while_is_alike-requires-clause-tests : goal.take_while_is_alike-requires-clause-tests
take_while_is_alike-requires-clause-tests c = function_agree _ (λ x. nat_lt x 100) (λ f g x y d. search rules) _ _

pub filter_is_alike-requires-clause-tests : goal.filter_is_alike-requires-clause-tests
filter_is_alike-requires-clause-tests c = function_agree _ (λ x. nat_lt x 100) (λ f g x y d. search rules) _ _

pub filter_map_is_alike-requires-clause-chooses : goal.filter_map_is_alike-requires-clause-chooses
filter_map_is_alike-requires-clause-chooses c = function_agree _ (λ x. Some x) (λ f g x y d. search rules) _ _

pub skip_while_is_alike-requires-clause-tests : goal.skip_while_is_alike-requires-clause-tests
skip_while_is_alike-requires-clause-tests c = function_agree _ (λ x. nat_lt x 100) (λ f g x y d. search rules) _ _
