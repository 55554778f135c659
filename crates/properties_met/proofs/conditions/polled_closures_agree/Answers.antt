use Rattle.std.proofs.Common.{rules, ◌≡◌, refl, ℕ, Ok, Option, Result, Some}
use Rattle.lite_base.specs.Laws.Calling.{answers_agree}
use Rattle.lite_future.specs.declared.ready.Ready.{Ready}
use Rattle.properties_met.proofs.Polled.{calls_alike, iterates_alike, polls_alike, polls_no_pending}
use Rattle.properties_met.proofs.conditions.polled_closures_agree.Goals as goal

abbrev Pairs : ℕ → Ready (Option (ℕ × ℕ)) → Type 0
Pairs x v = v ≡ record { value = Some (Some (x, x)) }

abbrev TriesPairs : ℕ → Ready (Result (Option (ℕ × ℕ)) ℕ) → Type 0
TriesPairs x v = v ≡ record { value = Some (Ok (Some (x, x))) }

pub calls_are_alike-requires-clause-iterates : goal.calls_are_alike-requires-clause-iterates
calls_are_alike-requires-clause-iterates c = iterates_alike (λ i. i.rest.items) (λ i. i.rest.len) _ _ _

pub calls_are_alike-requires-clause-polls : goal.calls_are_alike-requires-clause-polls
calls_are_alike-requires-clause-polls c = polls_alike _ (Some 1) (λ p q cx left a d. search rules) _ _

pub calls_are_alike-requires-clause-repeats : goal.calls_are_alike-requires-clause-repeats
calls_are_alike-requires-clause-repeats c = calls_alike _ 1 (λ p q a d. search rules) _ _

pub calls_are_alike-requires-clause-unfolds : goal.calls_are_alike-requires-clause-unfolds
calls_are_alike-requires-clause-unfolds c =
    answers_agree _ _ Pairs (λ f k x y d. search rules) (λ x y z p q. rw (p, q) refl) _ _

pub calls_are_alike-requires-clause-tries : goal.calls_are_alike-requires-clause-tries
calls_are_alike-requires-clause-tries c =
    answers_agree _ _ TriesPairs (λ f k x y d. search rules) (λ x y z p q. rw (p, q) refl) _ _

pub calls_are_calm-requires-clause-polls : goal.calls_are_calm-requires-clause-polls
calls_are_calm-requires-clause-polls c = polls_no_pending _ (Some 1) (λ p q cx left a d. search rules) _
