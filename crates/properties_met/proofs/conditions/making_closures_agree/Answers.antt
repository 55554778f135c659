use Rattle.std.proofs.Common.{rules, ◌≡◌, refl, ℕ, Some}
use Rattle.lite_base.specs.Laws.Calling.{answers_agree}
use Rattle.lite_future.specs.declared.ready.Ready.{Ready}
use Rattle.lite_source.specs.declared.once.Once.{Once}
use Rattle.properties_met.proofs.conditions.making_closures_agree.Goals as goal

abbrev IsOnce : ℕ → Once ℕ → Type 0
IsOnce x v = v ≡ record { value = Some x }

abbrev IsReady : ℕ → Ready ℕ → Type 0
IsReady x v = v ≡ record { value = Some x }

pub merges_are_alike-requires-clause-streams : goal.merges_are_alike-requires-clause-streams
merges_are_alike-requires-clause-streams g c =
    answers_agree _ _ IsOnce (λ f k x y d. search rules) (λ x y z p q. rw (p, q) refl) _ _

pub merges_are_alike-requires-clause-futures : goal.merges_are_alike-requires-clause-futures
merges_are_alike-requires-clause-futures g c =
    answers_agree _ _ IsReady (λ f k x y d. search rules) (λ x y z p q. rw (p, q) refl) _ _

pub merges_are_calm-requires-clause-streams : goal.merges_are_calm-requires-clause-streams
merges_are_calm-requires-clause-streams g c = record { at = λ xs p q x v folds d. tt }

pub merges_are_calm-requires-clause-futures : goal.merges_are_calm-requires-clause-futures
merges_are_calm-requires-clause-futures g c = record { at = λ xs p q x v folds d. tt }
