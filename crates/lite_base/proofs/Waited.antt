-- What is known of a future that was waited for.
use Rattle.std.specs.Prelude.{IfOk, OnErr, ◌≡◌, List, Result, Ok}
use Rattle.lite_base.specs.Uses.{Poll}
use Rattle.lite_base.specs.Answers.{Gives}
use Rattle.lite_base.specs.Runs.{Runs}

-- a future that was waited for, by what it leaves
abbrev pub WaitedFor : {F A E : Type 0} → Runs (Poll A) F → F → Result A E → F → Type 0
WaitedFor {F} {A} run x r y = IfOk r (λ v. (l : List (Poll A)) × Gives l v × run x l y) × OnErr r (y ≡ x)

-- the value of a wait that cannot fail
abbrev pub done : {A : Type 0} → A → Result A (Unit {0})
done v = Ok v
