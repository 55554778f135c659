-- Laws of a stream's runs and hints.
use Rattle.std.specs.Prelude.{◌≤◌, ℕ, List, Option, IfSome, ◌≡◌}
use Rattle.lite_base.specs.Answers.{Answer, before_end}
use Rattle.lite_base.specs.Runs.{Hints, Runs}
use Rattle.lite_base.specs.StreamLaws.{PollsOn, RunLaws, StreamLaws}
use Rattle.lite_base.specs.Uses.{subst, sym}

pub runs_of : {S A : Type 0} {run : Runs (Answer A) S} {can_poll : S → Type 0} {hints : Hints S} → StreamLaws can_poll run hints → RunLaws run
runs_of laws = record { rests = laws.rests; stays = laws.stays; follows = laws.follows }

-- No run has more items before the first end of the stream than a size hint allows.
abbrev pub HintsHold : {S A : Type 0} → Runs (Answer A) S → Hints S → Type 0
HintsHold {S} {A} run hints =
    (x y : S) (hint : ℕ × Option ℕ) (l : List (Answer A)) → hints x hint → run x l y
    → IfSome hint.1 (λ most. before_end l ≤ most)

pub laws_of : {S A : Type 0} {can_poll : S → Type 0} {run : Runs (Answer A) S} {hints : Hints S} → RunLaws run
    → HintsHold run hints → PollsOn can_poll run → StreamLaws can_poll run hints
laws_of runs bounded on =
    record { rests = runs.rests; stays = runs.stays; follows = runs.follows; bounded = bounded; polls_on = on }

-- What a size hint bounds.

-- A hint that is equal to a known one has the bound of the known one.
pub same_hint : {A : Type 0} (hint known : ℕ × Option ℕ) (l : List (Answer A)) → hint ≡ known
    → IfSome known.1 (λ most. before_end l ≤ most) → IfSome hint.1 (λ most. before_end l ≤ most)
same_hint hint known l e h = subst (λ (k : ℕ × Option ℕ). IfSome k.1 (λ most. before_end l ≤ most)) (sym e) h
