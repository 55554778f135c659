use Rattle.std.proofs.Common.{◌≡◌, ◌<◌, ℕ, List, [], ◌∷◌, rules}
use Rattle.std.specs.Prelude.{Option, Some, None, IfSome}
use Rattle.lite_future.specs.Ready.{GivesHeld}
use Rattle.lite_future.specs.declared.ready.Ready.{Ready as ReadyFuture}
use Rattle.futures_lite.specs.Answers.{Gives, Pending, Poll, Ready}
use Rattle.futures_lite.specs.Futures.{Finishes}
use Rattle.futures_lite.specs.Laws.Each.{each_any, each_handed, each_expanding}
use Rattle.nests_polled.proofs.families.digits.Goals as goal

abbrev IsDigit : ReadyFuture ℕ → Type 0
IsDigit v = IfSome v.value (λ d. d < 10)

-- a future that is ready with a digit gives a digit
held : (o : Option ℕ) (l : List (Poll ℕ)) (left : Option ℕ) (y : ℕ) → IfSome o (λ d. d < 10) → Gives l y
    → GivesHeld o l left → y < 10
held o [] left y small g h = absurd g
held None (a ∷ l) left y small g h = absurd h
held (Some d) (Pending ∷ l) left y small g h = absurd (cc (h.0))
held (Some d) (Ready z ∷ l) left y small g h = let same : y ≡ d = cc (g.0, h.0) in rw same small

gives : (v : ReadyFuture ℕ) (l : List (Poll ℕ)) (y : ℕ) → IsDigit v
    → Finishes (λ u i w. GivesHeld u.value i w.value) v l y → y < 10
gives v l y small f = held v.value l f.last.value y small f.gives f.came

pub returns : goal.returns
returns c =
    let ran = c.run.ensures.ran in
    let related = rw c.then-digits.ensures.parts at ran.2.related in
    let digits =
    each_expanding _ _ _ (λ d. d < 10)
    (λ p q x v l left any called given. let small : IsDigit v = search rules in
    each_handed _ IsDigit (λ d. d < 10) gives v l left small given)
    _ _ ran.2.ins ran.0 _ (each_any ran.2.ins) related in
    (ran.0, ran.1, ran.3, ran.4, digits)
