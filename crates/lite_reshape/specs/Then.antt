-- `then`: each item is replaced by the results of the future that the function makes of it, its value as an item.
use Rattle.std.specs.Prelude.{◌≡◌, ℕ, ◌+◌, ◌-◌, ◌^◌, min, List, [], Option, Some, None, IfSome, cond, nat_lt}
use Rattle.lite_reshape.specs.Uses.{Mut, Poll, Answer, handed, Calls, Question, Runs, AtEachItem, AdapterParts, Through, parts_of}
use Rattle.lite_base.specs.Spent.{Spends}
use Rattle.std.specs.Fn.{Called}
use Rattle.lite_reshape.specs.Expanding.{Expanding}
use Rattle.lite_reshape.specs.declared.then.Then.{Then}

-- The poll results of a future, its value as an item. The future is held until that value, and is gone after it.
abbrev pub HandsOut : {V B : Type 0} → Runs (Poll B) V → V → List (Answer B) → Option V → Type 0
HandsOut run v out left = Spends run (handed Some) (λ after. after ≡ []) (Some v) out left

-- The source's results, each item replaced by the poll results of the future that the function makes of it: some
-- `Pending`s, and then its value as an item.
abbrev pub Thens : {S F V A B : Type 0} → Runs (Answer A) S → Question F A V → Runs (Poll B) V
    → Runs (Answer B) (Then S F V)
Thens run call run' x l y =
    Through run (Expanding call (HandsOut run')) x.stream (x.f, x.future) l y.stream (y.f, y.future)

-- A `Then` consists of its source, and of its function with the future that it holds.
abbrev pub then_parts : {S F V : Type 0} → AdapterParts (Then S F V) S (F × Option V)
then_parts =
    parts_of (λ m. m.stream) (λ m. (m.f, m.future)) (λ s h. record { stream = s; future = h.1; f = h.0 }) (λ x y p. p)

-- The function may be called with each item that the stream may still yield, and `Fact` holds of what it then returns.
abbrev pub MakesEach : {S F V A : Type 0} → Runs (Answer A) S → Mut F (A × Unit {0}) V → (V → Type 0) → S → F → Type 0
MakesEach {F = F} {V = V} run g Fact =
    AtEachItem run (Calls g) (λ p x. g.pre p (x, tt) × ((v : V) (q : F) → Called g p (x, tt) v q → Fact v))

-- The stream may be polled: the source may be polled, and so may each future that the function makes or that is held.
abbrev pub CanThen : {S F V : Type 0} → (S → Type 0) → (S → F → Type 0) → (V → Type 0) → Then S F V → Type 0
CanThen can_poll makes can_poll' x = can_poll x.stream × makes x.stream x.f × IfSome x.future can_poll'

-- `Some(n + 1)`, or `None` if that does not fit into 64 bits.
abbrev pub one_more : ℕ → Option ℕ
one_more n = cond (nat_lt n (2 ^ 64 - 1)) (Some (n + 1)) None

-- One more than an upper bound. It is `None` if no bound is given or the sum does not fit.
abbrev pub one_more_at_most : Option ℕ → Option ℕ
one_more_at_most None = None
one_more_at_most (Some n) = one_more n

-- The source's size hint, and one more item on both sides while a future is held. The lower bound saturates, and an
-- upper bound that would not fit is `None`.
abbrev pub then_hint : {V : Type 0} → Option V → ℕ × Option ℕ → ℕ × Option ℕ
then_hint None hint = hint
then_hint (Some v) hint = (min (hint.0 + 1) (2 ^ 64 - 1), one_more_at_most hint.1)
