-- More about `stop_after_future`: what its methods take out, when it may be polled, its size hint, and what a pending
-- poll registers.
use Rattle.std.specs.Prelude.{◌≡◌, ◌⊎◌, ℕ, Option, Some, None, IfSome, ⊤}
use Rattle.lite_merge.specs.Uses.{Lasting, AdapterParts, parts_of, Hints}
use Rattle.lite_merge.specs.declared.stop_after_future.StopAfterFuture.{StopAfterFuture}
use Rattle.lite_merge.specs.declared.stop_after_future.Stopping.TheVariants.{Holding, TakenOut, Stopped}
use Rattle.lite_merge.specs.declared.stop_after_future.Stopping.{Stopping}

-- A `StopAfterFuture` consists of its source, and of its future or what has become of it.
abbrev pub stop_parts : {S F R : Type 0} → AdapterParts (StopAfterFuture S F R) S (Stopping F R)
stop_parts = parts_of (λ m. m.stream) (λ m. m.future) (λ s h. record { stream = s; future = h }) (λ x y p. p)

-- The future, while it is held.
abbrev pub future_of : {F R : Type 0} → Stopping F R → Option F
future_of (Holding f) = Some f
future_of TakenOut = None
future_of (Stopped r) = None

-- What remains once the future is taken out.
abbrev pub without_future : {F R : Type 0} → Stopping F R → Stopping F R
without_future (Holding f) = TakenOut
without_future TakenOut = TakenOut
without_future (Stopped r) = Stopped r

-- The future's value, if it stopped the stream and was not taken out since.
abbrev pub result_of : {F R : Type 0} → Stopping F R → Option R
result_of (Holding f) = None
result_of TakenOut = None
result_of (Stopped r) = r

-- What remains once the value is taken out.
abbrev pub without_result : {F R : Type 0} → Stopping F R → Stopping F R
without_result (Holding f) = Holding f
without_result TakenOut = TakenOut
without_result (Stopped r) = Stopped None

-- The stream was stopped: its future returned its value, or the stream ended.
abbrev pub IsStopped : {F R : Type 0} → Stopping F R → Type 0
IsStopped (Holding f) = ⊥
IsStopped TakenOut = ⊥
IsStopped (Stopped r) = ⊤

-- The stream may be polled: the source may be polled, and so may the future while it is held.
abbrev pub CanStop : {S F R : Type 0} → (S → Type 0) → (F → Type 0) → StopAfterFuture S F R → Type 0
CanStop can_poll can_poll' m = can_poll m.stream × IfSome (future_of m.future) can_poll'

-- The size hint is `(0, upper)` with the source's upper bound, and `(0, Some(0))` once the stream was stopped.
abbrev pub HintsBy : {F R : Type 0} → (ℕ × Option ℕ → Type 0) → Hints (Stopping F R)
HintsBy hints (Holding f) hint = (inner : ℕ × Option ℕ) × hints inner × (hint ≡ (0, inner.1))
HintsBy hints TakenOut hint = (inner : ℕ × Option ℕ) × hints inner × (hint ≡ (0, inner.1))
HintsBy hints (Stopped r) hint = hint ≡ (0, Some 0)

-- The size hint of a `stop_after_future`, by what has become of its future.
abbrev pub StopHints : {S F R : Type 0} → Hints S → Hints (StopAfterFuture S F R)
StopHints hints m hint = HintsBy (hints m.stream) m.future hint

-- What a poll that returns `Pending` registers: what the source registers, and what the future registers that is still
-- held. A stream that was stopped registers nothing.
abbrev pub RegistersBy : {F R : Type 0} → Type 0 → (F → Type 0) → Stopping F R → Type 0
RegistersBy registers registers' (Holding f) = registers ⊎ registers' f
RegistersBy registers registers' TakenOut = registers
RegistersBy registers registers' (Stopped r) = ⊥

-- What a `stop_after_future` registers when it returns `Pending`.
abbrev pub StopRegisters : {S F R : Type 0} → (S → Lasting → Type 0) → (F → Lasting → Type 0) → StopAfterFuture S F R
    → Lasting → Type 0
StopRegisters registers registers' m fact = RegistersBy (registers m.stream fact) (λ f. registers' f fact) m.future
