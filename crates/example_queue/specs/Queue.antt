-- A bounded queue, and what receiving from it returns.
use Rattle.std.specs.Prelude.{◌≡◌, ◌≤◌, ℕ, List, [], ◌∷◌, length, Bool, true, false, Some, None}
use Rattle.futures_lite.specs.Answers.{Answer, Pending, Ready}
use Rattle.example_queue.specs.declared.send_error.SendError.{SendError}
use Rattle.example_queue.specs.declared.send_error.SendError.TheVariants.{Closed, Full, Memory}

-- A queue: its items, the first one first, how many it may hold, and whether it is closed.
pub record Queued (T : Type 0) : Type 0 where
  pub waiting : List T
  pub bound : ℕ
  pub is_closed : Bool

module _ {T : Type 0} where
  -- The queue `x` refuses the item for this reason, and hands it back.
  abbrev pub HandsBack : Queued T → T → SendError T → Type 0
  HandsBack x item (Closed back) = (back ≡ item) × (x.is_closed ≡ true)
  HandsBack x item (Full back) = (back ≡ item) × (x.is_closed ≡ false) × (x.bound ≤ length x.waiting)
  HandsBack x item (Memory back) = (back ≡ item) × (x.is_closed ≡ false)

  -- One poll of the queue `x` returns this result and leaves `y`.
  abbrev pub QueueStep : Queued T → Answer T → Queued T → Type 0
  QueueStep x Pending y = (x.waiting ≡ []) × (x.is_closed ≡ false) × (y ≡ x)
  QueueStep x (Ready (Some item)) y = (x.waiting ≡ item ∷ y.waiting) × (y ≡ record x { waiting = y.waiting })
  QueueStep x (Ready None) y = (x.waiting ≡ []) × (x.is_closed ≡ true) × (y ≡ x)
