-- `position`: the number of the first item that the predicate accepts, counted from 0 modulo 2^64.
use Rattle.std.specs.Prelude.{◌≡◌, ℕ, ◌+◌, ◌%◌, ◌^◌, Option, Some, None, Bool, true, false}
use Rattle.lite_consume.specs.Uses.{Question}
use Rattle.lite_consume.specs.Consuming.{Fold}

module _ {F A : Type 0} (test : Question F A Bool) where
  -- The state is the predicate and the number of the next item. An item that is rejected is consumed, and the number of
  -- the first accepted one is the value.
  abbrev pub PositionStep : F × ℕ → A → Option (Option ℕ) → F × ℕ → Type 0
  PositionStep p x None q = test p.0 x false q.0 × (q.1 ≡ (p.1 + 1) % 2 ^ 64)
  PositionStep p x (Some r) q = (r ≡ Some p.1) × test p.0 x true q.0 × (q.1 ≡ p.1)

  -- The value is the number of the first item that the predicate accepts, or `None` if it accepts none before the end
  -- of the stream.
  abbrev pub positions : Fold (F × ℕ) A (Option ℕ)
  positions = record { asks = PositionStep; closes = λ p r q. (r ≡ None) × (q ≡ p) }
