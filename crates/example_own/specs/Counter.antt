-- What one poll of a counter returns.
use Rattle.std.specs.Prelude.{◌≡◌, ℕ, ◌+◌, ◌-◌, ◌<◌, ◌≤◌, Some, None}
use Rattle.std.proofs.Common.{arith}
use Rattle.futures_lite.specs.Answers.{Answer, Pending, Ready}
use Rattle.futures_lite.specs.Own.{ItemsLower}
use Rattle.example_own.specs.declared.counter.Counter.{Counter}

-- One poll of `x` returns this result and leaves `y`.
abbrev pub CounterStep : Counter → Answer ℕ → Counter → Type 0
CounterStep x Pending y = ⊥
CounterStep x (Ready (Some n)) y = (x.next < x.end) × (n ≡ x.next) × (y ≡ record x { next = x.next + 1 })
CounterStep x (Ready None) y = (x.end ≤ x.next) × (y ≡ x)

-- How many items are to come.
abbrev pub items_left : Counter → ℕ
items_left x = x.end - x.next

pub counter_lowers : ItemsLower CounterStep items_left
counter_lowers =
    record {
      by_item = λ x y n h. rw h.2 (omega (arith, h.0));
      by_pending = λ x y h. absurd h;
      by_end = λ x y h. rw h.1 (omega arith);
    }
