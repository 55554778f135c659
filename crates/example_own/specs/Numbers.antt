-- The items of a counter.
use Rattle.std.specs.List.{FoldsTo, range_with_len}
use Rattle.std.proofs.Common.{◌≡◌, ◌+◌, ◌-◌, ℕ, suc, List, arith, refl}
use Rattle.futures_lite.specs.Lists.{Lists}
use Rattle.futures_lite.specs.Own.{lists_by_steps}
use Rattle.example_own.specs.Counter.{CounterStep}
use Rattle.example_own.specs.declared.counter.Counter.{Counter}

-- The numbers that are to come.
abbrev pub numbers_left : Counter → List ℕ
numbers_left x = range_with_len x.next (x.end - x.next)

-- These are its items: an item is the first of them, and the end of the stream comes if there is none.
pub counter_lists : (x : Counter) → Lists (FoldsTo CounterStep) x (numbers_left x)
counter_lists =
    lists_by_steps CounterStep numbers_left (λ x y h. absurd h)
    (λ x y n h. let e : x.end - x.next ≡ suc (x.end - (x.next + 1)) = omega (arith, h.0) in rw (h.1, h.2, e) refl)
    (λ x y h. let e : x.end - x.next ≡ 0 = omega (arith, h.0) in rw e refl)
