-- The items of a counter that ends at 100 or before.
use Rattle.std.specs.List.{FoldsTo}
use Rattle.std.proofs.Common.{◌≡◌, ◌<◌, ◌≤◌, ◌%◌, ℕ, List, Some, None, arith}
use Rattle.std.specs.Fn.{CalledAt, Mut}
use Rattle.std.specs.Prelude.{Bool, true}
use denote.Ref.{Bor}
use Rattle.futures_lite.specs.Answers.{Answer, EachItem, Pending, Ready, item}
use Rattle.futures_lite.specs.Calls.{Accepts}
use Rattle.futures_lite.specs.Families.{LeavesOut}
use Rattle.futures_lite.specs.Laws.Each.{each_accepted}
use Rattle.futures_lite.specs.Laws.Sources.{each_stepped}
use Rattle.example_own.specs.Counter.{CounterStep}
use Rattle.example_own.specs.declared.counter.Counter.{Counter}

-- No step moves the end of the counter.
keeps : (x y : Counter) (a : Answer ℕ) → x.end ≤ 100 → CounterStep x a y → y.end ≤ 100
keeps x y Pending low h = absurd h
keeps x y (Ready (Some n)) low h = rw h.2 low
keeps x y (Ready None) low h = rw h.1 low

gives : (x y : Counter) (n : ℕ) → x.end ≤ 100 → CounterStep x (item n) y → n < 100
gives x y n low h = rw h.1 (omega (arith, low, h.0))

pub each_below : (x y : Counter) (l : List (Answer ℕ)) → x.end ≤ 100 → FoldsTo CounterStep x l y
    → EachItem (λ n. n < 100) l
each_below = each_stepped CounterStep (λ x. x.end ≤ 100) (λ n. n < 100) keeps gives

-- The even items, if each item of the source is below 100.
module _ {F : Type 0} (g : Mut F (Bor ℕ × Unit {0}) Bool) (p q : F) (i o : List (Answer ℕ)) where
  pub even_left : ((p q : F) (n : ℕ) → CalledAt g p n true q → n % 2 ≡ 0) → EachItem (λ n. n < 100) i
      → LeavesOut (Accepts (CalledAt g)) p i o q → EachItem (λ n. (n % 2 ≡ 0) × (n < 100)) o
  even_left even =
      each_accepted g (λ n. n < 100) (λ n. (n % 2 ≡ 0) × (n < 100))
      (λ p q n low called. (even p q n called, low)) p q i o
