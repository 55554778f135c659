-- `fold`: the function makes the next accumulator of the accumulator and the item. The value is the accumulator at the
-- end of the stream.
use Rattle.std.specs.Prelude.{◌≡◌, Option, Some, None, IsSome, refl}
use Rattle.lite_consume.specs.Consuming.{Fold}
use Rattle.lite_consume.specs.Uses.{Mut}
use Rattle.std.specs.Fn.{Called}

-- The state is the function and the accumulator, which is `None` once it was returned.
module _ {F T A : Type 0} (call : F → T × A → T → F → Type 0) where
  -- The function is called with the accumulator and the item, and returns the next accumulator. No item decides the
  -- value.
  abbrev pub FoldStep : F × Option T → A → Option T → F × Option T → Type 0
  FoldStep p x (Some r) q = ⊥
  FoldStep p x None q = (a : T) × (b : T) × (p.1 ≡ Some a) × call p.0 (a, x) b q.0 × (q.1 ≡ Some b)

  -- The value is the accumulator at the end of the stream.
  abbrev pub folds : Fold (F × Option T) A T
  folds = record { asks = FoldStep; closes = λ p r q. (p.1 ≡ Some r) × (q ≡ (p.0, None)) }

  -- After an item there is an accumulator.
  pub folds_open : (p q : F × Option T) (x : A) → FoldStep p x None q → IsSome q.1
  folds_open p q x h = rw h.4 refl

-- Calls of functions with two arguments, as `fold` makes them.

-- A call of the function `g` with the two arguments in `xs`: it goes from the state `p` to `q` and returns `y`.
abbrev pub CallsBoth : {F A B C : Type 0} → Mut F (A × (B × Unit {0})) C → F → A × B → C → F → Type 0
CallsBoth g p xs y q = Called g p (xs.0, (xs.1, tt)) y q
