-- `try_fold`: as `fold` over what the `Ok` items hold. The first error, an item's or one that the function returns, is
-- the value.
use Rattle.std.specs.Prelude.{◌≡◌, Option, Some, None, Result, Ok, Err, IsSome, refl}
use Rattle.lite_consume.specs.Consuming.{Fold}

-- The state is the function and the accumulator, which is `None` once it was returned.
module _ {F B T E : Type 0} (call : F → B × T → Result B E → F → Type 0) where
  -- For an `Ok` item the function returns the next accumulator, or an error, which is the value. An item that is an
  -- error is the value.
  abbrev pub TryFoldStep : F × Option B → Result T E → Option (Result B E) → F × Option B → Type 0
  TryFoldStep p (Ok x) None q = (a : B) × (b : B) × (p.1 ≡ Some a) × call p.0 (a, x) (Ok b) q.0 × (q.1 ≡ Some b)
  TryFoldStep p (Ok x) (Some r) q =
      (a : B) × (e : E) × (p.1 ≡ Some a) × call p.0 (a, x) (Err e) q.0 × (r ≡ Err e) × (q.1 ≡ None)
  TryFoldStep p (Err e) None q = ⊥
  TryFoldStep p (Err e) (Some r) q = (r ≡ Err e) × (q ≡ p)

  -- The value is the accumulator at the end of the stream, in `Ok`, or the first error.
  abbrev pub try_fold_steps : Fold (F × Option B) (Result T E) (Result B E)
  try_fold_steps =
      record {
        asks = TryFoldStep;
        closes = λ p r q. (a : B) × (p.1 ≡ Some a) × (r ≡ Ok a) × (q ≡ (p.0, None));
      }

  -- After an item that is consumed there is an accumulator.
  pub tries_fold_open : (p q : F × Option B) (x : Result T E) → TryFoldStep p x None q → IsSome q.1
  tries_fold_open p q (Ok x) h = rw h.4 refl
  tries_fold_open p q (Err e) h = absurd h
