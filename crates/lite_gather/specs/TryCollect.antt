-- `try_collect`: as `collect` over what the `Ok` items hold. The first error among the items is the value.
use Rattle.std.specs.Prelude.{◌≡◌, ⊤, List, Option, Some, None, Result, Ok, Err, IsSome, refl}
use Rattle.lite_gather.specs.Uses.{Fold}
use Rattle.lite_gather.specs.Gathering.{Kept, Took}
use Rattle.lite_gather.specs.declared.refused.TryCollectError.{TryCollectError}
use Rattle.lite_gather.specs.declared.refused.TryCollectError.TheVariants.{Source, Memory}

-- The value of `try_collect` is not an allocation failure. Values of `collect`, `partition` and `unzip` are none if
-- they are `Ok`. A run without such a value is ample if its stream's run is (`consumed_ample`).
abbrev pub HasMemory : {C T E : Type 0} → Result C (TryCollectError C T E) → Type 0
HasMemory (Ok c) = ⊤
HasMemory (Err (Source e)) = ⊤
HasMemory (Err (Memory m)) = ⊥

-- `may_refuse c x` says that the collection `c` may refuse `x`, which an item holds. The state is the collection, or
-- `None` once it was returned.
module _ {C T E : Type 0} (may_refuse : C → T → Type 0) (holds : C → List T → Type 0) where
  -- What an `Ok` item holds is put into the collection, or a collection that may refuse it does. An item that is an
  -- error is the value.
  abbrev pub TryCollected : Option C → Result T E → Option (Result C (TryCollectError C T E)) → Option C → Type 0
  TryCollected p (Ok x) None q = (c d : C) × (p ≡ Some c) × Took holds c x d × (q ≡ Some d)
  TryCollected p (Ok x) (Some r) q = (c d : C) × (p ≡ Some c) × may_refuse c x × Kept holds c d
      × (r ≡ Err (Memory (record { collected = d; item = x }))) × (q ≡ None)
  TryCollected p (Err e) None q = ⊥
  TryCollected p (Err e) (Some r) q = (r ≡ Err (Source e)) × (q ≡ p)

  -- The value is the collection at the end of the stream, in `Ok`, or the first error of the stream, or a refused item
  -- with the collection.
  abbrev pub tries_collect : Fold (Option C) (Result T E) (Result C (TryCollectError C T E))
  tries_collect = record { asks = TryCollected; closes = λ p r q. (c : C) × (p ≡ Some c) × (r ≡ Ok c) × (q ≡ None) }

  -- After an item that is consumed there is a collection.
  pub tries_collect_open : (p q : Option C) (x : Result T E) → TryCollected p x None q → IsSome q
  tries_collect_open p q (Ok x) h = rw h.4 refl
  tries_collect_open p q (Err e) h = absurd h
